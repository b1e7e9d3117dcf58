use Rattle.std.proofs.Common.{◌≤◌, ◌^◌, sym, ◌∙◌, ap, position, inl, inr}
use Rattle.std.proofs.lemmas.Bool.{cases_lt}
use Rattle.fcp_model.specs.declared.loaded.ProcedureName.{ProcedureName}
use Rattle.fcp_model.specs.ProcedureNames.{same_procedure, Procedures}
use Rattle.fcp_model.proofs.ProcedureNameLists.{position-long}
use Rattle.fcp_model.proofs.procedure_index.ProcedureIndex.find_called.Goals as goal

pub returns-in_default : goal.returns-in_default
returns-in_default c =
    let h : ProcedureName = record { name = c.args.name; arity = c.args.args } in
    let long : 2 ^ 32 ≤ c.args.args =
    elim (cases_lt c.args.args (2 ^ 32)) [ inl short ↦ absurd (c.in_default.ensures short) | inr long ↦ long ] in
    sym (position-long c.self.inside.names.keys h (2 ^ 32) c.self.invariant.short long)
    ∙ ap (λ (ps : Procedures). position (same_procedure h) ps.names) c.self.view_is
