use Rattle.std.proofs.Common.{drop}
use Rattle.fcp_model.specs.ProcedureNames.{procedure_names}
use Rattle.fcp_model.specs.Translation.{goals_of}
use Rattle.clause_compiler.specs.ClauseCode.{body_code}
use Rattle.head_code.proofs.PutLoops.{Remains}
use Rattle.clause_compiler.proofs.bodies.body.Given as goal

abbrev pub invariant-loop-item : goal.invariant-loop-item
invariant-loop-item l =
    Remains l.fn.code l.code (body_code l.base (goals_of (procedure_names l.loaded.clauses) l.items))
    (body_code l.base (goals_of (procedure_names l.loaded.clauses) (drop l.item-index l.items)))
