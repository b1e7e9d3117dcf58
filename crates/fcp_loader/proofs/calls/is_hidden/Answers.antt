use Rattle.std.proofs.Common.{nat_eq, length, sym, ◌∙◌}
use Rattle.std.proofs.lemmas.Bool.{and_left, and_right, ne_eqb}
use Rattle.fcp_loader.proofs.HiddenCalls.{is_hidden-some, is_hidden-none}
use Rattle.fcp_loader.proofs.calls.is_hidden.Goals as goal
use Rattle.fcp_loader.proofs.calls.is_hidden.Goals.{then-name-eq0+else-len-eq0, else-name-eq0}

pub returns-in-Some : goal.returns-in-Some
returns-in-Some c =
    is_hidden-some c.args.loaded.now c.args.call.now c.in-User.name c.in-User.args c.in-User.is
    (elim c.if-name-eq0.branch [
      | then-name-eq0+else-len-eq0 w ↦ and_right (nat_eq c.in-User.name.0 0) (nat_eq (length c.in-User.args) 0)
          (ne_eqb (length c.in-User.args) 0 (λ e. w.if-len-eq0.false (w.len.ensures ∙ e)))
      | else-name-eq0 w ↦ and_left (nat_eq c.in-User.name.0 0) (nat_eq (length c.in-User.args) 0)
          (ne_eqb c.in-User.name.0 0 w.if-name-eq0.false)
    ])
    c.in-Some.procedure c.exported.result (sym c.in-Some.ensures) c.exported.ensures

pub returns-in-None : goal.returns-in-None
returns-in-None c =
    is_hidden-none c.args.loaded.now c.args.call.now c.in-User.name c.in-User.args c.in-User.is
    (elim c.if-name-eq0.branch [
      | then-name-eq0+else-len-eq0 w ↦ and_right (nat_eq c.in-User.name.0 0) (nat_eq (length c.in-User.args) 0)
          (ne_eqb (length c.in-User.args) 0 (λ e. w.if-len-eq0.false (w.len.ensures ∙ e)))
      | else-name-eq0 w ↦ and_left (nat_eq c.in-User.name.0 0) (nat_eq (length c.in-User.args) 0)
          (ne_eqb c.in-User.name.0 0 w.if-name-eq0.false)
    ])
    (sym c.in-None.ensures)
