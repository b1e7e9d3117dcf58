use Rattle.std.proofs.Common.{ap, ◌∙◌}
use Rattle.std.proofs.lemmas.Option.{slice_get-get_or}
use Rattle.trial_machine.proofs.HandingOver.{taken_over, left_out}
use Rattle.trial_machine.proofs.trial.fill_binds.Goals as goal
use Rattle.trial_machine.proofs.trial.fill_binds.Goals.{then-bind-lt-OWN+in_ok-put_bind, else-bind-lt-OWN}

pub loop-bind-preserved : goal.loop-bind-preserved
loop-bind-preserved c =
    let there = slice_get-get_or c.args.binds.now c.loop-bind.bind-index (0, 0) c.loop-bind-test.true in
    elim c.if-bind-lt-OWN.branch [
      | then-bind-lt-OWN+in_ok-put_bind w ↦ taken_over c.args.binds.now c.loop-bind.line.items _ c.loop-bind.bind-index _ there
          c.loop-bind.invariant w.if-bind-lt-OWN.true
          (ap (λ v. v.items) w.line-is ∙ w.in_ok-put_bind.ensures)
      | else-bind-lt-OWN w ↦ ap (λ v. v.items) w.line-is
          ∙ left_out c.args.binds.now c.loop-bind.line.items c.loop-bind.bind-index _ there c.loop-bind.invariant w.if-bind-lt-OWN.false
    ]
