use Rattle.std.proofs.Common.{◌-◌, ap, refl, sym, ◌∙◌}
use Rattle.word_commit.specs.declared.quota.Quota.{Quota}
use Rattle.worker_crew.proofs.Controls.{control_noted}
use Rattle.worker_crew.proofs.engine.Engine.make_due.Goals as goal

pub returns-clause-made : goal.returns-clause-made
returns-clause-made c = λ e.
    control_noted c.args.task.now c.args.self.now c.requires.reached c.requires.running c.in-Some.next.now c.in-Some.ensures.lookup.3.0
    (sym c.in-Some.ensures.lookup.1)
    (c.if-next-moved.false ∙ ap (λ (q : Quota). c.args.task.now.limits.moves - q.moves) c.quota.ensures) _ c.control.result
    c.control.ensures refl refl refl refl c.mode_behind-self.ensures c.leading_moves.ensures.control
