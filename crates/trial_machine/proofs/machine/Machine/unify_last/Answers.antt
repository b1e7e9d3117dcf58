use Rattle.trial_machine.specs.Running.{CameTo}
use Rattle.trial_machine.proofs.Concluding.{concluded_before}
use Rattle.trial_machine.proofs.BuiltIns.{on_came, left_came}
use Rattle.trial_machine.proofs.machine.Machine.unify_last.Goals.{in-On, in-Left}
use Rattle.trial_machine.proofs.machine.Machine.unify_last.Goals as goal

pub returns-clause-concludes : goal.returns-clause-concludes
returns-clause-concludes g c f at last =
    let came : CameTo c.unify.new.self f c.match-branch-2.outcome = elim c.match-branch-2.branch [
      | in-On w ↦ on_came f at c.args.self.now c.unify.new.self c.in_ok-unify.field-0 c.match-branch-2.outcome last
          c.in_ok-unify.ensures.turns w.in-On.is w.outcome-is
      | in-Left w ↦ left_came f at c.args.self.now c.unify.new.self c.in_ok-unify.field-0 c.match-branch-2.outcome last
          c.in_ok-unify.ensures.turns w.in-Left.is w.outcome-is
    ] in
    concluded_before f c.args.self.now c.unify.new.self c.conclude.new.self c.conclude.result c.in_ok-unify.ensures.loaded.grows
    (c.conclude.ensures.concludes f came)
