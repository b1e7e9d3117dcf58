use Rattle.std.proofs.Common.{◌≡◌, refl, sym, subst, ◌∙◌}
use Rattle.trial_machine.proofs.BuiltIns.{true_frame, true_ready, true_decided}
use Rattle.trial_machine.proofs.Arguments.{arguments_held, none_kept}
use Rattle.trial_machine.proofs.machine.Machine.decide_true.Goals as goal

pub conclude-requires-clause-ended : goal.conclude-requires-clause-ended
conclude-requires-clause-ended g c = (
  true_frame c.args.process,
  (
    1,
    c.in_ok-begin_try.ensures.begins (true_frame c.args.process) 0
        (true_ready g.met.W.Words.laws _ c.args.words.now c.args.process c.args.count c.requires.stored c.requires.call
        (none_kept c.args.self.now.trail.kept c.args.process c.leave.new.self.slots.args (c.leave.ensures.keeps.args ∙ c.requires.none))
        (arguments_held c.args.self.now _ c.requires.idle c.leave.ensures.keeps.args refl refl c.leave.ensures.becomes)) refl refl,
    refl,
  ),
)

pub returns-clause-decides : goal.returns-clause-decides
returns-clause-decides g c =
    true_decided c.args.self.now.trail.kept c.args.process c.args.count c.begin_try.new.self c.conclude.new.self c.conclude.result
    c.begin_try.ensures.kept c.requires.call
    (c.conclude.ensures.concludes (true_frame c.args.process) (
      1,
      c.in_ok-begin_try.ensures.begins (true_frame c.args.process) 0
          (true_ready g.met.W.Words.laws _ c.args.words.now c.args.process c.args.count c.requires.stored c.requires.call
          (none_kept c.args.self.now.trail.kept c.args.process c.leave.new.self.slots.args (c.leave.ensures.keeps.args ∙ c.requires.none))
          (arguments_held c.args.self.now _ c.requires.idle c.leave.ensures.keeps.args refl refl c.leave.ensures.becomes)) refl refl,
      refl,
    ))
