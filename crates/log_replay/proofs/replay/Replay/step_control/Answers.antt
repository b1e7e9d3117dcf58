use Rattle.std.proofs.Common.{◌∙◌, sym}
use Rattle.log_replay.proofs.StepAnswers.{control_done}
use Rattle.log_replay.proofs.replay.Replay.step_control.Goals as goal

pub returns-clause-says : goal.returns-clause-says
returns-clause-says c = λ m from cells evs h.
    control_done m from cells evs c.args.self.now h c.args.control c.requires.control c.in-Some.mode
    (sym c.mode_behind.ensures ∙ c.in-Some.is) c.requires.room c.stamp.new.self c.stamp.ensures
