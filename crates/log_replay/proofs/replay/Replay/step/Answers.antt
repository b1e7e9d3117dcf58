use Rattle.std.proofs.Common.{sym, subst}
use Rattle.log_replay.specs.Replays.{StepSays}
use Rattle.log_replay.proofs.replay.Replay.step.Goals as goal

pub returns-in-Commit-clause-says : goal.returns-in-Commit-clause-says
returns-in-Commit-clause-says c = λ m from cells evs code h.
    subst (λ e. StepSays m from cells evs e c.step_move.new.self c.step_move.result) (sym c.in-Commit.is)
    (c.step_move.ensures.says m from cells evs code h)

pub returns-in-Hang-clause-says : goal.returns-in-Hang-clause-says
returns-in-Hang-clause-says c = λ m from cells evs code h.
    subst (λ e. StepSays m from cells evs e c.step_move-in-Hang.new.self c.step_move-in-Hang.result) (sym c.in-Hang.is)
    (c.step_move-in-Hang.ensures.says m from cells evs code h)

pub returns-in-Fail-clause-says : goal.returns-in-Fail-clause-says
returns-in-Fail-clause-says c = λ m from cells evs code h.
    subst (λ e. StepSays m from cells evs e c.step_move-in-Fail.new.self c.step_move-in-Fail.result) (sym c.in-Fail.is)
    (c.step_move-in-Fail.ensures.says m from cells evs code h)

pub returns-in_default : goal.returns-in_default
returns-in_default c = record {
  says = λ m from cells evs code h. c.step_control.ensures.says m from cells evs h;
  shows = c.step_control.ensures.shows;
  room = c.step_control.ensures.room;
}
