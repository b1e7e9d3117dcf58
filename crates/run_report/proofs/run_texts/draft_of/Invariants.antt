use Rattle.std.proofs.Common.{◌≡◌, List, length}
use Rattle.fcp_model.specs.Events.{Event}
use Rattle.log_replay.specs.Replays.{room_of}
use Rattle.run_report.specs.Parts.{IsDraft}
use Rattle.run_report.proofs.OnTheWay.{IsOnTheWay}
use Rattle.run_report.proofs.run_texts.draft_of.Given as goal

abbrev pub invariant-loop-entry : goal.invariant-loop-entry
invariant-loop-entry l = record {
  before : List Event;
  way : IsOnTheWay l.task l.log l.entry-index before;
  draft : IsDraft l.names l.task before l.draft;
  room : room_of l.draft.replay ≡ length l.log;
}
