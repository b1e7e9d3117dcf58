-- How far the entries of a log were made again, and what was written of them. Only the crate's private clauses cite this file.
use Rattle.std.specs.Prelude.{◌≡◌, ℕ, ◌+◌, ◌<◌, ◌≤◌, List, [], length}
use Rattle.fcp_model.specs.declared.run.Entry.{Entry}
use Rattle.fcp_model.specs.Events.{Event}
use Rattle.fcp_model.specs.Runs.{IsRun, last_state, cells_of}
use Rattle.fcp_model.specs.Spelling.{Bytes}
use Rattle.fcp_model.specs.LogText.{log_head, event_lines}
use Rattle.fcp_model.specs.ReportText.{snapshot_text, snapshot_texts}
use Rattle.entry_lines.specs.Additions.{Adds}
use Rattle.log_replay.specs.declared.replay.Replay.{Replay}
use Rattle.log_replay.specs.Replays.{IsReplayed, IsNext, room_of}
use Rattle.worker_crew.specs.declared.task.Task.{Task}
use Rattle.worker_crew.specs.Tasks.{program, first_state}
use Rattle.run_report.specs.declared.draft.Draft.{Draft}
use Rattle.run_report.specs.Texts.{variables}

-- The log is a run of the task's program from its first state, within the cells of its limits, and has few entries.
pub record HasEvents (t : Task) (log : List Entry) : Type 0 where
  pub events : List Event
  pub run : IsRun (program t) (first_state t) log events
  pub cells : cells_of events ≤ t.limits.cells
  pub few : length log ≤ 1000064

-- the replay stands behind these events of a run of the task
abbrev pub IsMade : Task → List Event → Replay → Type 0
IsMade t evs r = IsReplayed (program t) (first_state t) t.limits.cells evs r

-- The entry's event may come behind these events.
pub record Follows (t : Task) (evs : List Event) (e : Entry) (ev : Event) : Type 0 where
  pub is_next : IsNext (program t) (last_state (first_state t) evs) e ev
  pub within : cells_of evs + ev.cells ≤ t.limits.cells

-- The entry has an event behind those that were made again, and there is room for it.
pub record HasNext (t : Task) (e : Entry) (r : Replay) : Type 0 where
  pub events : List Event
  pub made : IsMade t events r
  pub event : Event
  pub follows : Follows t events e event
  pub room : length events < room_of r

-- So many entries were made again.
pub record HasMade (t : Task) (entries : ℕ) (r : Replay) : Type 0 where
  pub events : List Event
  pub made : IsMade t events r
  pub count : length events ≡ entries

-- the snapshot of the state behind these events was put after the text
abbrev pub AddsSnapshot : List Bytes → Task → List Event → Bytes → Bytes → Type 0
AddsSnapshot names t evs old new = Adds old new (λ n. snapshot_text n names (variables t) (program t) (last_state (first_state t) evs))

-- These events were made again, and their lines and their snapshots were written.
pub record IsDraft (names : List Bytes) (t : Task) (evs : List Event) (d : Draft) : Type 0 where
  pub made : IsMade t evs d.replay
  pub count : d.entries ≡ length evs
  pub log : Adds log_head d.log.items (λ n. event_lines n names evs)
  pub snapshots : Adds [] d.snapshots.items (λ n. snapshot_texts n names (variables t) (program t) evs)

-- Some events were made again and written, and the entry has an event behind them, for which there is room.
pub record DraftHasNext (names : List Bytes) (t : Task) (e : Entry) (d : Draft) : Type 0 where
  pub events : List Event
  pub draft : IsDraft names t events d
  pub event : Event
  pub follows : Follows t events e event
  pub room : length events < room_of d.replay
  pub few : length events < 1000064

-- some events were made again and written
pub record IsSomeDraft (names : List Bytes) (t : Task) (d : Draft) : Type 0 where
  pub events : List Event
  pub draft : IsDraft names t events d
