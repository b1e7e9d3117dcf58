-- What the report of a run is, and that of the run of one worker: the statements that the top call carries.
use Rattle.std.specs.Prelude.{◌≡◌, ℕ, ◌-◌, List, length, Some}
use Rattle.fcp_model.specs.declared.run.Limits.{Limits}
use Rattle.fcp_model.specs.declared.run.Control.{Control}
use Rattle.fcp_model.specs.declared.run.Outcome.{Outcome}
use Rattle.fcp_model.specs.Programs.{Program}
use Rattle.fcp_model.specs.States.{State}
use Rattle.fcp_model.specs.Events.{Event}
use Rattle.fcp_model.specs.Runs.{IsRun, entries_of}
use Rattle.fcp_model.specs.Bounds.{IsWithin, KeepsControls}
use Rattle.fcp_model.specs.Outcomes.{Ends}
use Rattle.fcp_model.specs.OneWorker.{Schedule, IsOneWorkerRun}
use Rattle.fcp_model.specs.Spelling.{Bytes}
use Rattle.fcp_model.specs.ReportText.{NamedTerm, report_text}

-- The bytes are the report of a run of a program from a state, and `o` is the outcome of its last state: each entry is
-- legal, the limits and the controls are kept. Any Ready process may have moved next. `names` are the numbered strings,
-- `variables` the goal's variables.
pub record IsRunReport (m : Program) (s : State) (limits : Limits) (controls : List Control) (names : List Bytes) (variables : List NamedTerm) (o : Outcome) (bytes : Bytes) : Type 0 where
  pub events : List Event
  pub run : IsRun m s (entries_of events) events
  pub within : IsWithin limits events
  -- so many of the controls were made
  pub reached : ℕ
  pub kept : KeepsControls controls reached (entries_of events)
  pub outcome : Ends m limits s events o
  pub steps : ℕ
  pub text : report_text steps names variables m s events o controls reached ≡ Some bytes

-- the same of the run of one worker
pub record IsOneWorkerReport (m : Program) (s : State) (limits : Limits) (controls : List Control) (names : List Bytes) (variables : List NamedTerm) (o : Outcome) (bytes : Bytes) : Type 0 where
  pub events : List Event
  pub last : Schedule
  pub run : IsOneWorkerRun m limits s controls events last
  pub outcome : Ends m limits s events o
  pub steps : ℕ
  pub text : report_text steps names variables m s events o controls (length controls - length last.controls) ≡ Some bytes
