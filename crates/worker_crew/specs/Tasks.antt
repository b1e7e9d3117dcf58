-- What is run, and what a run of it is.
use Rattle.std.specs.Prelude.{◌≡◌, ℕ, ◌+◌, ◌≤◌, List, length}
use Rattle.fcp_model.specs.Programs.{Program}
use Rattle.fcp_model.specs.States.{State}
use Rattle.fcp_model.specs.ClosedPrograms.{IsClosed}
use Rattle.fcp_model.specs.Events.{Event}
use Rattle.fcp_model.specs.Runs.{IsRun, entries_of, cells_of}
use Rattle.fcp_model.specs.Outcomes.{Ends}
use Rattle.fcp_model.specs.LawfulControls.{AreLawful}
use Rattle.fcp_model.specs.OneWorker.{Schedule, IsOneWorkerRun}
use Rattle.fcp_model.specs.Translation.{program_of, start_of}
use Rattle.goal_layout.specs.Goals.{MayBeLaid}
use Rattle.trial_machine.specs.Deciding.{IsCodeOf}
use Rattle.worker_crew.specs.declared.task.Task.{Task}
use Rattle.worker_crew.specs.declared.task.Run.{Run}

-- the task's program, the state before the first entry, and how many variables the goal has
abbrev pub program : Task → Program
program t = program_of t.loaded.now

abbrev pub first_state : Task → State
first_state t = start_of t.loaded.now t.goal.now.0

abbrev pub vars : Task → ℕ
vars t = length t.goal.now.0.names

-- The program is closed, the goal may be laid, the code is that of the program, the limits are small, and a run can keep the controls, of
-- which there are few.
pub record IsTask (t : Task) : Type 0 where
  pub closed : IsClosed (program t)
  pub laid : MayBeLaid t.loaded.now t.goal.now
  pub code : IsCodeOf t.code.now (program t)
  pub commits : t.limits.commits ≤ 1000000
  pub moves : t.limits.moves ≤ 1000000
  pub cells : t.limits.cells ≤ 64000000
  pub lawful : AreLawful t.controls.now
  pub few : length t.controls.now ≤ 64

-- The log is a run of the task's program from its first state, within the cells of its limits, with at most as many entries as there may
-- be moves and controls.
pub record HasLog (t : Task) (r : Run) : Type 0 where
  pub events : List Event
  pub run : IsRun (program t) (first_state t) r.log.items events
  pub cells : cells_of events ≤ t.limits.cells
  pub few : length r.log.items ≤ 1000064

-- The run is that of one worker: its log, its outcome, and how many of the controls were made.
pub record IsAlone (t : Task) (r : Run) : Type 0 where
  pub events : List Event
  pub last : Schedule
  pub run : IsOneWorkerRun (program t) t.limits (first_state t) t.controls.now events last
  pub log : r.log.items ≡ entries_of events
  pub outcome : Ends (program t) t.limits (first_state t) events r.outcome
  pub reached : r.reached + length last.controls ≡ length t.controls.now
