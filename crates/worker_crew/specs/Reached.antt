-- What the engine keeps: it stands where the run of one worker stands, and the hall's log has the entries of that run.
-- Only the crate's private clauses cite this file.
use Rattle.std.specs.Prelude.{◌≡◌, ℕ, ◌+◌, ◌-◌, ◌≤◌, ◌<◌, false, List, ◌++◌, length, drop}
use Rattle.fcp_model.specs.declared.run.Control.{Control}
use Rattle.fcp_model.specs.declared.run.Outcome.{Outcome}
use Rattle.fcp_model.specs.States.{Mode, is_open, is_held, is_aborted}
use Rattle.fcp_model.specs.Events.{Event}
use Rattle.fcp_model.specs.Runs.{entries_of}
use Rattle.fcp_model.specs.OneWorker.{Schedule, IsOneWorkerRun}
use Rattle.fcp_laws.specs.Endings.{outcome_at}
use Rattle.word_states.specs.Standing.{Book}
use Rattle.goal_layout.specs.Goals.{LaysGoal}
use Rattle.commit_engine.specs.PlainHalls.{IsPlain, holds_of}
use Rattle.run_laws.specs.Running.{Setting, Counts, StandsAt, IsGoing}
use Rattle.worker_crew.specs.declared.mode.RunMode.{RunMode}
use Rattle.worker_crew.specs.declared.mode.RunMode.TheVariants as mode
use Rattle.worker_crew.specs.declared.task.Task.{Task}
use Rattle.worker_crew.specs.declared.engine.Engine.{Engine}
use Rattle.worker_crew.specs.Tasks.{program, first_state, vars}

-- the goal was laid into these words
abbrev pub AreFirstWords : Task → List ℕ → Type 0
AreFirstWords t ws = (p : ℕ) × (old : List ℕ) × LaysGoal t.loaded.now t.goal.now.0 p old ws

-- what is run, as the laws of runs say it
abbrev pub setting : Task → Setting
setting t = record { program = program t; limits = t.limits; from = first_state t; controls = t.controls.now; vars = vars t }

-- the mode of a state
abbrev pub mode_of : RunMode → Mode
mode_of mode.Open = is_open
mode_of mode.Held = is_held
mode_of mode.Aborted = is_aborted

-- the controls that were not made yet
abbrev pub controls_left : Task → Engine → List Control
controls_left t e = drop e.made t.controls.now

-- how many entries may still be made
abbrev pub entries_left : Task → Engine → ℕ
entries_left t e = e.hall.quota.moves + length (controls_left t e)

-- what the engine counts
abbrev pub counts_of : Task → Engine → Counts
counts_of t e = record {
  passed = e.passed;
  asleep = e.asleep;
  entries = length e.hall.log.items;
  moved = t.limits.moves - e.hall.quota.moves;
  commits = e.hall.quota.commits;
  moves = e.hall.quota.moves;
  cells = e.hall.quota.cells;
  mode = mode_of e.mode;
  controls = controls_left t e;
}

-- No page of the hall is held and nothing is due. Its log has room for each entry that may still be made, and for few in all.
pub record IsAtRest (t : Task) (e : Engine) : Type 0 where
  pub plain : IsPlain e.hall
  pub free : (p : ℕ) → holds_of e.hall p ≡ false
  pub idle : e.hall.due ≡ false
  pub room : entries_left t e ≤ e.hall.spare
  pub few : length e.hall.log.items + e.hall.spare ≤ t.limits.moves + 64
  pub within : e.made ≤ length t.controls.now

-- The run leads to where the engine stands, and the log has its entries. These processes were taken from the front of the queue.
pub record IsReached (t : Task) (front : List ℕ) (e : Engine) : Type 0 where
  pub events : List Event
  pub at : Schedule
  pub book : Book
  pub stands : StandsAt (setting t) e.hall.words.items (front ++ e.queue.items) (counts_of t e) events at book
  pub log : e.hall.log.items ≡ entries_of events
  pub rest : IsAtRest t e
  -- each process that waits has made an entry
  pub few : e.asleep ≤ length e.hall.log.items

-- the run is going, and commits, moves and processes that did not go to the back are left, where one was taken from the queue
pub record HasRoom (t : Task) (e : Engine) : Type 0 where
  pub going : IsGoing (counts_of t e)
  pub commits : 0 < e.hall.quota.commits
  pub moves : 0 < e.hall.quota.moves
  pub passed : e.passed ≤ length e.queue.items

-- The run has ended with this outcome, and the log has its entries.
pub record HasEnded (t : Task) (e : Engine) (o : Outcome) : Type 0 where
  pub events : List Event
  pub last : Schedule
  pub run : IsOneWorkerRun (program t) t.limits (first_state t) t.controls.now events last
  pub outcome : o ≡ outcome_at t.limits last
  pub log : e.hall.log.items ≡ entries_of events
  pub few : length e.hall.log.items ≤ t.limits.moves + 64
  pub reached : e.made + length last.controls ≡ length t.controls.now
