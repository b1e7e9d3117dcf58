-- Where the run of one worker stands, by words.
use Rattle.std.specs.Prelude.{◌≡◌, ◌⊎◌, true, false, ℕ, ◌+◌, ◌-◌, ◌*◌, ◌<◌, ◌≤◌, List, [], ◌∷◌, length, pos, ◌||◌, nat_eq, if◌then◌else◌}
use Rattle.fcp_model.specs.declared.run.Proc.{Proc}
use Rattle.fcp_model.specs.declared.run.Entry.{Entry}
use Rattle.fcp_model.specs.declared.run.Entry.TheVariants.{Commit, Hang, Fail}
use Rattle.fcp_model.specs.declared.run.Limits.{Limits}
use Rattle.fcp_model.specs.declared.run.Control.{Control}
use Rattle.fcp_model.specs.declared.run.Outcome.{Outcome}
use Rattle.fcp_model.specs.declared.run.Outcome.TheVariants.{Failed, Aborted, Held, Terminated, Suspended, Budget, Full}
use Rattle.fcp_model.specs.Places.{Variable, place, places_among}
use Rattle.fcp_model.specs.Programs.{Program}
use Rattle.fcp_model.specs.Decisions.{Decision, Decides}
use Rattle.fcp_model.specs.States.{Process, State, Mode, is_open, is_held, is_failed, is_aborted, is_suspended}
use Rattle.fcp_model.specs.LawfulStates.{IsOrdered}
use Rattle.fcp_model.specs.Events.{Event, event_of}
use Rattle.fcp_model.specs.OneWorker.{Schedule, Leads, IsOneWorkerRun, begin, is_over, is_due, mode_after}
use Rattle.fcp_laws.specs.WaitingProcesses.{waiting_of}
use Rattle.heap_words.specs.Heaps.{IsHeap, is_inside, inside_at}
use Rattle.heap_words.specs.declared.cell.Cell.TheVariants.{Small}
use Rattle.heap_words.specs.Trails.{word_at}
use Rattle.word_states.specs.Words.{At, HasAll}
use Rattle.word_states.specs.Standing.{Book, StandsFor, PlaceAt, name_code}
use Rattle.word_states.specs.Costs.{EntryCosts}
use Rattle.word_states.specs.Going.{Move, Fits, AllAt}

-- What is known beside the words: how many processes went to the back of the queue since the last move, how many wait, how many entries
-- there are and how many of them are moves, what is left of the limits, the mode, and the controls that were not made yet.
pub record Counts : Type 0 where
  pub passed : ℕ
  pub asleep : ℕ
  pub entries : ℕ
  pub moved : ℕ
  pub commits : ℕ
  pub moves : ℕ
  pub cells : ℕ
  pub mode : Mode
  pub controls : List Control

-- what is run: a program from the first state of a goal with so many variables, within limits, with controls
pub record Setting : Type 0 where
  pub program : Program
  pub limits : Limits
  pub from : State
  pub controls : List Control
  pub vars : ℕ

-- The run has come to a schedule by these events. The words stand for the schedule's state, the processes of its queue have these
-- addresses, and the places of the goal's variables have their words at 2, 4 and on.
pub record StandsAt (r : Setting) (ws queue : List ℕ) (c : Counts) (evs : List Event) (at : Schedule) (book : Book) : Type 0 where
  pub ordered : IsOrdered r.from
  pub leads : Leads r.program r.limits (begin r.from r.controls) evs at
  pub heap : IsHeap ws
  pub stands : StandsFor book (inside_at ws) at.state
  pub queued : AllAt book at.state queue at.queue
  pub variables : (k : ℕ) → 1 ≤ k → k ≤ r.vars → PlaceAt book (place 0 k) (2 * k)
  -- the counts are those of the schedule
  pub mode : at.state.mode ≡ c.mode
  pub controls : at.controls ≡ c.controls
  pub entries : at.state.entries ≡ c.entries
  pub moved : at.moves ≡ c.moved
  pub passed : at.passed ≡ c.passed
  pub asleep : length (waiting_of at.state.processes) ≡ c.asleep
  pub commits : at.commits + c.commits ≡ r.limits.commits
  pub moves : at.moves + c.moves ≡ r.limits.moves
  pub cells : at.cells + c.cells ≡ r.limits.cells

-- the entry is a move of this process
abbrev pub IsMoveBy : Entry → Proc → Type 0
IsMoveBy (Commit q k) r = q ≡ r
IsMoveBy (Hang q) r = q ≡ r
IsMoveBy (Fail q) r = q ≡ r
IsMoveBy _ r = ⊥

-- the run is open, and no control is due, so the front of the queue is looked at
pub record IsGoing (c : Counts) : Type 0 where
  pub mode : c.mode ≡ is_open
  pub not_due : is_due c.controls c.moved ≡ false

-- The move is one of the process at the front of the queue, by the name that its words say. The run is going, and commits, moves and
-- processes that did not go to the back are left.
pub record IsFront (v : Move) (ws : List ℕ) (p : ℕ) (rest : List ℕ) (c : Counts) : Type 0 where
  pub address : v.process ≡ p
  pub mover : Proc
  pub is_move : IsMoveBy v.entry mover
  pub small : mover.number < 268435456
  pub name : At (inside_at ws) (p + 1) (Small (pos (name_code mover.entry mover.number)))
  pub going : IsGoing c
  pub commits : 0 < c.commits
  pub moves : 0 < c.moves
  pub passed : c.passed < length (p ∷ rest)

-- the event is the one that is decided for the front
pub record IsOfFront (m : Program) (at : Schedule) (ev : Event) (entry : Entry) : Type 0 where
  pub process : Process
  pub behind : List Process
  pub queue : at.queue ≡ process ∷ behind
  pub decision : Decision
  pub decided : Decides m at.state.bound process.goal decision
  pub is : ev ≡ event_of m at.state process decision
  pub has : ev.entry ≡ entry

-- The entry that is decided for the front has so many cells.
pub record FrontCosts (m : Program) (at : Schedule) (needed : ℕ) : Type 0 where
  pub process : Process
  pub behind : List Process
  pub queue : at.queue ≡ process ∷ behind
  pub costs : EntryCosts m at.state.bound process.goal needed

-- the counts after a commit, a hang, a pass and a control
abbrev pub after_commit : Counts → ℕ → ℕ → Counts
after_commit c woken cells = record c {
  passed = 0;
  asleep = c.asleep - woken;
  entries = c.entries + 1;
  moved = c.moved + 1;
  commits = c.commits - 1;
  moves = c.moves - 1;
  cells = c.cells - cells;
}

abbrev pub after_hang : Counts → ℕ → Counts
after_hang c cells = record c {
  passed = 0;
  asleep = c.asleep + 1;
  entries = c.entries + 1;
  moved = c.moved + 1;
  moves = c.moves - 1;
  cells = c.cells - cells;
}

abbrev pub after_pass : Counts → Counts
after_pass c = record c { passed = c.passed + 1 }

abbrev pub after_control : Counts → Control → List Control → Counts
after_control c d ds = record c { entries = c.entries + 1; mode = mode_after d.act c.mode; controls = ds }

-- the counts before the first entry
abbrev pub first_counts : Limits → List Control → Counts
first_counts limits controls = record {
  passed = 0;
  asleep = 0;
  entries = 0;
  moved = 0;
  commits = limits.commits;
  moves = limits.moves;
  cells = limits.cells;
  mode = is_open;
  controls = controls;
}

-- the outcome of an open run that ended, by the addresses of its queue and the counts
abbrev pub open_outcome_by : List ℕ → Counts → Outcome
open_outcome_by [] c = if nat_eq c.asleep 0 then Terminated else Suspended
open_outcome_by (p ∷ rest) c = if nat_eq c.commits 0 || nat_eq c.moves 0 then Budget else Full

-- and of one that ended, by its mode
abbrev pub outcome_by : List ℕ → Counts → Outcome
outcome_by queue c = elim c.mode [
  | is_failed ↦ Failed
  | is_aborted ↦ Aborted
  | is_held ↦ Held
  | is_open ↦ open_outcome_by queue c
]

-- The run ends, whatever the front of the queue would do: it is over; or no control is due, and it is suspended, its queue is empty, no
-- commits or moves are left, or each process of the queue went to the back.
abbrev pub IsAtEnd : List ℕ → Counts → Type 0
IsAtEnd queue c =
    (is_over c.mode ≡ true) ⊎ ((is_due c.controls c.moved ≡ false) × ((is_suspended c.mode ≡ true) ⊎ (((queue ≡ []) ⊎ (c.commits ≡ 0))
    ⊎ ((c.moves ≡ 0) ⊎ (length queue ≤ c.passed)))))

-- The run has ended with a fail: its last schedule, with one move more than these counts.
pub record FailedAt (r : Setting) (evs : List Event) (before : State) (c : Counts) : Type 0 where
  pub last : Schedule
  pub run : IsOneWorkerRun r.program r.limits r.from r.controls evs last
  pub mode : last.state.mode ≡ is_failed
  pub left : last.controls ≡ c.controls
  pub bound : last.state.bound ≡ before.bound
  pub entries : last.state.entries ≡ c.entries + 1

-- where the event is a hang, it waits for the places among some that were read
abbrev pub WaitsByAge : Event → Type 0
WaitsByAge ev = (reads : List Variable) × (ev.waits_for ≡ places_among reads)

-- the word of a place and its name are in use
abbrev pub IsPlaceInUse : List ℕ → ℕ → Type 0
IsPlaceInUse ws a = (0 < a) × (is_inside ws a ≡ true) × (is_inside ws (a - 1) ≡ true)

-- the name of a process is in use
abbrev pub IsProcessInUse : List ℕ → ℕ → Type 0
IsProcessInUse ws q = (q + 1 < 4294967296) × (is_inside ws (q + 1) ≡ true)

-- The words have what the move read, which names the process at p, and it fits the program.
pub record IsFoundMove (m : Program) (v : Move) (ws : List ℕ) (p : ℕ) : Type 0 where
  pub address : v.process ≡ p
  pub fits : Fits m v
  pub has : HasAll v.reads (inside_at ws)
  pub mover : Proc
  pub is_move : IsMoveBy v.entry mover
  pub small : mover.number < 268435456
  pub name : At (word_at v.reads) (p + 1) (Small (pos (name_code mover.entry mover.number)))
