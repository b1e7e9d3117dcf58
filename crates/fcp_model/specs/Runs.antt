-- Which entries are legal, and runs.
use Rattle.std.specs.Prelude.{◌≡◌, ℕ, Bool, false, ◌&&◌, ◌||◌, nat_eq, List, [], ◌∷◌, map, sum_by, Option, Some, None, option_map, option_and_then, if◌then◌else◌}
use Rattle.fcp_model.specs.declared.run.Proc.{Proc}
use Rattle.fcp_model.specs.declared.run.Entry.{Entry}
use Rattle.fcp_model.specs.declared.run.Entry.TheVariants.{Commit, Hang, Fail, Snapshot, Suspend, Resume, Abort}
use Rattle.fcp_model.specs.Places.{is_same_process}
use Rattle.fcp_model.specs.Programs.{Program}
use Rattle.fcp_model.specs.Decisions.{Decision, commits, decides_fail, waits_on, decide, Decides}
use Rattle.fcp_model.specs.States.{Process, State, Mode, is_open, is_held, is_aborted, is_ready, is_running, is_suspended, process_named}
use Rattle.fcp_model.specs.Events.{Event, event_of, control_event}

-- the process is there and Ready
abbrev pub is_ready_in : List Process → Proc → Bool
is_ready_in ps q = elim (process_named ps q) [ None ↦ false | Some p ↦ is_ready p.status ]

-- whether the run allows the entry now, whatever is decided: a move of a Ready process in an open run, and each control by the mode
abbrev pub allows : State → Entry → Bool
allows s (Commit p k) = is_running s.mode && is_ready_in s.processes p
allows s (Hang p) = is_running s.mode && is_ready_in s.processes p
allows s (Fail p) = is_running s.mode && is_ready_in s.processes p
allows s Snapshot = is_running s.mode || is_suspended s.mode
allows s Suspend = is_running s.mode
allows s Resume = is_suspended s.mode
allows s Abort = is_running s.mode || is_suspended s.mode

-- the entry of a process for which a decision is made
abbrev pub entry_decided : Proc → Decision → Entry
entry_decided p (commits k bs rs) = Commit p k
entry_decided p (waits_on rs) = Hang p
entry_decided p (decides_fail rs) = Fail p

-- the entry is the one that is decided for the process of that name
pub record IsDecidedFor (m : Program) (s : State) (name : Proc) (e : Entry) : Type 0 where
  pub process : Process
  pub named : process_named s.processes name ≡ Some process
  pub decision : Decision
  pub decides : Decides m s.bound process.goal decision
  pub agrees : entry_decided name decision ≡ e

-- a move is the one that is decided; a control is not decided
abbrev pub IsDecided : Program → State → Entry → Type 0
IsDecided m s (Commit p k) = IsDecidedFor m s p (Commit p k)
IsDecided m s (Hang p) = IsDecidedFor m s p (Hang p)
IsDecided m s (Fail p) = IsDecidedFor m s p (Fail p)
IsDecided m s _ = Unit {0}

-- the same move: the same process, and for a commit the same clause
abbrev pub is_same_move : Entry → Entry → Bool
is_same_move (Commit p k) (Commit q j) = is_same_process p q && nat_eq k j
is_same_move (Hang p) (Hang q) = is_same_process p q
is_same_move (Fail p) (Fail q) = is_same_process p q
is_same_move _ _ = false

-- the move of a process that was found
abbrev pub move_on : ℕ → Program → State → Option Process → Option Event
move_on n m s None = None
move_on n m s (Some p) = if is_running s.mode && is_ready p.status then option_map (event_of m s p) (decide n m s.bound p.goal) else None

-- the move that is decided for a process, where it is Ready and the run is open; None also where n steps are too few
abbrev pub move : ℕ → Program → State → Proc → Option Event
move n m s p = move_on n m s (process_named s.processes p)

-- the event, where it has that entry
abbrev pub agreed : Entry → Option Event → Option Event
agreed e None = None
agreed e (Some ev) = if is_same_move e ev.entry then Some ev else None

-- a control, where it is allowed, with the mode behind it
abbrev pub control : State → Entry → Bool → Mode → Option Event
control s e allowed mode = if allowed then Some (control_event s e mode) else None

-- the event of an entry, or None where the entry is not legal, or n steps are too few
abbrev pub next : ℕ → Program → State → Entry → Option Event
next n m s (Commit p k) = agreed (Commit p k) (move n m s p)
next n m s (Hang p) = agreed (Hang p) (move n m s p)
next n m s (Fail p) = agreed (Fail p) (move n m s p)
next n m s Snapshot = control s Snapshot (is_running s.mode || is_suspended s.mode) s.mode
next n m s Suspend = control s Suspend (is_running s.mode) is_held
next n m s Resume = control s Resume (is_suspended s.mode) is_open
next n m s Abort = control s Abort (is_running s.mode || is_suspended s.mode) is_aborted

-- the events of the entries of a log, one after another, or None where one is not legal, or n steps are too few
abbrev pub replay : ℕ → Program → State → List Entry → Option (List Event)
replay n m s [] = Some []
replay n m s (e ∷ es) = option_and_then (λ ev. option_map (λ evs. ev ∷ evs) (replay n m ev.after es)) (next n m s e)

-- the log is a run of the program from a state, with these events
abbrev pub IsRun : Program → State → List Entry → List Event → Type 0
IsRun m s log evs = (n : ℕ) × (replay n m s log ≡ Some evs)

-- the state after some events
abbrev pub last_state : State → List Event → State
last_state s [] = s
last_state s (ev ∷ evs) = last_state ev.after evs

-- the entries of some events
abbrev pub entries_of : List Event → List Entry
entries_of evs = map (λ ev. ev.entry) evs

-- the cells of all events
abbrev pub cells_of : List Event → ℕ
cells_of evs = sum_by (λ ev. ev.cells) evs
