-- What the parts of a step ask and leave. Only the crate's private clauses cite this file.
use Rattle.std.specs.Prelude.{◌≡◌, ℕ, suc, ◌+◌, ◌-◌, ◌<◌, true, false, cond, List, length, Option, Some, None}
use Rattle.fcp_model.specs.declared.run.Entry.{Entry}
use Rattle.fcp_model.specs.declared.run.Entry.TheVariants.{Commit, Hang, Fail, Snapshot, Suspend, Resume, Abort}
use Rattle.fcp_model.specs.declared.run.Proc.{Proc}
use Rattle.fcp_model.specs.Places.{is_same_process}
use Rattle.fcp_model.specs.Programs.{Program}
use Rattle.fcp_model.specs.States.{Process, State, is_running}
use Rattle.fcp_model.specs.Events.{Event, control_event}
use Rattle.fcp_model.specs.Runs.{allows, next}
use Rattle.fcp_model.specs.Spelling.{Bytes}
use Rattle.fcp_model.specs.LogText.{event_line}
use Rattle.entry_lines.specs.Additions.{Adds}
use Rattle.heap_words.specs.Trails.{word_at}
use Rattle.word_states.specs.Words.{Words, IsIn}
use Rattle.word_states.specs.Standing.{Book, StandsFor, ProcessAt}
use Rattle.word_states.specs.Going.{Fits}
use Rattle.word_moves.specs.Planned.{IsSafeMove}
use Rattle.move_plans.specs.declared.planner.Planned.{Planned}
use Rattle.move_plans.specs.declared.planner.Planned.TheVariants as planned
use Rattle.move_plans.specs.Plans.{NamesMover, move_of}
use Rattle.commit_engine.specs.declared.plain_hall.PlainHall.{PlainHall}
use Rattle.commit_engine.specs.Halls.{commits_of, moves_of}
use Rattle.commit_engine.specs.PlainHalls.{IsSame}
use Rattle.commit_engine.specs.Turns.{IsCommit, IsHang, IsFail}
use Rattle.run_laws.specs.Running.{IsProcessInUse}
use Rattle.log_replay.specs.declared.mode.RunMode.{RunMode}
use Rattle.log_replay.specs.declared.mode.RunMode.TheVariants as mode
use Rattle.log_replay.specs.declared.answer.Stepped.{Stepped}
use Rattle.log_replay.specs.declared.answer.Stepped.TheVariants as answer
use Rattle.log_replay.specs.declared.replay.Replay.{Replay}
use Rattle.log_replay.specs.Tables.{Table, address_of, PutsAll, TakesOut}
use Rattle.log_replay.specs.Replays.{mode_of, room_of, words_of, IsAtRest, IsReplayed}

-- the entry is a control
abbrev pub IsControl : Entry → Type 0
IsControl (Commit p k) = ⊥
IsControl (Hang p) = ⊥
IsControl (Fail p) = ⊥
IsControl _ = Unit {0}

-- the entry is of the kind that is planned
abbrev pub IsOfKind : Planned → Entry → Type 0
IsOfKind planned.Commits e = IsCommit e
IsOfKind planned.Hangs e = IsHang e
IsOfKind planned.Fails e = IsFail e
IsOfKind _ e = ⊥

-- the line of a control was put after the text
abbrev pub AddsControl : ℕ → Entry → Bytes → Bytes → Type 0
AddsControl n control old new = (ev : Event) (names : List Bytes) → ev.entry ≡ control → ev.after.entries ≡ n
    → Adds old new (λ k. event_line k names ev)

-- a state of this mode does not allow the entry
abbrev pub IsForbidden : RunMode → Entry → Type 0
IsForbidden before e = (s : State) → s.mode ≡ mode_of before → allows s e ≡ false

-- in a state of this mode the control is the next entry, and leads to that mode
abbrev pub LeadsTo : RunMode → Entry → RunMode → Type 0
LeadsTo before e after =
    (m : Program) (s : State) → s.mode ≡ mode_of before → next 0 m s e ≡ Some (control_event s e (mode_of after))

-- the mode behind a control, where the mode before it allows it
abbrev pub mode_behind : RunMode → Entry → Option RunMode
mode_behind mode.Open Snapshot = Some mode.Open
mode_behind mode.Held Snapshot = Some mode.Held
mode_behind mode.Open Suspend = Some mode.Held
mode_behind mode.Held Resume = Some mode.Open
mode_behind mode.Open Abort = Some mode.Aborted
mode_behind mode.Held Abort = Some mode.Aborted
mode_behind _ _ = None

-- the process at the address has this name, wherever the words stand for a state
abbrev pub NamesThere : Words → ℕ → Proc → Type 0
NamesThere w p q = (book : Book) (s : State) (y : Process) → StandsFor book w s → ProcessAt book s p y → y.name ≡ q

-- the process is in the table, at the address, and the others are there as before
abbrev pub PutsIn : Proc → ℕ → Table → Table → Type 0
PutsIn q p old new = (r : Proc) → address_of new r ≡ cond (is_same_process q r) (Some p) (address_of old r)

-- A move of the Ready process is planned: it is safe, and the words have what it read.
pub record IsMoving (r : Replay) (q : Proc) (p : ℕ) : Type 0 where
  pub open_mode : is_running (mode_of r.mode) ≡ true
  pub at : address_of r.ready.addresses.entries q ≡ Some p
  pub rest : IsAtRest r.hall
  pub room : r.entries < room_of r
  pub safe : IsSafeMove (move_of r.planner p)
  pub named : NamesMover r.planner.machine.trail.kept p r.planner.entry
  pub read : (a x : ℕ) → word_at r.planner.machine.trail.kept a ≡ Some x → words_of r a ≡ Some x

-- the move that is planned fits the program of the run
pub record MayMake (m : Program) (from : State) (cells : ℕ) (evs : List Event) (r : Replay) (p : ℕ) : Type 0 where
  pub replayed : IsReplayed m from cells evs r
  pub fits : Fits m (move_of r.planner p)

-- and some run is there
pub record MayMakeSome (r : Replay) (p : ℕ) : Type 0 where
  pub program : Program
  pub from : State
  pub cells : ℕ
  pub events : List Event
  pub made : MayMake program from cells events r p

-- The names of these processes are in use.
abbrev pub AreInUse : List ℕ → List ℕ → Type 0
AreInUse ws ps = (q : ℕ) → IsIn q ps → IsProcessInUse ws q

-- The mover is out of the table, and children and woken are in it.
pub record NotesMove (q : Proc) (old new : Replay) : Type 0 where
  pub hall : IsSame old.hall new.hall
  pub rest : IsAtRest new.hall
  pub shown_bound : new.bound.items ≡ old.planner.bound.items
  pub shown_woken : new.woken.items ≡ old.planner.woken.items
  pub shown_waits : new.waits.items ≡ old.planner.waits.items
  pub entry : new.entry ≡ old.planner.entry
  pub entries : new.entries ≡ old.entries + 1
  pub mode : new.mode ≡ old.mode
  pub without : Table
  pub with_children : Table
  pub taken : TakesOut q old.ready.addresses.entries without
  pub born : PutsAll (words_of old) old.planner.children.items without with_children
  pub woken : PutsAll (words_of old) old.planner.woken.items with_children new.ready.addresses.entries

-- by the answer
abbrev pub NotedSays : Proc → Replay → Replay → Stepped → Type 0
NotedSays q old new answer.Done = NotesMove q old new
NotedSays q old new answer.NoMemory = Unit {0}
NotedSays q old new _ = ⊥

-- what an entry without cells leaves of the quota and of the room
pub record IsLeftBy (e : Entry) (old new : PlainHall) : Type 0 where
  pub commits : new.quota.commits ≡ old.quota.commits - commits_of e
  pub moves : new.quota.moves ≡ old.quota.moves - moves_of e
  pub cells : new.quota.cells ≡ old.quota.cells
  pub spare : new.spare ≡ old.spare - 1

-- An entry without words was made, and the table and the mode are as they were.
pub record NotesEntry (e : Entry) (old new : Replay) : Type 0 where
  pub words : new.hall.words.items ≡ old.hall.words.items
  pub log : length new.hall.log.items ≡ suc (length old.hall.log.items)
  pub rest : IsAtRest new.hall
  pub left : IsLeftBy e old.hall new.hall
  pub table : new.ready ≡ old.ready
  pub entry : new.entry ≡ e
  pub entries : new.entries ≡ old.entries + 1
  pub mode : new.mode ≡ old.mode
