-- What a replay keeps, and what a step says.
use Rattle.std.specs.Prelude.{◌≡◌, ℕ, ◌+◌, ◌<◌, ◌≤◌, true, false, List, [], ◌∷◌, ◌++◌, length, Some}
use Rattle.fcp_model.specs.declared.run.Entry.{Entry}
use Rattle.fcp_model.specs.declared.run.Proc.{Proc}
use Rattle.fcp_model.specs.declared.source.GoalText.{GoalText}
use Rattle.fcp_model.specs.declared.source.Module.{Module}
use Rattle.fcp_model.specs.Translation.{program_of, start_of}
use Rattle.goal_layout.specs.Goals.{MayBeLaid}
use Rattle.machine_code.specs.Compiling.{Tables}
use Rattle.trial_machine.specs.Deciding.{IsCodeOf}
use Rattle.fcp_model.specs.declared.run.Entry.TheVariants.{Commit, Hang}
use Rattle.fcp_model.specs.Programs.{Program}
use Rattle.fcp_model.specs.States.{Mode, State, is_open, is_held, is_failed, is_aborted}
use Rattle.fcp_model.specs.LawfulStates.{IsOrdered}
use Rattle.fcp_model.specs.Events.{Event}
use Rattle.fcp_model.specs.Runs.{allows, IsDecided, IsRun, next, entries_of, last_state, cells_of}
use Rattle.heap_words.specs.Heaps.{inside_at}
use Rattle.word_states.specs.Words.{Words}
use Rattle.word_states.specs.Standing.{Book, StandsFor}
use Rattle.entry_lines.specs.Lines.{AreGoalPlaces, IsCommitThere, IsHangThere}
use Rattle.commit_engine.specs.declared.plain_hall.PlainHall.{PlainHall}
use Rattle.commit_engine.specs.PlainHalls.{IsPlain, holds_of}
use Rattle.move_plans.specs.Plans.{IsMoveOf}
use Rattle.log_replay.specs.declared.mode.RunMode.{RunMode}
use Rattle.log_replay.specs.declared.mode.RunMode.TheVariants as mode
use Rattle.log_replay.specs.declared.replay.Replay.{Replay}
use Rattle.log_replay.specs.declared.answer.Stepped.{Stepped}
use Rattle.log_replay.specs.declared.answer.Stepped.TheVariants as answer
use Rattle.log_replay.specs.declared.answer.Why.TheVariants as why
use Rattle.log_replay.specs.Tables.{HasReady}

-- the mode of a state
abbrev pub mode_of : RunMode → Mode
mode_of mode.Open = is_open
mode_of mode.Held = is_held
mode_of mode.Failed = is_failed
mode_of mode.Aborted = is_aborted

-- how many entries a replay has room for in all, those that it made among them
abbrev pub room_of : Replay → ℕ
room_of r = length r.hall.log.items + r.hall.spare

-- its words
abbrev pub words_of : Replay → Words
words_of r = inside_at r.hall.words.items

-- The hall is plain, holds no page, and has nothing to publish.
pub record IsAtRest (h : PlainHall) : Type 0 where
  pub plain : IsPlain h
  pub free : (p : ℕ) → holds_of h p ≡ false
  pub idle : h.due ≡ false

-- The words stand for the state, by some book.
pub record HasState (from s : State) (r : Replay) : Type 0 where
  pub book : Book
  pub stands : StandsFor book (words_of r) s
  -- exactly its Ready processes are in the table
  pub ready : HasReady book s r.ready.addresses.entries
  -- the first state's places have their words at 2, 4 and on
  pub places : AreGoalPlaces book (length from.places)

-- The events are a run of the program from a state, and the replay stands for the state behind them.
pub record IsReplayed (m : Program) (from : State) (cells : ℕ) (evs : List Event) (r : Replay) : Type 0 where
  pub run : IsRun m from (entries_of evs) evs
  pub ordered : IsOrdered (last_state from evs)
  pub state : HasState from (last_state from evs) r
  pub mode : mode_of r.mode ≡ (last_state from evs).mode
  pub rest : IsAtRest r.hall
  -- there are as many entries as events
  pub entries : (last_state from evs).entries ≡ length evs
  pub made : r.entries ≡ length evs
  pub log : length r.hall.log.items ≡ length evs
  -- the quota has a commit and a move for each entry that has room, and the cells that are left
  pub commits : r.hall.spare ≤ r.hall.quota.commits
  pub moves : r.hall.spare ≤ r.hall.quota.moves
  pub spent : cells_of evs + r.hall.quota.cells ≡ cells

-- A replay stands for the state behind some run.
pub record IsStanding (r : Replay) : Type 0 where
  pub program : Program
  pub from : State
  pub cells : ℕ
  pub events : List Event
  pub replayed : IsReplayed program from cells events r

-- and the code is that of its program
pub record StandsBy (t : Tables) (r : Replay) : Type 0 where
  pub standing : IsStanding r
  pub code : IsCodeOf t standing.program

-- and the run is one of the goal
pub record StandsFromGoal (goal : GoalText × List ℕ) (r : Replay) : Type 0 where
  pub m : Module
  pub cells : ℕ
  pub events : List Event
  pub laid : MayBeLaid m goal
  pub replayed : IsReplayed (program_of m) (start_of m goal.0) cells events r

-- the event is the next one of the entry
abbrev pub IsNext : Program → State → Entry → Event → Type 0
IsNext m s e ev = (n : ℕ) × (next n m s e ≡ Some ev)

-- what the line of an event is read off: the addresses are those of what the event bound and woke, or waits for
abbrev pub ShowsMove : Replay → Book → Event → Entry → Type 0
ShowsMove r book ev (Commit p k) =
    IsCommitThere (words_of r) book ev ev.after.entries p k r.bound.items r.woken.items
ShowsMove r book ev (Hang p) = IsHangThere (words_of r) book ev ev.after.entries p r.waits.items
ShowsMove r book ev _ = Unit {0}

-- The replay shows the event, which was made last.
pub record Shows (ev : Event) (r : Replay) : Type 0 where
  pub entry : r.entry ≡ ev.entry
  pub number : r.entries ≡ ev.after.entries
  pub book : Book
  pub stands : StandsFor book (words_of r) ev.after
  pub move : ShowsMove r book ev ev.entry

-- a replay stands, and shows the event of its last entry
pub record StandsShowing (r : Replay) : Type 0 where
  pub standing : IsStanding r
  pub event : Event
  pub shows : Shows event r

-- The entry was made: its event is the next one, within the cells, and is the last one of the run now.
pub record IsDone (m : Program) (from : State) (cells : ℕ) (evs : List Event) (e : Entry) (new : Replay) : Type 0 where
  pub event : Event
  pub is_next : IsNext m (last_state from evs) e event
  pub within : cells_of evs + event.cells ≤ cells
  pub replayed : IsReplayed m from cells (evs ++ event ∷ []) new
  pub shows : Shows event new

-- The entry would be the next one, and needs more cells than are left.
pub record IsSpent (m : Program) (from : State) (cells : ℕ) (evs : List Event) (e : Entry) (needed left : ℕ) : Type 0 where
  pub event : Event
  pub is_next : IsNext m (last_state from evs) e event
  pub costs : event.cells ≡ needed
  pub rest : cells_of evs + left ≡ cells
  pub over : left < needed

-- The run allows the entry, which is a move of a process.
abbrev pub IsAllowedMove : State → Entry → Type 0
IsAllowedMove s e = (allows s e ≡ true) × ((q : Proc) × IsMoveOf e q)

-- What the answer to an entry says of the run so far, and of the replay behind it. A control and an entry that the run does not allow are
-- answered without memory.
abbrev pub StepSays : Program → State → ℕ → List Event → Entry → Replay → Stepped → Type 0
StepSays m from cells evs e new answer.Done = IsDone m from cells evs e new
StepSays m from cells evs e new (answer.Wrong why.State) =
    (allows (last_state from evs) e ≡ false) × IsReplayed m from cells evs new
StepSays m from cells evs e new (answer.Wrong why.Answer) =
    (allows (last_state from evs) e ≡ true) × (IsDecided m (last_state from evs) e → ⊥) × IsReplayed m from cells evs new
StepSays m from cells evs e new (answer.Spent needed left) =
    IsSpent m from cells evs e needed left × IsReplayed m from cells evs new
StepSays m from cells evs e new answer.NoMemory = IsAllowedMove (last_state from evs) e

-- where nothing was made, what was shown before is shown still
abbrev pub StillShows : Replay → Replay → Stepped → Type 0
StillShows old new answer.Done = Unit {0}
StillShows old new answer.NoMemory = Unit {0}
StillShows old new _ = (ev : Event) → Shows ev old → Shows ev new
