-- What a ruling makes of where the run of one worker stands.
use Rattle.std.specs.Prelude.{◌≡◌, ℕ, ◌+◌, ◌*◌, ◌<◌, filter, ◌≤◌, false, List, [], ◌∷◌, ◌++◌, length}
use Rattle.fcp_model.specs.declared.run.Place.{Place}
use Rattle.fcp_model.specs.declared.run.Proc.{Proc}
use Rattle.fcp_model.specs.declared.run.Control.{Control}
use Rattle.fcp_model.specs.declared.run.Entry.TheVariants.{Commit, Hang, Fail}
use Rattle.fcp_model.specs.Places.{place}
use Rattle.fcp_model.specs.Programs.{Goal}
use Rattle.fcp_model.specs.States.{Process, State, is_open, is_ready, start}
use Rattle.fcp_model.specs.Events.{Event, control_event}
use Rattle.fcp_model.specs.Bounds.{act_entry}
use Rattle.fcp_model.specs.OneWorker.{Schedule, IsOneWorkerRun, begin, is_over, mode_after}
use Rattle.fcp_laws.specs.Endings.{outcome_at}
use Rattle.heap_words.specs.Heaps.{IsHeap, inside_at}
use Rattle.heap_words.specs.Trails.{WordList}
use Rattle.heap_words.specs.declared.cell.Cell.TheVariants.{Status}
use Rattle.heap_words.specs.declared.cell.Stand.TheVariants.{Ready}
use Rattle.word_states.specs.Words.{Words, HasAll, At, IsIn, over}
use Rattle.word_states.specs.Standing.{Book, StandsFor, PlaceAt}
use Rattle.word_states.specs.Trials.{AreAt}
use Rattle.word_states.specs.Costs.{DecidesCells}
use Rattle.word_states.specs.Going.{Move, MayGo, GoesOn, AllAt}
use Rattle.run_laws.specs.Running.{Setting, Counts, StandsAt, IsGoing, IsFront, IsOfFront, FrontCosts, IsFoundMove, IsAtEnd, FailedAt}
use Rattle.run_laws.specs.Running.{IsPlaceInUse, IsProcessInUse, first_counts, outcome_by, after_commit, after_hang, after_pass, after_control}

-- where an open run stands, a move that found what it read may go; names have room for its number
abbrev pub AFoundMoveMayGo : Type 0
AFoundMoveMayGo = (r : Setting) (ws queue : List ℕ) (c : Counts) (evs : List Event) (at : Schedule) (book : Book) (v : Move)
    → StandsAt r ws queue c evs at book → c.mode ≡ is_open → c.entries + 1 < 134217728 → HasAll v.reads (inside_at ws)
    → MayGo v book ws at.state

-- the event of a move of the front is the one that is decided for it
abbrev pub AnEventIsOfTheFront : Type 0
AnEventIsOfTheFront = (r : Setting) (ws rest : List ℕ) (p : ℕ) (c : Counts) (evs : List Event) (at : Schedule) (book : Book) (v : Move)
    (w' : Words) → StandsAt r ws (p ∷ rest) c evs at book → IsFront v ws p rest c → (g : GoesOn r.program v book at.state w')
    → IsOfFront r.program at g.goes.event v.entry

-- behind a commit of the front its children and then the woken processes stand in the queue
abbrev pub ACommitLeadsOn : Type 0
ACommitLeadsOn = (r : Setting) (ws ws' rest : List ℕ) (p : ℕ) (c : Counts) (evs : List Event) (at : Schedule) (book : Book) (v : Move)
    (q : Proc) (k : ℕ) → StandsAt r ws (p ∷ rest) c evs at book → IsFront v ws p rest c
    → (g : GoesOn r.program v book at.state (inside_at ws')) → v.entry ≡ Commit q k → v.cells ≤ c.cells → IsHeap ws'
    → (to : Schedule) × StandsAt r ws' (rest ++ v.children ++ v.woken) (after_commit c (length v.woken) v.cells)
    (evs ++ g.goes.event ∷ []) to g.goes.book × (length v.woken ≤ c.asleep)

-- behind a hang of the front the others stand in the queue
abbrev pub AHangLeadsOn : Type 0
AHangLeadsOn = (r : Setting) (ws ws' rest : List ℕ) (p : ℕ) (c : Counts) (evs : List Event) (at : Schedule) (book : Book) (v : Move)
    (q : Proc) → StandsAt r ws (p ∷ rest) c evs at book → IsFront v ws p rest c
    → (g : GoesOn r.program v book at.state (inside_at ws')) → v.entry ≡ Hang q → v.cells ≤ c.cells → IsHeap ws'
    → (to : Schedule) × StandsAt r ws' rest (after_hang c v.cells) (evs ++ g.goes.event ∷ []) to g.goes.book

-- where the run stands, the entry of the front has the cells that are decided for its process by words that were found
abbrev pub AFrontCosts : Type 0
AFrontCosts = (r : Setting) (ws rest : List ℕ) (p : ℕ) (c : Counts) (evs : List Event) (at : Schedule) (book : Book) (read : WordList)
    (needed : ℕ) → StandsAt r ws (p ∷ rest) c evs at book → HasAll read (inside_at ws) → DecidesCells r.program read p needed
    → FrontCosts r.program at needed

-- the front goes to the back where its entry has more cells than are left
abbrev pub APassLeadsOn : Type 0
APassLeadsOn = (r : Setting) (ws rest : List ℕ) (p : ℕ) (c : Counts) (evs : List Event) (at : Schedule) (book : Book) (needed : ℕ)
    → StandsAt r ws (p ∷ rest) c evs at book → IsGoing c → 0 < c.commits → 0 < c.moves → c.passed < length (p ∷ rest)
    → FrontCosts r.program at needed → c.cells < needed
    → (to : Schedule) × StandsAt r ws (rest ++ p ∷ []) (after_pass c) evs to book

-- A control that is due is made, where the run is not over. The words and the queue stay.
abbrev pub AControlLeadsOn : Type 0
AControlLeadsOn = (r : Setting) (ws queue : List ℕ) (c : Counts) (evs : List Event) (at : Schedule) (book : Book) (d : Control)
    (ds : List Control) → StandsAt r ws queue c evs at book → is_over c.mode ≡ false → c.controls ≡ d ∷ ds → d.after ≡ c.moved
    → (to : Schedule) × StandsAt r ws queue (after_control c d ds)
    (evs ++ control_event at.state (act_entry d.act) (mode_after d.act c.mode) ∷ []) to book

-- the run ends where the front fails
abbrev pub AFailEnds : Type 0
AFailEnds = (r : Setting) (ws rest : List ℕ) (p : ℕ) (c : Counts) (evs : List Event) (at : Schedule) (book : Book) (v : Move) (w' : Words)
    (q : Proc) → StandsAt r ws (p ∷ rest) c evs at book → IsFront v ws p rest c → (g : GoesOn r.program v book at.state w')
    → v.entry ≡ Fail q → FailedAt r (evs ++ g.goes.event ∷ []) at.state c

-- and where it is over, or no control is due and it is suspended or its queue or limits are at an end
abbrev pub AnEndEnds : Type 0
AnEndEnds = (r : Setting) (ws queue : List ℕ) (c : Counts) (evs : List Event) (at : Schedule) (book : Book)
    → StandsAt r ws queue c evs at book → IsAtEnd queue c → IsOneWorkerRun r.program r.limits r.from r.controls evs at

-- in words that stand for a goal's first state the run stands at its beginning
abbrev pub ABeginningStands : Type 0
ABeginningStands = (r : Setting) (gs : List (Goal ℕ)) (ws queue : List ℕ) (book : Book) → r.from ≡ start r.vars gs → IsHeap ws
    → StandsFor book (inside_at ws) r.from → AllAt book r.from queue (filter (λ p. is_ready p.status) r.from.processes)
    → ((k : ℕ) → 1 ≤ k → k ≤ r.vars → PlaceAt book (place 0 k) (2 * k))
    → StandsAt r ws queue (first_counts r.limits r.controls) [] (begin r.from r.controls) book

-- the outcome that is read off a schedule is that of the queue's addresses and the counts
abbrev pub AnOutcomeIsCounted : Type 0
AnOutcomeIsCounted = (r : Setting) (ws queue : List ℕ) (c : Counts) (evs : List Event) (at : Schedule) (book : Book)
    → StandsAt r ws queue c evs at book → outcome_at r.limits at ≡ outcome_by queue c

-- where the run stands, the front of the queue has the status Ready
abbrev pub AFrontIsReady : Type 0
AFrontIsReady = (r : Setting) (ws rest : List ℕ) (p : ℕ) (c : Counts) (evs : List Event) (at : Schedule) (book : Book)
    → StandsAt r ws (p ∷ rest) c evs at book → At (inside_at ws) p (Status Ready)

-- the words of places and the names of processes are in use
abbrev pub PlacesAreInUse : Type 0
PlacesAreInUse = (ws : List ℕ) (book : Book) (s : State) (as' : List ℕ) (js : List Place) → StandsFor book (inside_at ws) s
    → AreAt book.places as' js → (a : ℕ) → IsIn a as' → IsPlaceInUse ws a

abbrev pub ProcessesAreInUse : Type 0
ProcessesAreInUse = (ws : List ℕ) (book : Book) (s : State) (as' : List ℕ) (xs : List Process) → IsHeap ws
    → StandsFor book (inside_at ws) s → AllAt book s as' xs → (q : ℕ) → IsIn q as' → IsProcessInUse ws q

-- where the run stands, a move that was found for the front is one of the front, and goes on in the words that it writes
abbrev pub AFoundMoveGoesOn : Type 0
AFoundMoveGoesOn = (r : Setting) (ws rest : List ℕ) (p : ℕ) (c : Counts) (evs : List Event) (at : Schedule) (book : Book) (v : Move)
    → StandsAt r ws (p ∷ rest) c evs at book → c.entries + 1 < 134217728 → IsFoundMove r.program v ws p → IsGoing c → 0 < c.commits
    → 0 < c.moves → c.passed < length (p ∷ rest)
    → IsFront v ws p rest c × GoesOn r.program v book at.state (over (v.writes (c.entries + 1)) (inside_at ws))
