-- An entry is legal, and the words after it stand for the next state.
use Rattle.std.specs.Prelude.{◌≡◌, ℕ, suc, ◌<◌, true, List, [], ◌∷◌, length, map, Some}
use Rattle.fcp_model.specs.declared.run.Place.{Place}
use Rattle.fcp_model.specs.declared.run.Entry.{Entry}
use Rattle.fcp_model.specs.Places.{made, is_listed}
use Rattle.fcp_model.specs.Programs.{Program}
use Rattle.fcp_model.specs.States.{Process, State, is_ready, is_running}
use Rattle.fcp_model.specs.LawfulStates.{IsOrdered}
use Rattle.fcp_model.specs.Events.{Event, made_ready}
use Rattle.fcp_model.specs.Runs.{next}
use Rattle.heap_words.specs.Heaps.{IsHeap, inside_at}
use Rattle.heap_words.specs.Trails.{WordList}
use Rattle.word_states.specs.Words.{Words, HasAll, IsIn, over}
use Rattle.word_states.specs.Denoting.{Addresses, Listed}
use Rattle.word_states.specs.Standing.{Book, StandsFor, PlaceAt, ProcessAt}
use Rattle.word_states.specs.Trials.{places_bound, AreAt}

-- these processes stand at these addresses
abbrev pub AllAt : Book → State → List ℕ → List Process → Type 0
AllAt book s [] [] = Unit {0}
AllAt book s (q ∷ qs) (y ∷ ys) = ProcessAt book s q y × AllAt book s qs ys
AllAt book s _ _ = ⊥

-- In the state s the entry is legal, and the words w' stand for the state after it.
pub record Goes (m : Program) (s : State) (e : Entry) (w' : Words) : Type 0 where
  -- the event of the entry, by some number of steps
  pub steps : ℕ
  pub event : Event
  pub legal : next steps m s e ≡ Some event
  -- the words stand for the state after it
  pub book : Book
  pub stands : StandsFor book w' event.after

-- A move of a process, in words: what it read, and what it writes by the number of its entry.
pub record Move : Type 0 where
  -- the address of the process, and the entry
  pub process : ℕ
  pub entry : Entry
  pub reads : WordList
  pub writes : ℕ → WordList
  pub cells : ℕ
  -- the addresses of the processes that it makes, in order, and of those that it wakes, by name
  pub children : List ℕ
  pub woken : List ℕ
  -- the addresses of the places that it binds, in the order in which they were bound, and of those on which the process waits
  pub bound : List ℕ
  pub waits : List ℕ

-- these are the addresses of these places, in any order
pub record ArePlaces (vs : Addresses) (as' : List ℕ) (ps : List Place) : Type 0 where
  pub all : (j : Place) → is_listed j ps ≡ true → (a : ℕ) × Listed vs (made j) a × IsIn a as'
  pub only : (a : ℕ) → IsIn a as' → (j : Place) × Listed vs (made j) a × (is_listed j ps ≡ true)
  pub count : length as' ≡ length ps

-- The heap stands for a state of an open run, and has what the move read; the number of the next entry fits into names.
pub record MayGo (v : Move) (book : Book) (ws : List ℕ) (s : State) : Type 0 where
  pub heap : IsHeap ws
  pub stands : StandsFor book (inside_at ws) s
  pub ordered : IsOrdered s
  pub running : is_running s.mode ≡ true
  pub few : suc s.entries < 134217728
  pub has : HasAll v.reads (inside_at ws)

-- The move's entry is legal in the state, the words w' stand for the state after it, and all that the move tells is so.
pub record GoesOn (m : Program) (v : Move) (book : Book) (s : State) (w' : Words) : Type 0 where
  pub goes : Goes m s v.entry w'
  pub cells : goes.event.cells ≡ v.cells
  pub children : AllAt goes.book goes.event.after v.children goes.event.children
  pub woken : AllAt goes.book goes.event.after v.woken (map made_ready goes.event.woken)
  pub bound : AreAt book.places v.bound (places_bound goes.event.bindings)
  pub waits : ArePlaces book.places v.waits goes.event.waits_for
  -- places stay where they are, and so do the other processes that are Ready
  pub places_stay : (j : Place) (a : ℕ) → PlaceAt book j a → PlaceAt goes.book j a
  pub processes_stay : (q : ℕ) (y : Process) → ProcessAt book s q y → is_ready y.status ≡ true → (q ≡ v.process → ⊥)
      → ProcessAt goes.book goes.event.after q y

-- So it is over every heap that has what the move read and stands for a state in which the run is open.
abbrev pub Fits : Program → Move → Type 0
Fits m v = (book : Book) (ws : List ℕ) (s : State) → MayGo v book ws s
    → GoesOn m v book s (over (v.writes (suc s.entries)) (inside_at ws))
