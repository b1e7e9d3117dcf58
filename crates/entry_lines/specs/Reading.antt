-- What is read of a store, said of all words that have those that were kept and stand for a state.
use Rattle.std.specs.Prelude.{◌≡◌, ℕ, ◌≤◌, List, [], Option}
use Rattle.fcp_model.specs.declared.run.Place.{Place}
use Rattle.fcp_model.specs.declared.run.Proc.{Proc}
use Rattle.fcp_model.specs.Places.{Variable, places_among}
use Rattle.fcp_model.specs.States.{Process, State}
use Rattle.heap_words.specs.Trails.{WordList, Holds}
use Rattle.ro_unify.specs.Walks.{Tame}
use Rattle.word_states.specs.Words.{Words}
use Rattle.word_states.specs.Standing.{Book, StandsFor, PlaceAt, ProcessAt}
use Rattle.word_states.specs.Going.{ArePlaces}
use Rattle.entry_lines.specs.Lines.{HasKept}

-- the words are those of a store alone, they fit together, and the trail holds what was loaded of them and binds nothing
pub record ReadsStore {S : Type 0} (is_sound : S → Type 0) (had : S → ℕ → ℕ → Type 0) (leads : S → ℕ → Type 0) (own : S → ℕ → Option ℕ)
    (addresses : S → ℕ) (kept binds : WordList) (w : S) : Type 0 where
  pub sound : is_sound w
  pub store : addresses w ≤ 4000000000
  pub free : binds ≡ []
  pub holds : Holds had leads kept binds w
  pub tame : Tame binds kept (own w) (addresses w)

-- so it is of each state for which words stand that have those that were kept
abbrev pub Wherever : WordList → (Book → State → Type 0) → Type 0
Wherever kept P = (w : Words) (book : Book) (s : State) → HasKept kept w → StandsFor book w s → P book s

-- this is the name of the place at the address
abbrev pub NamesPlace : WordList → ℕ → Place → Type 0
NamesPlace kept a i = Wherever kept (λ book s. (j : Place) → PlaceAt book j a → i ≡ j)

-- and of the process
abbrev pub NamesProcess : WordList → ℕ → Proc → Type 0
NamesProcess kept p q = Wherever kept (λ book s. (y : Process) → ProcessAt book s p y → q ≡ y.name)

-- and these are the places at the addresses, where they are those of a waiting set
abbrev pub NamesSet : WordList → List ℕ → List Place → Type 0
NamesSet kept as' ps = Wherever kept (λ book s. (set : List Place) (reads : List Variable) → ArePlaces book.places as' set
    → set ≡ places_among reads → ps ≡ set)
