-- What the waiting lists tell: who waits on places, and so who is to be woken.
use Rattle.std.specs.Prelude.{◌≡◌, ℕ, true, List, [], ◌∷◌, Some, None}
use Rattle.fcp_model.specs.declared.run.Place.{Place}
use Rattle.fcp_model.specs.Places.{made, is_listed, is_older_process}
use Rattle.fcp_model.specs.Terms.{Bindings, find}
use Rattle.fcp_model.specs.States.{waiting, Process, State}
use Rattle.fcp_model.specs.Events.{is_woken}
use Rattle.heap_words.specs.Trails.{WordList, word_at}
use Rattle.word_states.specs.Words.{Words, IsIn, AreDistinct}
use Rattle.word_states.specs.Standing.{Book, StandsFor, ProcessAt, PlaceAt}
use Rattle.word_states.specs.Led.{ReadsWaiting}
use Rattle.word_states.specs.Trials.{AreReads}

-- the process at q waits on the place at a
pub record WaitsAt (book : Book) (s : State) (q a : ℕ) : Type 0 where
  -- a process of the state is there
  pub process : Process
  pub stands : ProcessAt book s q process
  -- it waits on some places
  pub places : List Place
  pub status : process.status ≡ waiting places
  -- and the place at a is one of them
  pub place : Place
  pub at : PlaceAt book place a
  pub listed : is_listed place places ≡ true

-- the processes at these addresses rise in name
abbrev pub AreByName : Book → State → List ℕ → Type 0
AreByName book s [] = Unit {0}
AreByName book s (q ∷ qs) = ((r : ℕ) (x y : Process) → IsIn r qs → ProcessAt book s q x → ProcessAt book s r y
    → is_older_process x.name y.name ≡ true) × AreByName book s qs

-- exactly the processes that wait on one of these places, by name
pub record WakesSay (book : Book) (s : State) (places wakes : List ℕ) : Type 0 where
  -- each that waits on one of the places is among them
  pub all : (q a : ℕ) → IsIn a places → WaitsAt book s q a → IsIn q wakes
  -- each of them does
  pub only : (q : ℕ) → IsIn q wakes → (a : ℕ) × IsIn a places × WaitsAt book s q a
  -- they come by name
  pub by_name : AreByName book s wakes

-- By what was read, the waiting lists of these places say who is to be woken: in every state in which the places are unbound.
pub record ReadWakes (read : WordList) (places wakes : List ℕ) : Type 0 where
  -- so it is wherever words have what was read
  pub says : (book : Book) (w : Words) (s : State) → ((a x : ℕ) → word_at read a ≡ Some x → w a ≡ Some x) → StandsFor book w s
      → ((a : ℕ) → IsIn a places → (j : Place) × PlaceAt book j a × (find s.bound (made j) ≡ None)) → WakesSay book s places wakes
  -- what was read is a list of reads
  pub reads : AreReads read
  -- each process once, and its status was read
  pub distinct : AreDistinct wakes
  pub sleepers : (q : ℕ) → IsIn q wakes → ReadsWaiting read q

-- the processes at these addresses are those that the bindings wake
pub record AreWoken (book : Book) (s : State) (bs : Bindings) (wakes : List ℕ) : Type 0 where
  -- each that they wake is among them
  pub all : (q : ℕ) (y : Process) → ProcessAt book s q y → is_woken bs y.status ≡ true → IsIn q wakes
  -- and they wake each of them
  pub only : (q : ℕ) → IsIn q wakes → (y : Process) × ProcessAt book s q y × (is_woken bs y.status ≡ true)
