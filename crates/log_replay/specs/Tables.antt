-- The table of the Ready processes: names, each with an address.
use Rattle.std.specs.Prelude.{◌≡◌, ℕ, ◌⊎◌, true, List, [], ◌∷◌, Option, Some}
use Rattle.std.specs.Map.{lookup}
use Rattle.fcp_model.specs.declared.run.Proc.{Proc}
use Rattle.fcp_model.specs.Places.{is_same_process}
use Rattle.fcp_model.specs.States.{Process, State, is_ready}
use Rattle.fcp_model.specs.LawfulStates.{Each}
use Rattle.word_states.specs.Words.{Words}
use Rattle.word_states.specs.Standing.{Book, StandsFor, ProcessAt}
use Rattle.word_states.specs.Going.{AllAt}

-- names with addresses
abbrev pub Table : Type 0
Table = List (Proc × ℕ)

-- the address that the table has for a process
abbrev pub address_of : Table → Proc → Option ℕ
address_of t q = lookup (is_same_process q) t

-- A Ready process of that name has its words at the address.
pub record IsReadyAt (book : Book) (s : State) (q : Proc) (p : ℕ) : Type 0 where
  pub process : Process
  pub there : ProcessAt book s p process
  pub named : process.name ≡ q
  pub may_move : is_ready process.status ≡ true

-- each process of the table is Ready in the state, and has its words at the address there
abbrev pub HasOnlyReady : Book → State → Table → Type 0
HasOnlyReady book s t = (q : Proc) (p : ℕ) → address_of t q ≡ Some p → IsReadyAt book s q p

-- Exactly the Ready processes of the state are in the table, by name, with their addresses.
pub record HasReady (book : Book) (s : State) (t : Table) : Type 0 where
  pub only : HasOnlyReady book s t
  pub all : (p : ℕ) (x : Process) → ProcessAt book s p x → is_ready x.status ≡ true → address_of t x.name ≡ Some p

-- these processes are Ready
abbrev pub AreReady : List Process → Type 0
AreReady xs = Each (λ x. is_ready x.status ≡ true) xs

-- the process is one of these
abbrev pub IsOneOf : List Process → Process → Type 0
IsOneOf [] y = ⊥
IsOneOf (x ∷ xs) y = (x ≡ y) ⊎ IsOneOf xs y

-- the table has the process
abbrev pub IsInTable : Table → Proc → Type 0
IsInTable t q = (p : ℕ) × (address_of t q ≡ Some p)

-- The processes at these addresses were put into the table, wherever the words stand for a state.
pub record PutsAll (w : Words) (addresses : List ℕ) (old new : Table) : Type 0 where
  pub stay : (q : Proc) → IsInTable old q → IsInTable new q
  pub put : (book : Book) (s : State) (xs : List Process) → StandsFor book w s → AllAt book s addresses xs
      → (x : Process) → IsOneOf xs x → IsInTable new x.name
  pub only : (book : Book) (s : State) (xs : List Process) → StandsFor book w s → AllAt book s addresses xs → AreReady xs
      → HasOnlyReady book s old → HasOnlyReady book s new

-- The process was taken out of the table, and the others stay.
pub record TakesOut (q : Proc) (old new : Table) : Type 0 where
  pub gone : (p : ℕ) → address_of new q ≡ Some p → ⊥
  pub others : (r : Proc) → (is_same_process q r ≡ true → ⊥) → address_of new r ≡ address_of old r
