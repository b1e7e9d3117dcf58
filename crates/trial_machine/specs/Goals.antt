-- What was read of a process: the procedure that it calls, and its arguments.
use Rattle.std.specs.Prelude.{◌≡◌, ℕ, ◌+◌, ◌≤◌, Bool, true, false, List, [], length, Option, Some, None, slice_get}
use Rattle.fcp_model.specs.Terms.{Bindings}
use Rattle.fcp_model.specs.Places.{Variable}
use Rattle.fcp_model.specs.Programs.{Goal}
use Rattle.heap_words.specs.Cells.{decoded}
use Rattle.heap_words.specs.Trails.{WordList, word_at}
use Rattle.heap_words.specs.declared.cell.Cell.TheVariants.{Raw, Status}
use Rattle.heap_words.specs.declared.cell.Stand.{Stand}
use Rattle.word_states.specs.Words.{Words}
use Rattle.word_states.specs.Denoting.{Addresses}
use Rattle.word_states.specs.Trials.{IsTried}
use Rattle.trial_laws.specs.Leading.{IsTermWord}
use Rattle.trial_machine.specs.declared.machine.Machine.{Machine}
use Rattle.trial_machine.specs.Machines.{at_machine, words_of}

-- by a load of the store a status stands at the address
abbrev pub HasStatus : {S : Type 0} → (S → ℕ → ℕ → Type 0) → S → ℕ → Type 0
HasStatus had w p = (x : ℕ) × (d : Stand) × had w p x × (decoded x ≡ Some (Status d))

-- the word that was kept at an address is that of a number
abbrev pub KeptNumber : WordList → ℕ → ℕ → Type 0
KeptNumber kept a n = (x : ℕ) × (word_at kept a ≡ Some x) × (decoded x ≡ Some (Raw n))

-- or of none
abbrev pub NumberRead : WordList → ℕ → Option ℕ → Type 0
NumberRead kept a None = (x : ℕ) × (word_at kept a ≡ Some x) × ((n : ℕ) → decoded x ≡ Some (Raw n) → ⊥)
NumberRead kept a (Some n) = KeptNumber kept a n

-- in no store with what was kept the process has a goal
abbrev pub NoGoal : WordList → ℕ → Type 0
NoGoal kept p = (w : Words) (vs : Addresses) (bound : Bindings) (g : Goal Variable) → IsTried kept p w vs bound g → ⊥

-- The process calls this procedure, with so many arguments.
pub record Calls (kept : WordList) (p f n : ℕ) : Type 0 where
  pub name : KeptNumber kept (p + 2) f
  pub count : KeptNumber kept (p + 3) n

-- so it was read, or there is no goal
abbrev pub CallRead : WordList → ℕ → Option (ℕ × ℕ) → Type 0
CallRead kept p None = NoGoal kept p
CallRead kept p (Some c) = Calls kept p c.0 c.1

-- a process has so many arguments or more
abbrev pub HasArguments : WordList → ℕ → ℕ → Type 0
HasArguments kept p n = (m : ℕ) × KeptNumber kept (p + 3) m × (n ≤ m)

-- So many words of arguments of the process were kept, each of them one that a term may have.
pub record AreKept (kept : WordList) (p n : ℕ) (args : List ℕ) : Type 0 where
  pub count : length args ≡ n
  pub words : (i x : ℕ) → slice_get args i ≡ Some x → word_at kept (p + 4 + i) ≡ Some x
  pub terms : (i x : ℕ) → slice_get args i ≡ Some x → IsTermWord x

-- Nothing is at hand: no pieces, nothing that was bound or read, and no try that did not fail.
pub record IsIdle (m : Machine) : Type 0 where
  pub pieces : m.desk.pieces ≡ []
  pub behind : m.desk.behind ≡ true
  pub binds : m.trail.binds ≡ []
  pub reads : m.trail.reads.items ≡ []
  pub waits : m.waits ≡ []

-- and the slots hold the arguments
pub record HoldsArguments (m : Machine) : Type 0 where
  pub idle : IsIdle m
  pub slots : (i : ℕ) → (at_machine m).slots i ≡ words_of m.desk.slots.args i
  pub operators : (i : ℕ) → (at_machine m).operators i ≡ false

-- so many arguments were read and are in slots; or there is no goal
abbrev pub ArgumentsRead : Machine → ℕ → ℕ → Bool → Type 0
ArgumentsRead m p n true = AreKept m.trail.kept p n m.desk.slots.args × HoldsArguments m
ArgumentsRead m p n false = NoGoal m.trail.kept p
