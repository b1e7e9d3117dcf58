-- The words of a state or of a try, as unification sees them.
use Rattle.std.specs.Prelude.{◌≡◌, ◌↔◌, ℕ, ◌-◌, ◌<◌, ◌≤◌, pos, List, [], ◌∷◌, Option, Some, None, if◌then◌else◌, nat_eq, is_some, unwrap_or}
use Rattle.fcp_model.specs.declared.run.Place.{Place}
use Rattle.fcp_model.specs.Places.{Variable, made, own}
use Rattle.fcp_model.specs.Terms.{Term, Bindings, find}
use Rattle.heap_words.specs.Cells.{decoded}
use Rattle.heap_words.specs.Trails.{WordList, Memory, word_at}
use Rattle.heap_words.specs.declared.cell.Cell.TheVariants.{Small}
use Rattle.word_states.specs.Words.{Words}
use Rattle.word_states.specs.Denoting.{Addresses, Listed, Denotes}
use Rattle.word_states.specs.Standing.{name_code, PlaceSays, PlacesStand}
use Rattle.word_states.specs.Pieces.{rows, StartsAt, IsPiece, with_own, with_variables}
use Rattle.unify_terms.specs.Denotes.{Naming, Stands, Names}
use Rattle.unify_terms.specs.Denotes as unified

-- the memory of some words; 12 is no cell's word, so at other addresses nothing stands for a term
abbrev pub memory_of : Words → Memory
memory_of w a = unwrap_or (w a) 12

-- the memory has the words
abbrev pub HasWords : Memory → Words → Type 0
HasWords m w = (a x : ℕ) → w a ≡ Some x → m a ≡ x

-- the variable that is listed with an address
abbrev pub name_at : Addresses → ℕ → Option Variable
name_at [] a = None
name_at (b ∷ bs) a = if nat_eq b.1 a then Some b.0 else name_at bs a

-- the listed addresses are places, and are called as their variables
abbrev pub naming : Addresses → Naming
naming vs = record { is_place = λ a. is_some (name_at vs a); name = λ a. unwrap_or (name_at vs a) (own 0) }

-- The listed variables have words of their own: a place in the store, after its name, and a variable of the clause among the words
-- of the try, where they stand in order.
pub record AreNamed (m : Memory) (vs : Addresses) : Type 0 where
  -- each variable has one address, and an address is one variable's
  pub once : (v u : Variable) (a b : ℕ) → Listed vs v a → Listed vs u b → (v ≡ u) ↔ (a ≡ b)
  -- places, after their names
  pub store : (j : Place) (a : ℕ) → Listed vs (made j) a
      → (a < 4000000000) × (j.number < 268435456) × (decoded (m (a - 1)) ≡ Some (Small (pos (name_code j.entry j.number))))
  -- variables of the clause, and that they stand in order
  pub own_words : (k a : ℕ) → Listed vs (own k) a → (4000000000 ≤ a) × (a < 0x100000000)
  pub rise : (k l a b : ℕ) → Listed vs (own k) a → Listed vs (own l) b → k < l → a < b

-- The words under private bindings say to what each listed variable is bound.
pub record SayBound (w : Words) (vs : Addresses) (binds : WordList) (bound : Bindings) : Type 0 where
  -- one that is bound privately is bound to a term, which its word there denotes
  pub privately : (v : Variable) (a x : ℕ) → Listed vs v a → word_at binds a ≡ Some x
      → (t : Term Variable) × (find bound v ≡ Some t) × Denotes w vs x t
  -- and of all others their own words say it
  pub openly : (v : Variable) (a : ℕ) → Listed vs v a → word_at binds a ≡ None
      → (x : ℕ) × (w a ≡ Some x) × PlaceSays w vs x (find bound v)

-- the words of the store alone
abbrev pub AreLow : Words → Type 0
AreLow w = (a x : ℕ) → w a ≡ Some x → a < 4000000000

-- the places of a state are named, and its words say to what they are bound
abbrev pub AStateIsSeen : Type 0
AStateIsSeen = (m : Memory) (w : Words) (vs : Addresses) (bound : Bindings) → PlacesStand w vs bound → AreLow w → HasWords m w
    → AreNamed m vs × SayBound w vs [] bound

-- and with them the variables of a clause, which have their places among the pieces of the try
abbrev pub ATryIsNamed : Type 0
ATryIsNamed = (m : Memory) (w : Words) (vs : Addresses) (bound : Bindings) (ps : List (List ℕ)) → PlacesStand w vs bound → AreLow w
    → ((a : ℕ) (p : List ℕ) → StartsAt 4000000000 ps a p → IsPiece p)
    → ((a x : ℕ) → word_at (rows 4000000000 ps) a ≡ Some x → a < 0x100000000) → HasWords m (with_own ps w)
    → AreNamed m (with_variables ps vs)

-- Where variables are named so, their names are as unification asks, and what words denote or say they do for unification, in each
-- memory that has them.
pub record UnificationSees (m : Memory) (w : Words) (vs : Addresses) : Type 0 where
  -- names and ages of places
  pub names : Names (naming vs) m
  -- terms
  pub denotes : (x : ℕ) (t : Term Variable) → Denotes w vs x t → unified.Denotes (naming vs) m t x
  -- bindings
  pub stands : (binds : WordList) (bound : Bindings) → SayBound w vs binds bound → Stands (naming vs) m binds bound

-- so it is of each memory that has the words
abbrev pub AllIsSeen : Type 0
AllIsSeen = (m : Memory) (w : Words) (vs : Addresses) → AreNamed m vs → HasWords m w → UnificationSees m w vs

-- What words stand for in the memory of some words, they denote or say by these words.
pub record WordsSay (w : Words) (vs : Addresses) : Type 0 where
  -- terms
  pub denotes : (x : ℕ) (t : Term Variable) → unified.Denotes (naming vs) (memory_of w) t x → Denotes w vs x t
  -- bindings
  pub says : (binds : WordList) (bound : Bindings) → Stands (naming vs) (memory_of w) binds bound → SayBound w vs binds bound

-- so it is of all words whose variables are named
abbrev pub AllIsSaid : Type 0
AllIsSaid = (w : Words) (vs : Addresses) → AreNamed (memory_of w) vs → WordsSay w vs
