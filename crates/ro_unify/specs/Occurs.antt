-- The parts of a word, and where a place occurs in it.
use Rattle.std.specs.Prelude.{◌≡◌, ℕ, zero, suc, ◌+◌, Bool, true, false, List, [], ◌∷◌, ◌++◌, reverse, Option, Some, None, nat_eq}
use Rattle.heap_words.specs.Cells.{decoded}
use Rattle.heap_words.specs.Refers.{parts}
use Rattle.heap_words.specs.Trails.{WordList, Memory}
use Rattle.heap_words.specs.declared.cell.Cell.{Cell}
use Rattle.heap_words.specs.declared.cell.Cell.TheVariants.{Cons, Raw}
use Rattle.heap_words.specs.declared.cell.Cell.TheVariants as cell
use Rattle.ro_unify.specs.declared.look.Look.{Look}
use Rattle.ro_unify.specs.declared.look.Look.TheVariants.{Writable, ReadOnly, Solid}
use Rattle.ro_unify.specs.declared.occurrence.Whole.{Whole}
use Rattle.ro_unify.specs.declared.occurrence.Whole.TheVariants.{Atom, Pair, Tuple}
use Rattle.ro_unify.specs.Value.{Values}

-- the place of an unbound value
abbrev pub open_of : Look → Option ℕ
open_of (Writable a) = Some a
open_of (ReadOnly a) = Some a
open_of (Solid x) = None

-- a pair or a tuple has its words at an address
abbrev pub whole_of : Option Cell → Whole
whole_of (Some (Cons a)) = Pair a
whole_of (Some (cell.Tuple a)) = Tuple a
whole_of _ = Atom

-- how many words come after a count
abbrev pub count_of : Option Cell → ℕ
count_of (Some (Raw n)) = parts n
count_of _ = 0

-- the words at the n addresses after a
abbrev pub words_after : Memory → ℕ → ℕ → List ℕ
words_after m a zero = []
words_after m a (suc n) = m (a + 1) ∷ words_after m (a + 1) n

-- the words of the parts: two of a pair, of a tuple as many as its count says
abbrev pub parts_of : Memory → Whole → List ℕ
parts_of m Atom = []
parts_of m (Pair a) = m a ∷ m (a + 1) ∷ []
parts_of m (Tuple a) = words_after m a (count_of (decoded (m a)))

-- a work list whose last word is the next one
abbrev pub stack : {A : Type 0} → List A → List A
stack ws = reverse ws

-- each item of a list is so
abbrev pub Each : {A : Type 0} → (A → Type 0) → List A → Type 0
Each P [] = Unit {0}
Each P (x ∷ xs) = P x × Each P xs

-- how an occurs check ends, with the reads until then
pub data Found : Type 0 where
  hit : List ℕ → Found
  miss : List ℕ → Found

abbrev pub found_as : Bool → List ℕ → Found
found_as true rs = hit rs
found_as false rs = miss rs

-- The occurs check of words from the left, by value: each unbound place is read, and the first one that is p ends it. What a value has
-- of parts comes next.
pub data Occurs (bs : WordList) (m : Memory) (p : ℕ) : List ℕ → List ℕ → Found → Type 0 where
  at_end : (rs : List ℕ) → Occurs bs m p [] rs (miss rs)
  here : (w : ℕ) (ws rs : List ℕ) (l : Look) (a : ℕ) → Values bs m false w l → open_of l ≡ Some a → nat_eq a p ≡ true
      → Occurs bs m p (w ∷ ws) rs (hit (rs ++ a ∷ []))
  leaf : (w : ℕ) (ws rs : List ℕ) (l : Look) (a : ℕ) (f : Found) → Values bs m false w l → open_of l ≡ Some a → nat_eq a p ≡ false
      → Occurs bs m p ws (rs ++ a ∷ []) f → Occurs bs m p (w ∷ ws) rs f
  node : (w : ℕ) (ws rs : List ℕ) (x : ℕ) (f : Found) → Values bs m false w (Solid x)
      → Occurs bs m p (parts_of m (whole_of (decoded x)) ++ ws) rs f → Occurs bs m p (w ∷ ws) rs f

-- the words that come next after a value
abbrev pub look_parts : Memory → Look → List ℕ
look_parts m (Solid x) = parts_of m (whole_of (decoded x))
look_parts m (Writable a) = []
look_parts m (ReadOnly a) = []

-- the reads with that of a value
abbrev pub with_look : List ℕ → Look → List ℕ
with_look rs (Solid x) = rs
with_look rs (Writable a) = rs ++ a ∷ []
with_look rs (ReadOnly a) = rs ++ a ∷ []

-- the visit of a word w in front of the words ws, whose value is l
abbrev pub Visits : WordList → Memory → ℕ → List ℕ → List ℕ → List ℕ → List ℕ → Look → Type 0
Visits bs m w ws rs ws' rs' l = Values bs m false w l × (ws' ≡ look_parts m l ++ ws) × (rs' ≡ with_look rs l)

-- the value is the place p, unbound
abbrev pub is_leaf : Look → ℕ → Bool
is_leaf (Writable a) p = nat_eq a p
is_leaf (ReadOnly a) p = nat_eq a p
is_leaf (Solid x) p = false
