-- Two words that are no references: whether they are alike, and the pairs of their parts.
use Rattle.std.specs.Prelude.{ℕ, zero, suc, ◌+◌, Bool, true, false, ◌&&◌, List, [], ◌∷◌, ◌++◌, Option, Some, None, if◌then◌else◌, nat_eq}
use Rattle.heap_words.specs.Cells.{decoded}
use Rattle.heap_words.specs.Trails.{Memory}
use Rattle.heap_words.specs.declared.cell.Cell.{Cell}
use Rattle.heap_words.specs.declared.cell.Cell.TheVariants as cell
use Rattle.ro_unify.specs.declared.occurrence.Whole.{Whole}
use Rattle.ro_unify.specs.declared.occurrence.Whole.TheVariants.{Atom, Pair, Tuple}
use Rattle.ro_unify.specs.Occurs.{whole_of, count_of}

-- where a wide number has its lower bits, and its upper bits
abbrev pub wide_of : Option Cell → Option (ℕ × ℕ)
wide_of (Some (cell.Wide a h)) = Some (a, h)
wide_of _ = None

-- two wide numbers are the same where their bits are; any other two words where they are one
abbrev pub same_wides : Memory → ℕ → ℕ → Option (ℕ × ℕ) → Option (ℕ × ℕ) → Bool
same_wides m x y None d = nat_eq x y
same_wides m x y (Some c) None = nat_eq x y
same_wides m x y (Some c) (Some d) = nat_eq c.1 d.1 && nat_eq (m c.0) (m d.0)

-- two words without parts are the same
abbrev pub same_atoms : Memory → ℕ → ℕ → Bool
same_atoms m x y = same_wides m x y (wide_of (decoded x)) (wide_of (decoded y))

-- the pairs of the words at the n addresses after a and b
abbrev pub pairs_after : Memory → ℕ → ℕ → ℕ → List (ℕ × ℕ)
pairs_after m a b zero = []
pairs_after m a b (suc n) = (m (a + 1), m (b + 1)) ∷ pairs_after m (a + 1) (b + 1) n

-- Two words are alike where both have no parts and are the same, both are pairs, or both are tuples of one count.
abbrev pub alike_as : Memory → ℕ → ℕ → Whole → Whole → Option (List (ℕ × ℕ))
alike_as m x y Atom Atom = if same_atoms m x y then Some [] else None
alike_as m x y Atom (Pair b) = None
alike_as m x y Atom (Tuple b) = None
alike_as m x y (Pair a) Atom = None
alike_as m x y (Pair a) (Pair b) = Some ((m a, m b) ∷ (m (a + 1), m (b + 1)) ∷ [])
alike_as m x y (Pair a) (Tuple b) = None
alike_as m x y (Tuple a) Atom = None
alike_as m x y (Tuple a) (Pair b) = None
alike_as m x y (Tuple a) (Tuple b) = if nat_eq (m a) (m b) then Some (pairs_after m a b (count_of (decoded (m a)))) else None

-- the pairs of the parts of two words, where they are alike
abbrev pub alike : Memory → ℕ → ℕ → Option (List (ℕ × ℕ))
alike m x y = alike_as m x y (whole_of (decoded x)) (whole_of (decoded y))

-- the parts' pairs in front of the others
abbrev pub before : Option (List (ℕ × ℕ)) → List (ℕ × ℕ) → Option (List (ℕ × ℕ))
before None ps = None
before (Some qs) ps = Some (qs ++ ps)

-- the pairs, where the answer is yes
abbrev pub only_if : Bool → List (ℕ × ℕ) → Option (List (ℕ × ℕ))
only_if true ps = Some ps
only_if false ps = None

-- both words of a pair are so
abbrev pub Both : (ℕ → Type 0) → ℕ × ℕ → Type 0
Both P p = P p.0 × P p.1
