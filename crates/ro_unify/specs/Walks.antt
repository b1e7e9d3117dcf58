-- What a try has seen as a graph, and the two facts for which each walk over it ends.
use Rattle.std.specs.Prelude.{◌≡◌, ℕ, zero, suc, ◌+◌, ◌*◌, ◌<◌, ◌≤◌, ◌⊎◌, Bool, true, false, cond}
use Rattle.std.specs.Prelude.{List, [], ◌∷◌, Option, Some, None, unwrap_or, is_some}
use Rattle.heap_words.specs.Cells.{decoded}
use Rattle.heap_words.specs.Trails.{WordList, Memory, word_at, under}
use Rattle.ro_unify.specs.declared.look.Look.{Look}
use Rattle.ro_unify.specs.declared.look.Look.TheVariants.{Writable, ReadOnly, Solid}
use Rattle.ro_unify.specs.declared.occurrence.Whole.{Whole}
use Rattle.ro_unify.specs.declared.occurrence.Whole.TheVariants.{Atom, Pair, Tuple}
use Rattle.ro_unify.specs.Value.{leads_on}
use Rattle.ro_unify.specs.Occurs.{whole_of, count_of, parts_of}

-- the first of two, where there is one
abbrev pub first_some : Option ℕ → Option ℕ → Option ℕ
first_some None o = o
first_some (Some x) o = Some x

-- the word that a try has seen at an address: a kept one, or one of its own
abbrev pub seen_at : WordList → (ℕ → Option ℕ) → ℕ → Option ℕ
seen_at kept own a = first_some (word_at kept a) (own a)

pub record IsSeen (kept : WordList) (own : ℕ → Option ℕ) (a : ℕ) : Type 0 where
  pub word : ℕ
  pub there : seen_at kept own a ≡ Some word

-- the memory of what was seen, with the word of the empty list at all other addresses
abbrev pub seen_memory : WordList → (ℕ → Option ℕ) → Memory
seen_memory kept own a = unwrap_or (seen_at kept own a) 6

-- A walk comes to an address as to a place, where it finds the private binding if there is one; as to a part, where it
-- finds the word itself; or as to the number of a tuple's parts, where it ends.
pub data Node : Type 0 where
  place : ℕ → Node
  part : ℕ → Node
  count : ℕ → Node

abbrev pub address : Node → ℕ
address (place a) = a
address (part a) = a
address (count a) = a

abbrev pub node_word : WordList → Memory → Node → ℕ
node_word bs m (place a) = under bs m a
node_word bs m (part a) = m a
node_word bs m (count a) = 6

-- a reference goes on to its place
abbrev pub IsPlaceOf : Option (Bool × ℕ) → ℕ → Type 0
IsPlaceOf None b = ⊥
IsPlaceOf (Some s) b = b ≡ s.1

-- a pair goes on to its two parts, a tuple to its parts
abbrev pub IsPartOf : Memory → Whole → ℕ → Type 0
IsPartOf m Atom b = ⊥
IsPartOf m (Pair a) b = (b ≡ a) ⊎ (b ≡ a + 1)
IsPartOf m (Tuple a) b = (a < b) × (b ≤ a + count_of (decoded (m a)))

-- and to their number
abbrev pub IsCountOf : Whole → ℕ → Type 0
IsCountOf (Tuple a) b = b ≡ a
IsCountOf _ b = ⊥

-- where a walk goes on from a word, and from a node
abbrev pub Goes : Memory → ℕ → Node → Type 0
Goes m x (place b) = IsPlaceOf (leads_on false (decoded x)) b
Goes m x (part b) = IsPartOf m (whole_of (decoded x)) b
Goes m x (count b) = IsCountOf (whole_of (decoded x)) b

abbrev pub Edge : WordList → Memory → Node → Node → Type 0
Edge bs m a b = Goes m (node_word bs m a) b

-- The two facts of a try, of which all addresses are below n.
pub record Tame (binds kept : WordList) (own : ℕ → Option ℕ) (n : ℕ) : Type 0 where
  -- The words seen and the private bindings have no cycle together: a rank falls along each step of a walk.
  pub rank : Node → ℕ
  pub top : ℕ
  pub low : (a : Node) → rank a ≤ top
  pub falls : (a b : Node) → Edge binds (seen_memory kept own) a b → rank b < rank a
  pub within : (a b : Node) → Edge binds (seen_memory kept own) a b → address b < n
  -- What is reached from a place that is bound privately was seen: it lies in a set that no walk leaves.
  pub inner : Node → Bool
  pub stays : (a b : Node) → Edge binds (seen_memory kept own) a b → inner a ≡ true → inner b ≡ true
  pub bound_inner : (a x : ℕ) → word_at binds a ≡ Some x → inner (place a) ≡ true
  pub inner_seen : (a : Node) → inner a ≡ true → IsSeen kept own (address a)

-- A set of nodes that an occurs check walked: each was seen, no walk leaves it, the word goes on into it alone, and
-- the place is not in it.
pub record Walked (binds kept : WordList) (own : ℕ → Option ℕ) (p x : ℕ) : Type 0 where
  pub walked : Node → Bool
  pub start : (b : Node) → Goes (seen_memory kept own) x b → walked b ≡ true
  pub closed : (a b : Node) → Edge binds (seen_memory kept own) a b → walked a ≡ true → walked b ≡ true
  pub was_seen : (a : Node) → walked a ≡ true → IsSeen kept own (address a)
  pub free : walked (place p) ≡ false

-- the parts of a word and their number were seen
pub record PartsSeen (kept : WordList) (own : ℕ → Option ℕ) (w : Whole) : Type 0 where
  pub parts : (b : ℕ) → IsPartOf (seen_memory kept own) w b → IsSeen kept own b
  pub number : (b : ℕ) → IsCountOf w b → IsSeen kept own b

-- and those of a value
abbrev pub LookSeen : WordList → (ℕ → Option ℕ) → Look → Type 0
LookSeen kept own (Solid x) = PartsSeen kept own (whole_of (decoded x))
LookSeen kept own (Writable a) = Unit {0}
LookSeen kept own (ReadOnly a) = Unit {0}

-- the words to which a walk goes on from a word
abbrev pub kids_of : WordList → Memory → Option (Bool × ℕ) → Whole → List ℕ
kids_of bs m (Some s) w = under bs m s.1 ∷ []
kids_of bs m None w = parts_of m w

abbrev pub kids : WordList → Memory → ℕ → List ℕ
kids bs m x = kids_of bs m (leads_on false (decoded x)) (whole_of (decoded x))

abbrev pub total : {A : Type 0} → (A → ℕ) → List A → ℕ
total f [] = 0
total f (x ∷ xs) = f x + total f xs

-- the expanded size of a word, as far as n steps of a walk go
abbrev pub size : ℕ → WordList → Memory → ℕ → ℕ
size zero bs m x = 0
size (suc n) bs m x = suc (total (size n bs m) (kids bs m x))

-- no size by n steps is above this
abbrev pub most_by : ℕ → ℕ
most_by zero = 66
most_by (suc n) = 66 * most_by n

-- how many steps are enough among n addresses
abbrev pub enough : ℕ → ℕ
enough n = suc (suc (n + n + n))

abbrev pub weight : ℕ → WordList → WordList → (ℕ → Option ℕ) → ℕ → ℕ
weight n binds kept own = size (enough n) binds (seen_memory kept own)

-- how many of the first n addresses a list lacks
abbrev pub lacks : WordList → ℕ → ℕ
lacks seen zero = 0
lacks seen (suc n) = cond (is_some (word_at seen n)) 0 1 + lacks seen n

-- How many more steps there may be: `news` counts what is not kept and not bound yet, `size` is the expanded size of
-- the work, and each thing that is new lets it grow up to `most` times the size and `most`.
abbrev pub steps_left : ℕ → ℕ → ℕ → ℕ
steps_left most zero size = size
steps_left most (suc news) size = size + suc (steps_left most news (most * (size + most)))

abbrev pub most : ℕ → ℕ
most n = most_by (enough n) + most_by (enough n)

-- of a list of words, while nothing is bound
abbrev pub words_left : ℕ → WordList → WordList → (ℕ → Option ℕ) → List ℕ → ℕ
words_left n binds kept own ws = steps_left (most n) (lacks kept n) (total (weight n binds kept own) ws)

-- of a list of pairs
abbrev pub pair_weight : ℕ → WordList → WordList → (ℕ → Option ℕ) → ℕ × ℕ → ℕ
pair_weight n binds kept own p = weight n binds kept own p.0 + weight n binds kept own p.1

abbrev pub pairs_left : ℕ → WordList → WordList → (ℕ → Option ℕ) → List (ℕ × ℕ) → ℕ
pairs_left n binds kept own ps = steps_left (most n) (lacks kept n + lacks binds n) (total (pair_weight n binds kept own) ps)
