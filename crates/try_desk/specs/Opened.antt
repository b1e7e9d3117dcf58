-- How a slot's value is opened.
use Rattle.std.specs.Prelude.{◌≡◌, ℕ, suc, ◌+◌, ◌<◌, ◌≤◌, Bool, true, false, List, [], ◌∷◌, Option, Some, None}
use Rattle.heap_words.specs.Trails.{WordList, Memory}
use Rattle.heap_words.specs.declared.cell.Cell.{Cell}
use Rattle.heap_words.specs.declared.cell.Cell.TheVariants.{Tuple}
use Rattle.heap_words.specs.Cells.{decoded}
use Rattle.ro_unify.specs.declared.look.Look.{Look}
use Rattle.ro_unify.specs.declared.look.Look.TheVariants.{Solid}
use Rattle.ro_unify.specs.Occurs.{words_after}
use Rattle.ro_unify.specs.Value.{Values}
use Rattle.ro_unify.specs.Walks.{IsSeen}
use Rattle.trial_laws.specs.Opening.{pair_at, tuple_at}
use Rattle.try_desk.specs.Held.{Held, held_term, held_with}

-- The value is a pair. Its parts, at this address and the next, were seen and have become what two slots hold.
pub record PairTaken (kept : WordList) (own : ℕ → Option ℕ) (m : Memory) (l : Look) (h h' : Held) (left right : ℕ) : Type 0 where
  pub at : ℕ
  pub pair : pair_at l ≡ Some at
  pub takes : h' ≡ held_with (held_with h left (m at) false) right (m (at + 1)) false
  pub first_seen : IsSeen kept own at
  pub second_seen : IsSeen kept own (at + 1)

-- the value is a pair and was taken, or it is none, and all slots hold what they held
abbrev pub TakesPair : WordList → (ℕ → Option ℕ) → Memory → Look → Held → Held → ℕ → ℕ → Bool → Type 0
TakesPair kept own m l h h' left right true = PairTaken kept own m l h h' left right
TakesPair kept own m l h h' left right false = (pair_at l ≡ None) × (h' ≡ h)

-- so of a slot's value
abbrev pub OpensPair : WordList → (ℕ → Option ℕ) → WordList → Memory → Held → Held → ℕ → ℕ → ℕ → Bool → Type 0
OpensPair kept own binds m h h' slot left right b =
    (l : Look) × Values binds m false (held_term h slot) l × TakesPair kept own m l h h' left right b

-- slots from i on take these words
abbrev pub held_all : Held → ℕ → List ℕ → Held
held_all h i [] = h
held_all h i (x ∷ xs) = held_all (held_with h i x false) (suc i) xs

-- the address of a tuple's number of parts
abbrev pub tuple_cell : Option Cell → Option ℕ
tuple_cell (Some (Tuple c)) = Some c
tuple_cell _ = None

-- where a value is a tuple, of any number of parts
abbrev pub any_tuple : Look → Option ℕ
any_tuple (Solid x) = tuple_cell (decoded x)
any_tuple _ = None

-- The value is a tuple of so many parts. Their number, at this address, was seen, and so were they, which have become what slots hold.
pub record TupleTaken (kept : WordList) (own : ℕ → Option ℕ) (m : Memory) (l : Look) (h h' : Held) (first parts : ℕ) : Type 0
  where
    pub at : ℕ
    pub tuple : tuple_at m parts l ≡ Some at
    pub takes : h' ≡ held_all h first (words_after m at parts)
    pub number_seen : IsSeen kept own at
    pub parts_seen : (b : ℕ) → at < b → b ≤ at + parts → IsSeen kept own b

-- the value is such a tuple and was taken, or it is none, and all slots hold what they held
abbrev pub TakesTuple : WordList → (ℕ → Option ℕ) → Memory → Look → Held → Held → ℕ → ℕ → Bool → Type 0
TakesTuple kept own m l h h' first parts true = TupleTaken kept own m l h h' first parts
TakesTuple kept own m l h h' first parts false = (tuple_at m parts l ≡ None) × (h' ≡ h)

-- so of a slot's value
abbrev pub OpensTuple : WordList → (ℕ → Option ℕ) → WordList → Memory → Held → Held → ℕ → ℕ → ℕ → Bool → Type 0
OpensTuple kept own binds m h h' slot first parts b =
    (l : Look) × Values binds m false (held_term h slot) l × TakesTuple kept own m l h h' first parts b
