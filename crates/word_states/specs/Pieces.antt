-- The pieces of a try: its own words, one piece after another from 4,000,000,000 on.
use Rattle.std.specs.Prelude.{◌≡◌, ◌⊎◌, ℕ, suc, ◌+◌, ℤ, Bool, true, false, List, [], ◌∷◌, ◌++◌, length, nat_eq, if◌then◌else◌, Some}
use Rattle.fcp_model.specs.Places.{own}
use Rattle.fcp_model.specs.Terms.{Bindings}
use Rattle.fcp_model.specs.Programs.{Goal, rename_goal}
use Rattle.heap_words.specs.Cells.{decoded, is_final_word}
use Rattle.heap_words.specs.Refers.{parts}
use Rattle.heap_words.specs.Trails.{WordList}
use Rattle.heap_words.specs.declared.cell.Cell.{Cell}
use Rattle.heap_words.specs.declared.cell.Cell.TheVariants.{Ref, RoRef, Small, Wide, Cons, Tuple, Raw}
use Rattle.word_states.specs.Words.{Words, over, row}
use Rattle.word_states.specs.Denoting.{Addresses}
use Rattle.word_states.specs.Leading.{GoalStands}

-- the words of pieces one after another, the first at the address
abbrev pub rows : ℕ → List (List ℕ) → WordList
rows a [] = []
rows a (p ∷ ps) = row a p ++ rows (a + length p) ps

-- a piece begins at the address, where the first begins at b
abbrev pub StartsAt : ℕ → List (List ℕ) → ℕ → List ℕ → Type 0
StartsAt b [] a p = ⊥
StartsAt b (q ∷ qs) a p = ((b ≡ a) × (q ≡ p)) ⊎ StartsAt (b + length q) qs a p

-- a place: its name, which is 0 until the entry has its number, and its word
abbrev pub is_place : List ℕ → Bool
is_place (x ∷ y ∷ []) = nat_eq x 0
is_place _ = false

-- a process; 9 is the word of the status Ready
abbrev pub is_process : List ℕ → Bool
is_process (x ∷ xs) = nat_eq x 9
is_process [] = false

-- the addresses of the words of the places among the pieces, in order
abbrev pub place_words : ℕ → List (List ℕ) → List ℕ
place_words a [] = []
place_words a (p ∷ ps) = if is_place p then suc a ∷ place_words (a + length p) ps else place_words (a + length p) ps

-- the addresses of the processes among the pieces, in order
abbrev pub process_words : ℕ → List (List ℕ) → List ℕ
process_words a [] = []
process_words a (p ∷ ps) = if is_process p then a ∷ process_words (a + length p) ps else process_words (a + length p) ps

-- the clause's variables from the k-th on, at these addresses
abbrev pub numbered : ℕ → List ℕ → Addresses
numbered k [] = []
numbered k (a ∷ as') = (own k, a) ∷ numbered (suc k) as'

-- each of the words is final
abbrev pub AreFinal : List ℕ → Type 0
AreFinal [] = Unit {0}
AreFinal (x ∷ xs) = (is_final_word x ≡ true) × AreFinal xs

-- The forms of a piece: a place, a pair, a tuple or an operator, the lower bits of a wide number, a process. All words are final
-- but 0, where a name or an unbound place is to stand, and the status.
pub data IsPiece (p : List ℕ) : Type 0 where
  a_place : (x : ℕ) → p ≡ 0 ∷ x ∷ [] → (x ≡ 0) ⊎ (is_final_word x ≡ true) → IsPiece p
  a_pair : (x y : ℕ) → p ≡ x ∷ y ∷ [] → is_final_word x ≡ true → is_final_word y ≡ true
      → ((n : ℕ) → decoded x ≡ Some (Raw n) → ⊥) → IsPiece p
  a_tuple : (r n : ℕ) (xs : List ℕ) → p ≡ r ∷ xs → decoded r ≡ Some (Raw n) → length xs ≡ parts n → AreFinal xs → IsPiece p
  a_wide : (x : ℕ) (z : ℤ) → p ≡ x ∷ [] → decoded x ≡ Some (Small z) → IsPiece p
  a_process : (f g r n : ℕ) (xs : List ℕ) → p ≡ 9 ∷ 0 ∷ f ∷ r ∷ xs → decoded f ≡ Some (Raw g) → decoded r ≡ Some (Raw n)
      → length xs ≡ n → AreFinal xs → IsPiece p

-- A cell refers to one of the pieces. The first word of a pair is no `Raw`, so that no number is looked for there.
abbrev pub RefersOwn : List (List ℕ) → Cell → Type 0
RefersOwn ps (Ref a) = (s x : ℕ) × (a ≡ suc s) × StartsAt 4000000000 ps s (0 ∷ x ∷ [])
RefersOwn ps (RoRef a) = (s x : ℕ) × (a ≡ suc s) × StartsAt 4000000000 ps s (0 ∷ x ∷ [])
RefersOwn ps (Cons a) =
    (x y : ℕ) × StartsAt 4000000000 ps a (x ∷ y ∷ []) × (is_final_word x ≡ true) × ((n : ℕ) → decoded x ≡ Some (Raw n) → ⊥)
RefersOwn ps (Tuple a) =
    (r n : ℕ) × (xs : List ℕ) × StartsAt 4000000000 ps a (r ∷ xs) × (decoded r ≡ Some (Raw n)) × (length xs ≡ parts n)
RefersOwn ps (Wide a h) = (x : ℕ) × StartsAt 4000000000 ps a (x ∷ [])
RefersOwn ps _ = ⊥

-- the words of the store with the try's own
abbrev pub with_own : List (List ℕ) → Words → Words
with_own ps w = over (rows 4000000000 ps) w

-- the places of the store, and after them those of the clause's variables
abbrev pub with_variables : List (List ℕ) → Addresses → Addresses
with_variables ps vs = vs ++ numbered 1 (place_words 4000000000 ps)

-- the processes at these addresses have goals to which these of a clause lead, by the bindings of its try
abbrev pub ChildrenSay : Words → Addresses → Bindings → List ℕ → List (Goal ℕ) → Type 0
ChildrenSay w vs bs [] [] = Unit {0}
ChildrenSay w vs bs (q ∷ qs) (g ∷ gs) = GoalStands w vs bs q (rename_goal own g) × ChildrenSay w vs bs qs gs
ChildrenSay w vs bs _ _ = ⊥
