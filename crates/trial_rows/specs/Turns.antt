-- Words of a heap, of which another writer binds one place.
use Rattle.std.specs.Prelude.{◌≡◌, ◌⊎◌, ℕ, ℤ, true, false, List, Option, Some, if◌then◌else◌, nat_eq}
use Rattle.heap_words.specs.Cells.{decoded, is_final_word}
use Rattle.heap_words.specs.Heaps.{IsHeap, is_inside, inside_at, final_at}
use Rattle.heap_words.specs.declared.cell.Cell.TheVariants.{Small}

-- the words, the address of the place, and the word to which it is bound at some time
pub record Picture : Type 0 where
  pub words : List ℕ
  pub place : ℕ
  pub bound : ℕ

-- these three
abbrev pub picture : List ℕ → ℕ → ℕ → Picture
picture ws a x = record { words = ws; place = a; bound = x }

-- the words are those of a heap, the word of the place may change, and it is bound to a number
pub record MayTurn (p : Picture) : Type 0 where
  pub heap : IsHeap p.words
  pub there : is_inside p.words p.place ≡ true
  pub free : (x : ℕ) → inside_at p.words p.place ≡ Some x → is_final_word x ≡ false
  pub number : (n : ℤ) × (decoded p.bound ≡ Some (Small n))

-- a load gives this word at the address: that of the heap, or the number
abbrev pub IsGiven : Picture → ℕ → ℕ → Type 0
IsGiven p a x = (inside_at p.words a ≡ Some x) ⊎ ((a ≡ p.place) × (x ≡ p.bound))

-- the final words: at the place it is the number
abbrev pub shown_in : Picture → ℕ → Option ℕ
shown_in p a = if nat_eq a p.place then Some p.bound else final_at p.words a
