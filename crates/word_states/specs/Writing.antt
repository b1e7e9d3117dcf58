-- Writes over the words of a heap.
use Rattle.std.specs.Prelude.{◌≡◌, ◌⊎◌, ℕ, ◌+◌, ◌*◌, ◌<◌, ◌≤◌, true, false, List, [], ◌∷◌, length, slice_set, Some}
use Rattle.heap_words.specs.Cells.{is_final_word}
use Rattle.heap_words.specs.Heaps.{is_inside, inside_at, top_at}
use Rattle.heap_words.specs.Trails.{WordList}
use Rattle.word_states.specs.Words.{Among, AreApart}

-- the words with each write in turn
abbrev pub applied : List ℕ → WordList → List ℕ
applied ws [] = ws
applied ws (x ∷ xs) = applied (slice_set ws x.0 x.1) xs

-- Writes that may follow over these words.
pub record MayWrite (ws : List ℕ) (xs : WordList) : Type 0 where
  -- each address once, and of the heap
  pub distinct : AreApart xs
  pub ranges : (a x : ℕ) → Among xs (a, x) → a < length ws
  -- no final word is overwritten
  pub soft : (a x y : ℕ) → Among xs (a, x) → inside_at ws a ≡ Some y → is_final_word y ≡ false
  -- what is written is inside afterwards
  pub below : (a x : ℕ) → Among xs (a, x) → is_inside (applied ws xs) a ≡ true
  -- no top falls or passes its page's end
  pub rises : (p : ℕ) → top_at ws (1024 * p) ≤ top_at (applied ws xs) (1024 * p)
  pub within : (p : ℕ) → 1024 * p < length ws → top_at (applied ws xs) (1024 * p) ≤ 1024 * p + 1024
  -- what comes to be inside is written
  pub fills : (a : ℕ) → is_inside (applied ws xs) a ≡ true → (is_inside ws a ≡ true) ⊎ ((x : ℕ) × Among xs (a, x))
