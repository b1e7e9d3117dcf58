-- Bindings and pieces that are well formed over some words of the store.
use Rattle.std.specs.Prelude.{◌≡◌, ◌⊎◌, ℕ, ◌<◌, true, List, Some}
use Rattle.heap_words.specs.Cells.{decoded, is_final_word}
use Rattle.heap_words.specs.Refers.{Refers, teller, RefersBy}
use Rattle.heap_words.specs.Trails.{WordList, word_at}
use Rattle.heap_words.specs.declared.cell.Cell.{Cell}
use Rattle.heap_words.specs.declared.cell.Cell.TheVariants.{Raw}
use Rattle.word_states.specs.Words.{Words}
use Rattle.word_states.specs.Pieces.{rows, StartsAt, IsPiece, RefersOwn}

-- a word of the store refers to words of the store alone
pub record IsOld (w : Words) (x : ℕ) : Type 0 where
  -- by itself
  pub refers : (b : ℕ) (c : Cell) → decoded x ≡ Some c → Refers c b → b < 4000000000
  -- and by a number that stands in the words
  pub refers_by : (t y n b : ℕ) (c : Cell) → decoded x ≡ Some c → teller c ≡ Some t → w t ≡ Some y → decoded y ≡ Some (Raw n)
      → RefersBy n c b → b < 4000000000

-- a word refers to words of the store alone, or to a piece
abbrev pub IsRooted : Words → List (List ℕ) → ℕ → Type 0
IsRooted w ps x = IsOld w x ⊎ ((c : Cell) × (decoded x ≡ Some c) × RefersOwn ps c)

-- The pieces have their forms, and bindings and final words of pieces are rooted.
pub record AreFormed (w : Words) (binds : WordList) (ps : List (List ℕ)) : Type 0 where
  -- each piece has one of the forms
  pub each : (a : ℕ) (p : List ℕ) → StartsAt 4000000000 ps a p → IsPiece p
  -- each final word of the pieces is rooted
  pub rooted : (a x : ℕ) → word_at (rows 4000000000 ps) a ≡ Some x → is_final_word x ≡ true → IsRooted w ps x
  -- and so is each word to which a place is bound
  pub bound_rooted : (a x : ℕ) → word_at binds a ≡ Some x → IsRooted w ps x
