-- Why a commit closes no cycle among final words.
use Rattle.std.specs.Prelude.{◌≡◌, ◌⊎◌, ℕ, ◌<◌, Bool, true, false, List, Some}
use Rattle.heap_words.specs.Cells.{decoded, is_final_word}
use Rattle.heap_words.specs.Refers.{Reaches, teller, ReachesBy}
use Rattle.heap_words.specs.Heaps.{only_final}
use Rattle.heap_words.specs.Trails.{WordList, word_at}
use Rattle.heap_words.specs.declared.cell.Cell.{Cell}
use Rattle.heap_words.specs.declared.cell.Cell.TheVariants.{Tuple, Raw}
use Rattle.word_states.specs.Words.{Words, Has, over}
use Rattle.word_states.specs.Pieces.{rows, RefersOwn, with_own}

-- the final words
abbrev pub finals : Words → Words
finals w a = only_final (w a)

-- a walk goes on from a cell to b, by itself or by a number that stands in the words
abbrev pub Leads : Words → Cell → ℕ → Type 0
Leads w c b = Reaches c b ⊎ ((t y n : ℕ) × (teller c ≡ Some t) × (w t ≡ Some y) × (decoded y ≡ Some (Raw n)) × ReachesBy n c b)

-- and from the final word at a
abbrev pub Edge : Words → ℕ → ℕ → Type 0
Edge w a b = (x : ℕ) × (c : Cell) × (w a ≡ Some x) × (is_final_word x ≡ true) × (decoded x ≡ Some c) × Leads w c b

-- The walked words: they were seen, all that is reached from there was walked too, and ranks fall.
pub record IsWalked (seen : Words) (walked : ℕ → Bool) (rank : ℕ → ℕ) (most : ℕ) : Type 0 where
  -- a word was seen at each walked address
  pub met : (a : ℕ) → walked a ≡ true → Has seen a
  -- a walk goes on to walked addresses alone, of lower rank
  pub falls : (a b : ℕ) → walked a ≡ true → Edge seen a b → (walked b ≡ true) × (rank b < rank a)
  -- the number of parts of each walked tuple was seen
  pub counts : (a x t : ℕ) → walked a ≡ true → seen a ≡ Some x → decoded x ≡ Some (Tuple t) → Has seen t
  -- no rank is above
  pub low : (a : ℕ) → walked a ≡ true → rank a < most

-- words under a try's bindings, with its pieces
abbrev pub trial_words : Words → WordList → List (List ℕ) → Words
trial_words w binds ps = with_own ps (over binds w)

-- Each bound place was walked, and all that is reached from there. The pieces beside refer to one another downward.
pub record IsTame (reads binds : WordList) (ps : List (List ℕ)) : Type 0 where
  -- what was walked of the words that the try saw
  pub walked : ℕ → Bool
  pub rank : ℕ → ℕ
  pub most : ℕ
  pub walk : IsWalked (trial_words (word_at reads) binds ps) walked rank most
  -- the bound places are among it
  pub starts : (a x : ℕ) → word_at binds a ≡ Some x → walked a ≡ true
  -- a rank of the other own words, which falls from one to the next
  pub after : ℕ → ℕ
  pub outer : (a b x y : ℕ) (c : Cell) → walked a ≡ false → walked b ≡ false → word_at (rows 4000000000 ps) a ≡ Some x
      → is_final_word x ≡ true → decoded x ≡ Some c → RefersOwn ps c → word_at (rows 4000000000 ps) b ≡ Some y
      → Leads (trial_words (word_at reads) binds ps) c b → after b < after a
