-- Words in use refer to words in use alone, and parts are final.
use Rattle.std.specs.Prelude.{◌≡◌, ℕ, ◌+◌, ◌<◌, ◌≤◌, true, Some}
use Rattle.heap_words.specs.Cells.{decoded, is_final_word}
use Rattle.heap_words.specs.Refers.{Refers, HasPart, teller, RefersBy, HasPartBy}
use Rattle.heap_words.specs.declared.cell.Cell.{Cell}
use Rattle.heap_words.specs.declared.cell.Cell.TheVariants.{Status, Raw}
use Rattle.heap_words.specs.declared.cell.Stand.{Stand}
use Rattle.word_states.specs.Words.{Words, Has}

-- A word refers to addresses in use alone: by itself, and by each number that stands or stood where its cell looks for one; and
-- what stands or stood in its parts is final. `ever a x` says that the word x stands or stood at a.
pub record LeadsIn (ever : ℕ → ℕ → Type 0) (w : Words) (x : ℕ) : Type 0 where
  -- addresses
  pub refers : (b : ℕ) (c : Cell) → decoded x ≡ Some c → Refers c b → Has w b
  pub refers_by : (t y n b : ℕ) (c : Cell) → decoded x ≡ Some c → teller c ≡ Some t → ever t y → decoded y ≡ Some (Raw n)
      → RefersBy n c b → Has w b
  -- parts
  pub part_final : (b y : ℕ) (c : Cell) → decoded x ≡ Some c → HasPart c b → ever b y → is_final_word y ≡ true
  pub part_final_by : (t z n b y : ℕ) (c : Cell) → decoded x ≡ Some c → teller c ≡ Some t → ever t z → decoded z ≡ Some (Raw n)
      → HasPartBy n c b → ever b y → is_final_word y ≡ true

-- The words that stand or stood refer together to addresses in use alone, and so do processes to their further words.
pub record AreClosed (ever : ℕ → ℕ → Type 0) (w : Words) : Type 0 where
  -- what stands is among what stands or stood, at addresses in use
  pub now : (a x : ℕ) → w a ≡ Some x → ever a x
  pub within : (a x : ℕ) → ever a x → Has w a
  -- words lead to addresses in use
  pub leads : (a x : ℕ) → ever a x → LeadsIn ever w x
  -- after a status three words are in use, and its arguments
  pub process : (p x b : ℕ) (d : Stand) → ever p x → decoded x ≡ Some (Status d) → p < b → b ≤ p + 3 → Has w b
  pub arguments : (p x y n b : ℕ) (d : Stand) → ever p x → decoded x ≡ Some (Status d) → ever (p + 3) y → decoded y ≡ Some (Raw n)
      → p + 3 < b → b ≤ p + 3 + n → Has w b

-- the words that stand
abbrev pub Stands : Words → ℕ → ℕ → Type 0
Stands w a x = w a ≡ Some x
