-- Where the words that a try writes lead: by what was read, and by its own pieces, whatever the store's other words are.
use Rattle.std.specs.Prelude.{◌≡◌, ◌⊎◌, ℕ, ◌+◌, ◌<◌, ◌≤◌, true, List, Some}
use Rattle.heap_words.specs.Cells.{decoded, is_final_word}
use Rattle.heap_words.specs.Refers.{Refers, HasPart, teller, RefersBy}
use Rattle.heap_words.specs.WordsLaws.{tells_all}
use Rattle.heap_words.specs.Trails.{WordList, word_at}
use Rattle.heap_words.specs.declared.cell.Cell.{Cell}
use Rattle.heap_words.specs.declared.cell.Cell.TheVariants.{Unbound, Status, Raw}
use Rattle.heap_words.specs.declared.cell.Stand.{Stand}
use Rattle.heap_words.specs.declared.cell.Stand.TheVariants.{Waiting}
use Rattle.word_states.specs.Words.{Among}
use Rattle.word_states.specs.Pieces.{rows, StartsAt, IsPiece, RefersOwn}

-- An address is known by what was read: a word was read there, or words that were read refer to it together.
pub data IsKnown (reads : WordList) (b : ℕ) : Type 0 where
  read_at : (x : ℕ) → Among reads (b, x) → IsKnown reads b
  reached : (a x : ℕ) (c : Cell) → Among reads (a, x) → decoded x ≡ Some c → Refers c b → IsKnown reads b
  reached_by : (a x t y n : ℕ) (c : Cell) → Among reads (a, x) → decoded x ≡ Some c → teller c ≡ Some t → Among reads (t, y)
      → decoded y ≡ Some (Raw n) → RefersBy n c b → IsKnown reads b
  of_process : (p x : ℕ) (d : Stand) → Among reads (p, x) → decoded x ≡ Some (Status d) → p < b → b ≤ p + 3 → IsKnown reads b

-- A word leads to the store's words: it was read, or it refers by itself alone, to known addresses, and as to parts to none.
pub data IsLed (reads : WordList) (x : ℕ) : Type 0 where
  was_read : (a : ℕ) → Among reads (a, x) → IsLed reads x
  of_known : ((c : Cell) → decoded x ≡ Some c → tells_all c × ((b : ℕ) → HasPart c b → ⊥) × ((b : ℕ) → Refers c b → IsKnown reads b))
      → IsLed reads x

-- a word leads to the store's words, or to a piece
abbrev pub LeadsOn : WordList → List (List ℕ) → ℕ → Type 0
LeadsOn reads ps x = IsLed reads x ⊎ ((c : Cell) × (decoded x ≡ Some c) × RefersOwn ps c)

-- The bindings and the pieces of a commit lead on, by what was read.
pub record AreLed (reads binds : WordList) (ps : List (List ℕ)) : Type 0 where
  -- each piece has one of the forms
  pub each : (a : ℕ) (p : List ℕ) → StartsAt 4000000000 ps a p → IsPiece p
  -- each word to which a place is bound leads on, and is a value
  pub bound : (a x : ℕ) → word_at binds a ≡ Some x → LeadsOn reads ps x
  pub value : (a x : ℕ) → word_at binds a ≡ Some x → (is_final_word x ≡ true) × ((n : ℕ) → decoded x ≡ Some (Raw n) → ⊥)
  -- and so does each final word of the pieces
  pub own : (a x : ℕ) → word_at (rows 4000000000 ps) a ≡ Some x → is_final_word x ≡ true → LeadsOn reads ps x

-- a status was read there
abbrev pub ReadsStatus : WordList → ℕ → Type 0
ReadsStatus reads p = (x : ℕ) × (d : Stand) × Among reads (p, x) × (decoded x ≡ Some (Status d))

-- the status of a process that waits was read there
abbrev pub ReadsWaiting : WordList → ℕ → Type 0
ReadsWaiting reads p = (x n : ℕ) × Among reads (p, x) × (decoded x ≡ Some (Status (Waiting n)))

-- an unbound place was read there, whose waiting list begins at e
abbrev pub ReadsPlace : WordList → ℕ → ℕ → Type 0
ReadsPlace reads a e = (x : ℕ) × Among reads (a, x) × (decoded x ≡ Some (Unbound e))
