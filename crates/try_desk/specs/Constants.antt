-- How a slot takes a constant.
use Rattle.std.specs.Prelude.{◌≡◌, ℕ, ◌+◌, ◌*◌, ◌<◌, ◌≤◌, ℤ, pos, negsuc, ◌≤ℤ◌, false, [], ◌∷◌, Option, Some}
use Rattle.fcp_model.specs.Places.{Variable}
use Rattle.fcp_model.specs.Terms.{Term, number}
use Rattle.heap_words.specs.Cells.{decoded, encoded}
use Rattle.heap_words.specs.declared.cell.Cell.{Cell}
use Rattle.heap_words.specs.declared.cell.Cell.TheVariants as cell
use Rattle.word_states.specs.Words.{Words}
use Rattle.word_states.specs.Denoting.{Addresses, Denotes}
use Rattle.word_states.specs.Numbers.{bits, low_bits, IsLong}
use Rattle.trial_laws.specs.AtHand.{end_of}
use Rattle.trial_laws.specs.Laws.{filled, holding}
use Rattle.trial_laws.specs.NewPieces.{next_piece, with_piece}
use Rattle.try_desk.specs.Desks.{Becomes}
use Rattle.try_desk.specs.declared.desk.Desk.{Desk}

-- a number of 56 bits with a sign
abbrev pub IsLow : ℤ → Type 0
IsLow z = (negsuc 0x7fffffffffffff ≤ℤ z) × (z ≤ℤ pos 0x7fffffffffffff)

-- the word of a short number or of a string, or else of the empty list
abbrev pub plain_word : ℕ → Option Cell → ℕ
plain_word x (Some (cell.Small z)) = x
plain_word x (Some (cell.Str s)) = x
plain_word x _ = 6

-- A slot has taken a constant: by a word that denotes it wherever it stands; or, if it is a long number, by a new piece, which had
-- room, with the word of its lower 56 bits.
pub data TakesConstant (old new : Desk) (slot : ℕ) (c : Term Variable) : Type 0 where
  short : (x : ℕ) → ((u : Words) (us : Addresses) → Denotes u us x c) → Becomes old new (λ r. filled r slot x)
      → TakesConstant old new slot c
  long : (z low : ℤ) (x high : ℕ) → c ≡ number z → decoded x ≡ Some (cell.Small low)
      → bits z ≡ high * 0x100000000000000 + low_bits low → IsLong z → high < 256 → end_of 4000000000 old.pieces + 1 ≤ 4294967296
      → Becomes old new (λ r. holding (with_piece r (x ∷ [])) slot (encoded (cell.Wide (next_piece r) high)) false)
      → TakesConstant old new slot c
