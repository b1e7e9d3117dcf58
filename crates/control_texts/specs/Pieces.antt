-- The words of a control text and its `;`, each with its place.
use Rattle.std.specs.Prelude.{ℕ, ◌+◌, ◌==◌, Bool, false, not, ◌||◌, List, [], ◌∷◌, if◌then◌else◌}
use Rattle.fcp_model.specs.Spelling.{Bytes}

-- a word or a `;`, with the place of its first byte
pub record Piece : Type 0 where
  pub at : ℕ
  pub bytes : Bytes

-- neither a space nor a `;`, so a byte of a word
abbrev pub is_of_word : ℕ → Bool
is_of_word b = not (b == 32 || b == 59)

-- a word goes on here
abbrev pub goes_on : Bytes → Bool
goes_on [] = false
goes_on (b ∷ bs) = is_of_word b

-- the first piece is a word of which this byte is the first one
abbrev pub lengthened : ℕ → ℕ → List Piece → List Piece
lengthened at b [] = []
lengthened at b (p ∷ ps) = record { at = at; bytes = b ∷ p.bytes } ∷ ps

-- the pieces of a text of which `at` bytes stand in front: each `;` is one, and words are as long as can be
abbrev pub pieces_from : ℕ → Bytes → List Piece
pieces_from at [] = []
pieces_from at (b ∷ bs) =
    if b == 32 then pieces_from (at + 1) bs
    else (if b == 59 then record { at = at; bytes = b ∷ [] } ∷ pieces_from (at + 1) bs
    else (if goes_on bs then lengthened at b (pieces_from (at + 1) bs)
    else record { at = at; bytes = b ∷ [] } ∷ pieces_from (at + 1) bs))

-- the pieces of a text
abbrev pub pieces : Bytes → List Piece
pieces = pieces_from 0
