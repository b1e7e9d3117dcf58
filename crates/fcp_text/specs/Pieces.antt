-- The piece at the front of a text: white space or a comment, or a token.
use Rattle.std.specs.Prelude.{◌≤◌, ℕ, Bool, false, ◌||◌, if◌then◌else◌, ◌==◌, drop, slice_index, ℤ, Option, Some, None}
use Rattle.std.specs.Char.{is_ascii_lowercase, is_ascii_uppercase}
use Rattle.fcp_model.specs.declared.fault.Code.TheVariants.{NumberRange, OpenQuote, BadCharacter}
use Rattle.fcp_text.specs.declared.bytes.Class.TheVariants as class
use Rattle.fcp_text.specs.declared.pieces.Kind.TheVariants as kind
use Rattle.fcp_text.specs.declared.pieces.Piece.{Piece}
use Rattle.fcp_text.specs.declared.pieces.Piece.TheVariants.{Gap, Token, Bad}
use Rattle.fcp_text.specs.Bytes.{Text, is_blank, leading}
use Rattle.fcp_text.specs.Marks.{mark}
use Rattle.fcp_text.specs.Numbers.{begins_number, number}
use Rattle.fcp_text.specs.QuotedStrings.{closing}

-- a quoted string of so many bytes, or a quote that is not closed
abbrev pub quoted_piece : Option ℕ → Piece
quoted_piece None = Bad OpenQuote
quoted_piece (Some len) = Token kind.Quoted len

-- a number with its length, or one outside 64 bits
abbrev pub number_piece : Option (ℤ × ℕ) → Piece
number_piece None = Bad NumberRange
number_piece (Some n) = Token (kind.Int n.0) n.1

-- a mark with its length, or a character that begins no token
abbrev pub mark_piece : Option (ℕ × ℕ) → Piece
mark_piece None = Bad BadCharacter
mark_piece (Some m) = Token (kind.Mark m.0) m.1

-- the quoted string at the front of a text that begins with a quote
unfoldable pub quoted : Text → Piece
quoted z = quoted_piece (closing (slice_index z 0) false 1 (drop 1 z))

-- the piece at the front of a text that is not empty; `may_sign` says that a sign may stand there
unfoldable pub scan : Bool → Text → Piece
scan may_sign z =
    let b = slice_index z 0 in
    if is_blank b then Gap 1
    else (if b == 37 then Gap (leading class.Line z)
    else (if is_ascii_lowercase b then Token kind.Name (leading class.Word z)
    else (if is_ascii_uppercase b || b == 95 then Token kind.Variable (leading class.Word z)
    else (if b == 39 || b == 34 then quoted z
    else (if begins_number may_sign z then number_piece (number z)
    else mark_piece (mark z))))))

-- a piece has one byte or more, and at most this many
abbrev pub IsWithin : Piece → ℕ → Type 0
IsWithin (Gap n) len = (1 ≤ n) × (n ≤ len)
IsWithin (Token k n) len = (1 ≤ n) × (n ≤ len)
IsWithin (Bad c) len = Unit {0}
