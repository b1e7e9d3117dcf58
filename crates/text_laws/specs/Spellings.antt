-- A text piece by piece, as its writer means it, and the tokens that a reader has to find in it.
use Rattle.std.specs.Prelude.{ℕ, ◌+◌, ◌==◌, List, [], ◌∷◌, ◌++◌, length, Option, Some, None, find, if◌then◌else◌, codes, decimal, ℤ}
use Rattle.std.specs.Fmt.{signed_decimal}
use Rattle.fcp_model.specs.Spelling.{is_name, string_text}
use Rattle.fcp_text.specs.declared.pieces.Kind.{Kind}
use Rattle.fcp_text.specs.declared.pieces.Kind.TheVariants as kind
use Rattle.fcp_text.specs.declared.lexer.Token.{Token}
use Rattle.fcp_text.specs.Bytes.{Text}
use Rattle.fcp_text.specs.Marks.{marks}

-- a string, a number, a variable by its number, a mark by its number in the table of marks, a space, a line feed
pub data Spelling : Type 0 where
  string : Text → Spelling
  number : ℤ → Spelling
  variable : ℕ → Spelling
  mark : ℕ → Spelling
  space : Spelling
  line_feed : Spelling

-- the bytes of the row of a table of marks
abbrev pub row_text : Option (Text × ℕ) → Text
row_text None = []
row_text (Some m) = m.0

-- the bytes of a mark
abbrev pub mark_text : ℕ → Text
mark_text n = row_text (find (λ m. m.1 == n) marks)

-- the bytes of a piece
abbrev pub spelling_text : Spelling → Text
spelling_text (string bs) = string_text bs
spelling_text (number i) = signed_decimal i
spelling_text (variable k) = 86 ∷ decimal k
spelling_text (mark n) = mark_text n
spelling_text space = codes " "
spelling_text line_feed = codes "\n"

-- the text of pieces, one behind the other
abbrev pub spellings_text : List Spelling → Text
spellings_text [] = []
spellings_text (p ∷ ps) = spelling_text p ++ spellings_text ps

-- the kind of token that a piece is, if it is one; a string is a name where it has a name's form
abbrev pub spelling_kind : Spelling → Option Kind
spelling_kind (string bs) = Some (if is_name bs then kind.Name else kind.Quoted)
spelling_kind (number i) = Some (kind.Int i)
spelling_kind (variable k) = Some kind.Variable
spelling_kind (mark n) = Some (kind.Mark n)
spelling_kind space = None
spelling_kind line_feed = None

-- tokens with the one of a kind before them
abbrev pub with_token : Option Kind → ℕ → ℕ → List Token → List Token
with_token None at len ts = ts
with_token (Some k) at len ts = record { kind = k; at = at; len = len } ∷ ts

-- the tokens of a text that begins at `at`
abbrev pub tokens_at : ℕ → List Spelling → List Token
tokens_at at [] = []
tokens_at at (p ∷ ps) =
    let len = length (spelling_text p) in
    with_token (spelling_kind p) at len (tokens_at (at + len) ps)
