-- What the tokens of a text say.
use Rattle.std.specs.Prelude.{List, [], ◌∷◌, map, drop}
use Rattle.fcp_text.specs.declared.pieces.Kind.{Kind}
use Rattle.fcp_text.specs.declared.pieces.Kind.TheVariants as kind
use Rattle.fcp_text.specs.declared.lexer.Token.{Token}
use Rattle.fcp_text.specs.Bytes.{Text}
use Rattle.fcp_text.specs.Numbers.{digits_value}
use Rattle.fcp_text.specs.QuotedStrings.{unquoted}
use Rattle.fcp_text.specs.Tokens.{text_of}
use Rattle.text_laws.specs.Spellings.{Spelling, string, number, variable, mark, space, line_feed}

-- the piece that a kind of token and its bytes stand for; the number of a variable stands behind its first byte
abbrev pub meant : Kind → Text → Spelling
meant kind.Name text = string text
meant kind.Quoted text = string (unquoted text)
meant kind.Variable text = variable (digits_value (drop 1 text))
meant (kind.Int i) text = number i
meant (kind.Mark n) text = mark n

-- the pieces that tokens of a text stand for
abbrev pub read_in : Text → List Token → List Spelling
read_in z ts = map (λ (t : Token). meant t.kind (text_of z t)) ts

-- the pieces that are tokens
abbrev pub without_gaps : List Spelling → List Spelling
without_gaps [] = []
without_gaps (string bs ∷ ps) = string bs ∷ without_gaps ps
without_gaps (number i ∷ ps) = number i ∷ without_gaps ps
without_gaps (variable k ∷ ps) = variable k ∷ without_gaps ps
without_gaps (mark n ∷ ps) = mark n ∷ without_gaps ps
without_gaps (space ∷ ps) = without_gaps ps
without_gaps (line_feed ∷ ps) = without_gaps ps
