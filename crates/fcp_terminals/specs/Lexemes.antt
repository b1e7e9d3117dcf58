-- The tokens of a text with their bytes, and their places by number.
use Rattle.std.specs.Prelude.{ℕ, List, length, map, slice_get, Some, None}
use Rattle.fcp_text.specs.declared.pieces.Kind.{Kind}
use Rattle.fcp_text.specs.declared.lexer.Token.{Token}
use Rattle.fcp_text.specs.Bytes.{Text}
use Rattle.fcp_text.specs.Tokens.{text_of}

-- what a token is, the place of its first byte, and its bytes
pub record Lexeme : Type 0 where
  pub kind : Kind
  pub at : ℕ
  pub text : Text

-- a token of the text, with its bytes
abbrev pub lexeme : Text → Token → Lexeme
lexeme z t = record { kind = t.kind; at = t.at; text = text_of z t }

-- all tokens with their bytes
abbrev pub lexemes : Text → List Token → List Lexeme
lexemes z = map (lexeme z)

-- the place of the n-th token, from 0, or the text's length where there are no more than n
abbrev pub place_at : Text → List Token → ℕ → ℕ
place_at z ts n = elim (slice_get ts n) [ Some t ↦ t.at | None ↦ length z ]
