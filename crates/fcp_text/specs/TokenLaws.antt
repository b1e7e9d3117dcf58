-- What is true of the tokens of every text.
use Rattle.std.specs.Prelude.{◌≡◌, ℕ, ◌+◌, ◌≤◌, List, [], ◌∷◌, length, Ok, All}
use Rattle.std.specs.Str.{IsAscii, IsUtf8}
use Rattle.fcp_text.specs.declared.pieces.Kind.{Kind}
use Rattle.fcp_text.specs.declared.pieces.Kind.TheVariants as kind
use Rattle.fcp_text.specs.declared.lexer.Token.{Token}
use Rattle.fcp_text.specs.Bytes.{Text}
use Rattle.fcp_text.specs.QuotedStrings.{unquoted}
use Rattle.fcp_text.specs.Tokens.{text_of, tokens_of}

-- Between two places the tokens stand in order: each has a byte or more, and begins where the one before it ends or later.
abbrev pub StandInOrder : ℕ → ℕ → List Token → Type 0
StandInOrder from end [] = from ≤ end
StandInOrder from end (t ∷ ts) = (from ≤ t.at) × (1 ≤ t.len) × StandInOrder (t.at + t.len) end ts

-- the tokens of a text stand in order within it
abbrev pub TokensStandInOrder : Type 0
TokensStandInOrder = (z : Text) (ts : List Token) → tokens_of z ≡ Ok ts → StandInOrder 0 (length z) ts

-- a text has at most as many tokens as bytes
abbrev pub TokensAreFew : Type 0
TokensAreFew = (z : Text) (ts : List Token) → tokens_of z ≡ Ok ts → length ts ≤ length z

-- the bytes of a name or a variable are ASCII, and the string of a quoted token is UTF-8
abbrev pub IsSpelledWell : Kind → Text → Type 0
IsSpelledWell kind.Name text = IsAscii text
IsSpelledWell kind.Variable text = IsAscii text
IsSpelledWell kind.Quoted text = IsUtf8 (unquoted text)
IsSpelledWell (kind.Int n) text = Unit {0}
IsSpelledWell (kind.Mark m) text = Unit {0}

-- the names and variables of a text are ASCII, and its quoted strings UTF-8
abbrev pub TokensAreSpelledWell : Type 0
TokensAreSpelledWell = (z : Text) (ts : List Token) → tokens_of z ≡ Ok ts → All (λ t. IsSpelledWell t.kind (text_of z t)) ts
