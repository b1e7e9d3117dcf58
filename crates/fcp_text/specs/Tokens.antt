-- The tokens of a text, each with its place and its length in bytes.
use Rattle.std.specs.Prelude.{◌≡◌, ℕ, zero, suc, ◌+◌, ◌-◌, Bool, true, false, not, ◌||◌, ◌==◌, List, [], ◌∷◌, ◌++◌, take, drop, Result, Ok, Err, codes, if◌then◌else◌}
use Rattle.std.specs.Str.{bytes_eq, is_utf8}
use Rattle.std.specs.Str.Lossy.{utf8_valid_len}
use Rattle.fcp_model.specs.declared.fault.Code.TheVariants.{NotUtf8}
use Rattle.fcp_model.specs.declared.fault.Fault.{Fault}
use Rattle.fcp_model.specs.declared.fault.Refused.{Refused}
use Rattle.fcp_model.specs.declared.fault.Refused.TheVariants as refused
use Rattle.fcp_text.specs.declared.pieces.Kind.{Kind}
use Rattle.fcp_text.specs.declared.pieces.Kind.TheVariants as kind
use Rattle.fcp_text.specs.declared.pieces.Piece.{Piece}
use Rattle.fcp_text.specs.declared.pieces.Piece.TheVariants as piece
use Rattle.fcp_text.specs.declared.lexer.Token.{Token}
use Rattle.fcp_text.specs.Bytes.{Text}
use Rattle.fcp_text.specs.Pieces.{scan}
use Rattle.fcp_text.specs.Signs as signs

-- the bytes of a token of the text
abbrev pub text_of : Text → Token → Text
text_of z t = take t.len (drop t.at z)

-- A sign may stand behind the name `mod` and behind a mark other than `)`, `]`, `}` and `?`.
abbrev pub sign_after : Text → Kind → Bool
sign_after text kind.Name = bytes_eq text (codes "mod")
sign_after text kind.Quoted = false
sign_after text kind.Variable = false
sign_after text (kind.Int n) = false
sign_after text (kind.Mark m) = not (m == signs.round_close || m == signs.square_close || m == signs.curly_close || m == signs.question)

-- all tokens, or the first fault
abbrev pub Outcome : Type 0
Outcome = Result (List Token) Fault

-- the outcome with some tokens before its own
abbrev pub front : List Token → Outcome → Outcome
front ts (Ok us) = Ok (ts ++ us)
front ts (Err f) = Err f

-- a piece at `at`, then what `go` says of the bytes behind its first, of which so many are the piece's
abbrev pub piece_then : ℕ → Text → Bool → Piece → (Bool → ℕ → Outcome) → Outcome
piece_then at z may_sign (piece.Gap n) go = go may_sign (n - 1)
piece_then at z may_sign (piece.Token k n) go =
    front (record { kind = k; at = at; len = n } ∷ []) (go (sign_after (take n z) k) (n - 1))
piece_then at z may_sign (piece.Bad c) go = Err (record { code = c; at = at })

-- The tokens of a text that begins at `at`. Its first n bytes belong to a piece that is taken already.
abbrev pub lex_from : Bool → ℕ → ℕ → Text → Outcome
lex_from may_sign at n [] = Ok []
lex_from may_sign at (suc n) (b ∷ z) = lex_from may_sign (at + 1) n z
lex_from may_sign at zero (b ∷ z) =
    piece_then at (b ∷ z) may_sign (scan may_sign (b ∷ z)) (λ s n. lex_from s (at + 1) n z)

-- the tokens of a text that is UTF-8; its first may have a sign
unfoldable pub tokens_in : Text → Outcome
tokens_in z = lex_from true 0 0 z

-- the tokens of a text; what is not UTF-8 has its fault behind its longest front that is
abbrev pub tokens_of : Text → Outcome
tokens_of z = if is_utf8 z then tokens_in z else Err (record { code = NotUtf8; at = utf8_valid_len z })

-- a result is the outcome, but that memory may have run out
abbrev pub Lexes : Outcome → Result (List Token) Refused → Type 0
Lexes o (Ok ts) = o ≡ Ok ts
Lexes o (Err (refused.Fault f)) = o ≡ Err f
Lexes o (Err (refused.NoMemory m)) = Unit {0}
