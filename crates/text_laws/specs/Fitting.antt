-- Pieces of a text of which none goes on the one before it.
use Rattle.std.specs.Prelude.{◌≡◌, ℕ, ◌<◌, ◌^◌, Bool, true, false, not, ◌||◌, ◌==◌, List, [], ◌∷◌, if◌then◌else◌, ℤ, pos, negsuc}
use Rattle.std.specs.Bool.{OnTrue}
use Rattle.std.specs.List.{list_all, list_any}
use Rattle.std.specs.Str.{IsUtf8}
use Rattle.fcp_model.specs.Spelling.{is_name, string_text}
use Rattle.fcp_text.specs.declared.pieces.Kind.TheVariants as kind
use Rattle.fcp_text.specs.Bytes.{Text}
use Rattle.fcp_text.specs.Marks.{marks}
use Rattle.fcp_text.specs.Tokens.{sign_after}
use Rattle.text_laws.specs.Spellings.{Spelling, string, number, variable, mark, space, line_feed, mark_text}
use Rattle.fcp_text.specs.Signs as signs

-- no byte is a line feed
abbrev pub is_line : Text → Bool
is_line z = list_all (λ b. not (b == 10)) z

-- a string that is UTF-8, on one line
abbrev pub IsOneLine : Text → Type 0
IsOneLine z = (is_line z ≡ true) × IsUtf8 z

-- the table has a mark of the number
abbrev pub is_mark : ℕ → Bool
is_mark n = list_any (λ m. m.1 == n) marks

-- behind a string, a number or a variable: a mark, a space, a line feed or the end
abbrev pub EndsToken : List Spelling → Type 0
EndsToken [] = Unit {0}
EndsToken (string bs ∷ ps) = ⊥
EndsToken (number i ∷ ps) = ⊥
EndsToken (variable k ∷ ps) = ⊥
EndsToken (mark n ∷ ps) = Unit {0}
EndsToken (space ∷ ps) = Unit {0}
EndsToken (line_feed ∷ ps) = Unit {0}

-- behind a mark that a longer one or a number begins with: no mark and no number
abbrev pub EndsSign : List Spelling → Type 0
EndsSign [] = Unit {0}
EndsSign (string bs ∷ ps) = Unit {0}
EndsSign (number i ∷ ps) = ⊥
EndsSign (variable k ∷ ps) = Unit {0}
EndsSign (mark n ∷ ps) = ⊥
EndsSign (space ∷ ps) = Unit {0}
EndsSign (line_feed ∷ ps) = Unit {0}

-- the mark is such a one: `=`, `>`, `-` or `:`
abbrev pub begins_more : ℕ → Bool
begins_more n = n == signs.equals || n == signs.greater || n == signs.minus || n == signs.colon

-- a number of 64 bits; a negative one stands where a sign may stand
abbrev pub StandsThere : Bool → ℤ → Type 0
StandsThere may_sign (pos n) = n < 9223372036854775808
StandsThere may_sign (negsuc n) = (may_sign ≡ true) × (n < 9223372036854775808)

-- whether a sign may stand behind a string: behind `mod` alone
abbrev pub sign_behind : Text → Bool
sign_behind bs = sign_after (string_text bs) (if is_name bs then kind.Name else kind.Quoted)

-- each piece ends where the next one begins; `may_sign` says that a sign may stand at the first
abbrev pub Fits : Bool → List Spelling → Type 0
Fits may_sign [] = Unit {0}
Fits may_sign (string bs ∷ ps) = IsOneLine bs × EndsToken ps × Fits (sign_behind bs) ps
Fits may_sign (number i ∷ ps) = StandsThere may_sign i × EndsToken ps × Fits false ps
Fits may_sign (variable k ∷ ps) = (k < 2 ^ 64) × EndsToken ps × Fits false ps
Fits may_sign (mark n ∷ ps) = (is_mark n ≡ true) × OnTrue (begins_more n) (EndsSign ps) × Fits (sign_after (mark_text n) (kind.Mark n)) ps
Fits may_sign (space ∷ ps) = Fits may_sign ps
Fits may_sign (line_feed ∷ ps) = Fits may_sign ps
