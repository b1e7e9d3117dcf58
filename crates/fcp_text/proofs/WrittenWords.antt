-- What is written is cut into the same tokens again: names, variables and gaps.
use Rattle.std.proofs.Common.{◌≡◌, ℕ, suc, ◌+◌, ◌≤◌, ◌<◌, ◌^◌, Bool, true, false, [], ◌∷◌, ◌++◌, drop, length, length-append, refl, ap, ◌∙◌, arith, cond}
use Rattle.std.specs.Prelude.{slice_index, ◌==◌, ◌||◌, ◌&&◌, decimal}
use Rattle.std.specs.Char.{is_ascii_lowercase, is_ascii_uppercase, is_ascii_digit}
use Rattle.std.specs.List.{list_all}
use Rattle.std.specs.Str.{all_ascii_digits}
use Rattle.std.proofs.lemmas.List.{take_at, drop_at}
use Rattle.std.proofs.lemmas.Bool.Decides.{nat_tests}
use Rattle.std.proofs.lemmas.Fmt.{digits_decimal}
use Rattle.fcp_model.specs.Spelling.{is_name, is_word_byte}
use Rattle.fcp_text.specs.declared.bytes.Class.TheVariants as class
use Rattle.fcp_text.specs.declared.pieces.Kind.{Kind}
use Rattle.fcp_text.specs.declared.pieces.Kind.TheVariants as kind
use Rattle.fcp_text.specs.declared.pieces.Piece.TheVariants as piece
use Rattle.fcp_text.specs.Bytes.{Text, is_in, is_blank, leading}
use Rattle.fcp_text.specs.Pieces.{scan}
use Rattle.fcp_text.specs.Tokens.{lex_from, front, sign_after}
use Rattle.fcp_text.proofs.Choices.{and-first, and-second, taken, passed}
use Rattle.fcp_text.proofs.Cuts.{lex_token}
use Rattle.fcp_text.proofs.Digits.{decimal-numerals}

-- a piece that is a token of all bytes of a text, and then what follows the text
pub lex-piece : (s : Bool) (at : ℕ) (text rest : Text) (k : Kind) → 1 ≤ length text → scan s (text ++ rest) ≡ piece.Token k (length text)
    → lex_from s at 0 (text ++ rest)
    ≡ front (record { kind = k; at = at; len = length text } ∷ []) (lex_from (sign_after text k) (at + length text) 0 rest)
lex-piece s at text rest k l h =
    lex_token s (length text) at (text ++ rest) k (omega (arith, length-append {A = ℕ})) l h
    ∙ ap (λ t. front (record { kind = k; at = at; len = length text } ∷ [])
    (lex_from (sign_after t k) (at + length text) 0 (drop (length text) (text ++ rest)))) (take_at text rest (length text) refl)
    ∙ ap (λ t. front (record { kind = k; at = at; len = length text } ∷ []) (lex_from (sign_after text k) (at + length text) 0 t))
    (drop_at text rest (length text) refl)

-- no word goes on at the front of the text
abbrev pub EndsWord : Text → Type 0
EndsWord z = is_in class.Word (slice_index z 0) ≡ false

word-len : (z rest : Text) → list_all is_word_byte z ≡ true → EndsWord rest → leading class.Word (z ++ rest) ≡ length z
word-len [] [] h e = refl
word-len [] (b ∷ rest) h e = ap (λ c. cond c (1 + leading class.Word rest) 0) e
word-len (b ∷ z) rest h e =
    let s : 1 + length z ≡ suc (length z) = omega arith in
    ap (λ c. cond c (1 + leading class.Word (z ++ rest)) 0) (and-first (is_word_byte b) _ h)
    ∙ ap (λ n. 1 + n) (word-len z rest (and-second (is_word_byte b) _ h) e) ∙ s

lower-blank : (b : ℕ) → is_ascii_lowercase b ≡ true → is_blank b ≡ false
lower-blank b h = grind (arith, nat_tests)

lower-percent : (b : ℕ) → is_ascii_lowercase b ≡ true → (b == 37) ≡ false
lower-percent b h = grind (arith, nat_tests)

scan-lower : (s : Bool) (b : ℕ) (z : Text) → is_ascii_lowercase b ≡ true
    → scan s (b ∷ z) ≡ piece.Token kind.Name (leading class.Word (b ∷ z))
unfolding scan
scan-lower s b z h =
    passed (is_blank b) _ _ _ (lower-blank b h) (passed (b == 37) _ _ _ (lower-percent b h) (taken (is_ascii_lowercase b) _ _ h))

pub scan-name : (s : Bool) (name rest : Text) → is_name name ≡ true → EndsWord rest
    → scan s (name ++ rest) ≡ piece.Token kind.Name (length name)
scan-name s [] rest h e = absurd (cc)
scan-name s (b ∷ z) rest h e =
    scan-lower s b (z ++ rest) (and-first (is_ascii_lowercase b) _ h)
    ∙ ap (piece.Token kind.Name) (word-len (b ∷ z) rest (and-second (is_ascii_lowercase b) _ h) e)

name-some : (name : Text) → is_name name ≡ true → 1 ≤ length name
name-some [] h = absurd (cc)
name-some (b ∷ z) h = omega arith

-- a name
pub lex-name : (s : Bool) (at : ℕ) (name rest : Text) → is_name name ≡ true → EndsWord rest
    → lex_from s at 0 (name ++ rest)
    ≡ front (record { kind = kind.Name; at = at; len = length name } ∷ [])
    (lex_from (sign_after name kind.Name) (at + length name) 0 rest)
lex-name s at name rest h e = lex-piece s at name rest kind.Name (name-some name h) (scan-name s name rest h e)

upper-blank : (b : ℕ) → (is_ascii_uppercase b || b == 95) ≡ true → is_blank b ≡ false
upper-blank b h = grind (arith, nat_tests)

upper-percent : (b : ℕ) → (is_ascii_uppercase b || b == 95) ≡ true → (b == 37) ≡ false
upper-percent b h = grind (arith, nat_tests)

upper-lower : (b : ℕ) → (is_ascii_uppercase b || b == 95) ≡ true → is_ascii_lowercase b ≡ false
upper-lower b h = grind (arith, nat_tests)

upper-word : (b : ℕ) → (is_ascii_uppercase b || b == 95) ≡ true → is_word_byte b ≡ true
upper-word b h = grind (arith, nat_tests)

scan-upper : (s : Bool) (b : ℕ) (z : Text) → (is_ascii_uppercase b || b == 95) ≡ true
    → scan s (b ∷ z) ≡ piece.Token kind.Variable (leading class.Word (b ∷ z))
unfolding scan
scan-upper s b z h =
    passed (is_blank b) _ _ _ (upper-blank b h) (passed (b == 37) _ _ _ (upper-percent b h)
    (passed (is_ascii_lowercase b) _ _ _ (upper-lower b h) (taken (is_ascii_uppercase b || b == 95) _ _ h)))

both : (a b : Bool) → a ≡ true → b ≡ true → (a && b) ≡ true
both true b h g = g
both false b h g = h

-- a variable: a capital letter or `_`, and a word behind it
pub lex-variable : (s : Bool) (at b : ℕ) (z rest : Text) → (is_ascii_uppercase b || b == 95) ≡ true → list_all is_word_byte z ≡ true
    → EndsWord rest
    → lex_from s at 0 ((b ∷ z) ++ rest)
    ≡ front (record { kind = kind.Variable; at = at; len = length (b ∷ z) } ∷ []) (lex_from false (at + length (b ∷ z)) 0 rest)
lex-variable s at b z rest h g e =
    lex-piece s at (b ∷ z) rest kind.Variable (omega arith)
    (scan-upper s b (z ++ rest) h ∙ ap (piece.Token kind.Variable) (word-len (b ∷ z) rest (both (is_word_byte b) _ (upper-word b h) g) e))

digit-word : (b : ℕ) → is_ascii_digit b ≡ true → is_word_byte b ≡ true
digit-word b h = grind (arith, nat_tests)

digits-word : (ds : Text) → all_ascii_digits ds ≡ true → list_all is_word_byte ds ≡ true
digits-word [] h = refl
digits-word (b ∷ ds) h =
    both (is_word_byte b) _ (digit-word b (and-first (is_ascii_digit b) _ h)) (digits-word ds (and-second (is_ascii_digit b) _ h))

-- the variable of a number, as `V12`
pub lex-numbered : (s : Bool) (at k : ℕ) (rest : Text) → k < 2 ^ 64 → EndsWord rest
    → lex_from s at 0 ((86 ∷ decimal k) ++ rest)
    ≡ front (record { kind = kind.Variable; at = at; len = length (86 ∷ decimal k) } ∷ [])
    (lex_from false (at + length (86 ∷ decimal k)) 0 rest)
lex-numbered s at k rest h e = lex-variable s at 86 (decimal k) rest refl (digits-word (decimal k) (digits_decimal decimal-numerals k h)) e

-- a space, and a line feed
pub lex-space : (s : Bool) (at : ℕ) (rest : Text) → lex_from s at 0 (32 ∷ rest) ≡ lex_from s (at + 1) 0 rest
unfolding scan
lex-space s at rest = refl

pub lex-line_feed : (s : Bool) (at : ℕ) (rest : Text) → lex_from s at 0 (10 ∷ rest) ≡ lex_from s (at + 1) 0 rest
unfolding scan
lex-line_feed s at rest = refl
