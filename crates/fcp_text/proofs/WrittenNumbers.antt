-- What is written is cut into the same tokens again: decimal numbers.
use Rattle.std.proofs.Common.{◌≡◌, ℕ, suc, ◌+◌, ◌≤◌, ◌<◌, ◌^◌, Bool, true, false, [], ◌∷◌, ◌++◌, take, drop, length, refl, ap, ◌∙◌, arith, cond, Option, Some, None}
use Rattle.std.specs.Prelude.{slice_index, ◌==◌, ◌||◌, if◌then◌else◌, decimal, ℤ, pos, negsuc, option_map}
use Rattle.std.specs.Char.{is_ascii_lowercase, is_ascii_uppercase, is_ascii_digit}
use Rattle.std.specs.Fmt.{signed_decimal}
use Rattle.std.specs.Str.{all_ascii_digits}
use Rattle.std.proofs.lemmas.List.{take_at}
use Rattle.std.proofs.lemmas.Bool.Decides.{nat_tests}
use Rattle.std.proofs.lemmas.Fmt.{digits_decimal, digits_value-decimal, decimal_nonempty}
use Rattle.fcp_text.specs.declared.bytes.Class.TheVariants as class
use Rattle.fcp_text.specs.declared.pieces.Kind.TheVariants as kind
use Rattle.fcp_text.specs.declared.pieces.Piece.TheVariants as piece
use Rattle.fcp_text.specs.Bytes.{Text, is_blank, leading}
use Rattle.fcp_text.specs.Numbers.{begins_number, number, int_of, digits_value, fits, with_sign}
use Rattle.fcp_text.specs.Pieces.{scan, number_piece}
use Rattle.fcp_text.specs.Tokens.{lex_from, front}
use Rattle.fcp_text.proofs.Choices.{and-first, and-second, taken, passed}
use Rattle.fcp_text.proofs.Digits.{decimal-numerals}
use Rattle.fcp_text.proofs.WrittenWords.{lex-piece}

-- no digits go on at the front of the text
abbrev pub EndsDigits : Text → Type 0
EndsDigits z = is_ascii_digit (slice_index z 0) ≡ false

digits-len : (ds rest : Text) → all_ascii_digits ds ≡ true → EndsDigits rest → leading class.Digit (ds ++ rest) ≡ length ds
digits-len [] [] h e = refl
digits-len [] (b ∷ rest) h e = ap (λ c. cond c (1 + leading class.Digit rest) 0) e
digits-len (b ∷ ds) rest h e =
    let s : 1 + length ds ≡ suc (length ds) = omega arith in
    ap (λ c. cond c (1 + leading class.Digit (ds ++ rest)) 0) (and-first (is_ascii_digit b) _ h)
    ∙ ap (λ n. 1 + n) (digits-len ds rest (and-second (is_ascii_digit b) _ h) e) ∙ s

-- the number of a text by its sign, and by how many digits there are
abbrev by_len : Bool → ℕ → Text → ℕ → Option (ℤ × ℕ)
by_len m k z len = option_map (λ n. (n, k + len)) (int_of m (digits_value (take len (drop k z))))

abbrev by_sign : Text → Bool → Option (ℤ × ℕ)
by_sign z m = let k = (if m then 1 else 0) in by_len m k z (leading class.Digit (drop k z))

by_len-is : (m : Bool) (k v : ℕ) (z ds rest : Text) → drop k z ≡ ds ++ rest → digits_value ds ≡ v → fits m v ≡ true
    → by_len m k z (length ds) ≡ Some (with_sign m v, k + length ds)
by_len-is m k v z ds rest d h f =
    ap (λ w. option_map (λ n. (n, k + length ds)) (int_of m (digits_value (take (length ds) w)))) d
    ∙ ap (λ w. option_map (λ n. (n, k + length ds)) (int_of m (digits_value w))) (take_at ds rest (length ds) refl)
    ∙ ap (λ w. option_map (λ n. (n, k + length ds)) (int_of m w)) h
    ∙ ap (option_map (λ n. (n, k + length ds))) (taken (fits m v) (Some (with_sign m v)) None f)

unsigned-is : (b v : ℕ) (ds rest : Text) → (b == 45) ≡ false → all_ascii_digits (b ∷ ds) ≡ true → EndsDigits rest
    → digits_value (b ∷ ds) ≡ v → fits false v ≡ true
    → number ((b ∷ ds) ++ rest) ≡ Some (with_sign false v, 0 + length (b ∷ ds))
unfolding number
unsigned-is b v ds rest m h e g f =
    ap (by_sign ((b ∷ ds) ++ rest)) m ∙ ap (by_len false 0 ((b ∷ ds) ++ rest)) (digits-len (b ∷ ds) rest h e)
    ∙ by_len-is false 0 v ((b ∷ ds) ++ rest) (b ∷ ds) rest refl g f

signed-is : (v : ℕ) (ds rest : Text) → all_ascii_digits ds ≡ true → EndsDigits rest → digits_value ds ≡ v → fits true v ≡ true
    → number ((45 ∷ ds) ++ rest) ≡ Some (with_sign true v, 1 + length ds)
unfolding number
signed-is v ds rest h e g f =
    ap (by_len true 1 ((45 ∷ ds) ++ rest)) (digits-len ds rest h e) ∙ by_len-is true 1 v ((45 ∷ ds) ++ rest) ds rest refl g f

digit-blank : (b : ℕ) → is_ascii_digit b ≡ true → is_blank b ≡ false
digit-blank b h = grind (arith, nat_tests)

digit-percent : (b : ℕ) → is_ascii_digit b ≡ true → (b == 37) ≡ false
digit-percent b h = grind (arith, nat_tests)

digit-lower : (b : ℕ) → is_ascii_digit b ≡ true → is_ascii_lowercase b ≡ false
digit-lower b h = grind (arith, nat_tests)

digit-upper : (b : ℕ) → is_ascii_digit b ≡ true → (is_ascii_uppercase b || b == 95) ≡ false
digit-upper b h = grind (arith, nat_tests)

digit-quote : (b : ℕ) → is_ascii_digit b ≡ true → (b == 39 || b == 34) ≡ false
digit-quote b h = grind (arith, nat_tests)

digit-minus : (b : ℕ) → is_ascii_digit b ≡ true → (b == 45) ≡ false
digit-minus b h = grind (arith, nat_tests)

or-first : (a b : Bool) → a ≡ true → (a || b) ≡ true
or-first true b h = refl
or-first false b h = absurd (cc)

scan-digit : (s : Bool) (b : ℕ) (z : Text) → is_ascii_digit b ≡ true → scan s (b ∷ z) ≡ number_piece (number (b ∷ z))
unfolding scan
scan-digit s b z h =
    passed (is_blank b) _ _ _ (digit-blank b h) (passed (b == 37) _ _ _ (digit-percent b h)
    (passed (is_ascii_lowercase b) _ _ _ (digit-lower b h) (passed (is_ascii_uppercase b || b == 95) _ _ _ (digit-upper b h)
    (passed (b == 39 || b == 34) _ _ _ (digit-quote b h) (taken (begins_number s (b ∷ z)) _ _ (or-first (is_ascii_digit b) _ h))))))

scan-minus : (b : ℕ) (z : Text) → is_ascii_digit b ≡ true → scan true (45 ∷ b ∷ z) ≡ number_piece (number (45 ∷ b ∷ z))
unfolding scan
scan-minus b z h = taken (is_ascii_digit b) _ _ h

-- below 2^63
fits-below : (v : ℕ) → v < 9223372036854775808 → fits false v ≡ true
fits-below v h = grind (arith, nat_tests)

-- up to 2^63
fits-negative : (v : ℕ) → v ≤ 9223372036854775808 → fits true v ≡ true
fits-negative v h = grind (arith, nat_tests)

lex-digits : (s : Bool) (at v : ℕ) (ds rest : Text) → 1 ≤ length ds → all_ascii_digits ds ≡ true → digits_value ds ≡ v
    → v < 9223372036854775808 → EndsDigits rest
    → lex_from s at 0 (ds ++ rest)
    ≡ front (record { kind = kind.Int (pos v); at = at; len = length ds } ∷ []) (lex_from false (at + length ds) 0 rest)
lex-digits s at v [] rest l h g m e = absurd (omega arith)
lex-digits s at v (b ∷ ds) rest l h g m e =
    let d : is_ascii_digit b ≡ true = and-first (is_ascii_digit b) _ h in
    let n : 0 + length (b ∷ ds) ≡ length (b ∷ ds) = omega arith in
    lex-piece s at (b ∷ ds) rest (kind.Int (pos v)) l
    (scan-digit s b (ds ++ rest) d ∙ ap number_piece (unsigned-is b v ds rest (digit-minus b d) h e g (fits-below v m))
    ∙ ap (piece.Token (kind.Int (pos v))) n)

-- a number that is not negative
pub lex-decimal : (s : Bool) (at n : ℕ) (rest : Text) → n < 9223372036854775808 → EndsDigits rest
    → lex_from s at 0 (decimal n ++ rest)
    ≡ front (record { kind = kind.Int (pos n); at = at; len = length (decimal n) } ∷ [])
    (lex_from false (at + length (decimal n)) 0 rest)
lex-decimal s at n rest h e =
    let k : n < 2 ^ 64 = omega arith in
    lex-digits s at n (decimal n) rest (omega (arith, decimal_nonempty n k)) (digits_decimal decimal-numerals n k)
    (digits_value-decimal decimal-numerals n k) h e

lex-minus : (at n : ℕ) (ds rest : Text) → 1 ≤ length ds → all_ascii_digits ds ≡ true → digits_value ds ≡ suc n → n < 9223372036854775808
    → EndsDigits rest
    → lex_from true at 0 ((45 ∷ ds) ++ rest)
    ≡ front (record { kind = kind.Int (negsuc n); at = at; len = length (45 ∷ ds) } ∷ [])
    (lex_from false (at + length (45 ∷ ds)) 0 rest)
lex-minus at n [] rest l h g m e = absurd (omega arith)
lex-minus at n (b ∷ ds) rest l h g m e =
    let d : is_ascii_digit b ≡ true = and-first (is_ascii_digit b) _ h in
    let k : 1 + length (b ∷ ds) ≡ length (45 ∷ b ∷ ds) = omega arith in
    let f : suc n ≤ 9223372036854775808 = omega arith in
    lex-piece true at (45 ∷ b ∷ ds) rest (kind.Int (negsuc n)) (omega arith)
    (scan-minus b (ds ++ rest) d ∙ ap number_piece (signed-is (suc n) (b ∷ ds) rest h e g (fits-negative (suc n) f))
    ∙ ap (piece.Token (kind.Int (negsuc n))) k)

-- a negative number, where a sign may stand: `negsuc n` is one below minus n
pub lex-negative : (at n : ℕ) (rest : Text) → n < 9223372036854775808 → EndsDigits rest
    → lex_from true at 0 ((45 ∷ decimal (suc n)) ++ rest)
    ≡ front (record { kind = kind.Int (negsuc n); at = at; len = length (45 ∷ decimal (suc n)) } ∷ [])
    (lex_from false (at + length (45 ∷ decimal (suc n))) 0 rest)
lex-negative at n rest h e =
    let k : suc n < 2 ^ 64 = omega arith in
    lex-minus at n (decimal (suc n)) rest (omega (arith, decimal_nonempty (suc n) k)) (digits_decimal decimal-numerals (suc n) k)
    (digits_value-decimal decimal-numerals (suc n) k) h e

-- the sign of a negative number may stand here
abbrev pub MayStand : Bool → ℤ → Type 0
MayStand s (pos n) = n < 9223372036854775808
MayStand s (negsuc n) = (s ≡ true) × (n < 9223372036854775808)

-- a number of 64 bits
pub lex-number : (s : Bool) (at : ℕ) (i : ℤ) (rest : Text) → MayStand s i → EndsDigits rest
    → lex_from s at 0 (signed_decimal i ++ rest)
    ≡ front (record { kind = kind.Int i; at = at; len = length (signed_decimal i) } ∷ [])
    (lex_from false (at + length (signed_decimal i)) 0 rest)
lex-number s at (pos n) rest h e = lex-decimal s at n rest h e
lex-number s at (negsuc n) rest h e =
    ap (λ t. lex_from t at 0 (signed_decimal (negsuc n) ++ rest)) h.0 ∙ lex-negative at n rest h.1 e
