-- The text of pieces that fit is UTF-8.
use Rattle.std.proofs.Common.{◌≡◌, ℕ, zero, suc, ◌<◌, lit<, ◌^◌, Bool, true, false, List, [], ◌∷◌, ◌++◌, length, get_or, refl, ap, ◌∙◌, sym, subst, arith, append_assoc, append-nil}
use Rattle.std.specs.Prelude.{if◌then◌else◌, nat_eq, nat_lt, slice_get, codes, decimal, ℤ, pos, negsuc, Some}
use Rattle.std.specs.List.{list_all}
use Rattle.std.specs.Str.{IsAscii, IsUtf8}
use Rattle.std.specs.Fmt.{signed_decimal}
use Rattle.std.proofs.Math.Utf8.{scalar, scalars, encode, encodes}
use Rattle.std.proofs.lemmas.Str.{IsUtf8-append, IsUtf8-nil, IsUtf8-encode, IsUtf8-from_ascii, encode_ascii, inside_one}
use Rattle.std.proofs.lemmas.Fmt.{IsAscii-decimal}
use Rattle.std.proofs.lemmas.Bool.Decides.{nat_tests}
use Rattle.fcp_model.specs.Spelling.{is_name, doubled, string_text}
use Rattle.fcp_text.specs.Bytes.{Text}
use Rattle.fcp_text.specs.declared.pieces.Kind.TheVariants as kind
use Rattle.fcp_text.specs.Marks.{marks}
use Rattle.fcp_text.specs.Tokens.{sign_after}
use Rattle.fcp_text.proofs.Choices.{by_test, and-first, and-second}
use Rattle.text_laws.specs.Spellings.{Spelling, string, number, variable, mark, space, line_feed, mark_text, spellings_text}
use Rattle.text_laws.specs.Fitting.{Fits, StandsThere, sign_behind}
use Rattle.text_laws.proofs.Endings.{mark-row}

below-of : (n c : ℕ) → nat_lt c n ≡ true → c < n
below-of n c h = grind (arith, nat_tests)

all-below : (z : Text) → list_all (λ b. nat_lt b 128) z ≡ true → IsAscii z
all-below [] h i = lit< tt
all-below (b ∷ z) h zero = below-of 128 b (and-first (nat_lt b 128) _ h)
all-below (b ∷ z) h (suc i) = all-below z (and-second (nat_lt b 128) _ h) i

-- a text of ASCII bytes
pub ascii-IsUtf8 : (z : Text) → list_all (λ b. nat_lt b 128) z ≡ true → IsUtf8 z
ascii-IsUtf8 z h = IsUtf8-from_ascii z (all-below z h)

-- one byte, as it is or doubled
abbrev twice : Bool → ℕ → Text
twice c b = if c then 39 ∷ 39 ∷ [] else b ∷ []

doubled-append : (xs ys : Text) → doubled (xs ++ ys) ≡ doubled xs ++ doubled ys
doubled-append [] ys = refl
doubled-append (b ∷ xs) ys =
    ap (λ l. twice (nat_eq b 39) b ++ l) (doubled-append xs ys) ∙ sym (append_assoc (twice (nat_eq b 39) b) (doubled xs) (doubled ys))

-- bytes of which none is the quote stay
stay : (e : Text) → ((k : ℕ) → k < length e → nat_eq (get_or e k 0) 39 ≡ false) → doubled e ≡ e
stay [] h = refl
stay (b ∷ e) h = ap (λ c. twice c b ++ doubled e) (h 0 (omega arith)) ∙ ap (λ z. b ∷ z) (stay e (λ k l. h (suc k) (omega arith)))

no-quote : (b : ℕ) → (b < 128 → ⊥) → nat_eq b 39 ≡ false
no-quote b g = grind (arith, nat_tests)

-- a character beyond ASCII has no byte that is the quote
beyond : (c k : ℕ) → (c < 128 → ⊥) → k < length (encode c) → nat_eq (get_or (encode c) k 0) 39 ≡ false
beyond c k h m =
    no-quote (get_or (encode c) k 0)
    (λ g. h (subst (λ x. x < 128) (sym (inside_one c [] (encode c) k (sym (append-nil (encode c))) m g)) g))

choose : {A : Type 0} (b : Bool) → (b ≡ true → A) → (b ≡ false → A) → A
choose true f g = f refl
choose false f g = g refl

not-below : (c : ℕ) → nat_lt c 128 ≡ false → c < 128 → ⊥
not-below c h l = grind (arith, nat_tests)

-- a character, doubled where it is the quote
doubled-one : (c : ℕ) → scalar c ≡ true → IsUtf8 (doubled (encode c))
doubled-one c s =
    choose (nat_lt c 128) (λ h. small (below-of 128 c h))
    (λ h. subst IsUtf8 (sym (stay (encode c) (λ k l. beyond c k (not-below c h) l))) (IsUtf8-encode c s))
  where
    small : c < 128 → IsUtf8 (doubled (encode c))
    small l =
        subst (λ e. IsUtf8 (doubled e)) (sym (encode_ascii c l))
        (subst IsUtf8 (sym (append-nil (twice (nat_eq c 39) c)))
        (by_test IsUtf8 (nat_eq c 39) (39 ∷ 39 ∷ []) (c ∷ []) (λ h. ascii-IsUtf8 (39 ∷ 39 ∷ []) refl)
        (λ h. subst IsUtf8 (encode_ascii c l) (IsUtf8-encode c s))))

doubled-chars : (cs : List ℕ) → scalars cs ≡ true → IsUtf8 (doubled (encodes cs))
doubled-chars [] h = IsUtf8-nil
doubled-chars (c ∷ cs) h =
    subst IsUtf8 (sym (doubled-append (encode c) (encodes cs)))
    (IsUtf8-append (doubled (encode c)) (doubled (encodes cs)) (doubled-one c (and-first (scalar c) _ h))
    (doubled-chars cs (and-second (scalar c) _ h)))

doubled-IsUtf8 : (z : Text) → IsUtf8 z → IsUtf8 (doubled z)
doubled-IsUtf8 z u = subst (λ x. IsUtf8 (doubled x)) u.1.1 (doubled-chars u.0 u.1.0)

quote-IsUtf8 : IsUtf8 (39 ∷ [])
quote-IsUtf8 = ascii-IsUtf8 (39 ∷ []) refl

-- a string as it is written
string-IsUtf8 : (z : Text) → IsUtf8 z → IsUtf8 (string_text z)
string-IsUtf8 z u =
    by_test IsUtf8 (is_name z) z (39 ∷ doubled z ++ 39 ∷ []) (λ h. u)
    (λ h. IsUtf8-append (39 ∷ []) (doubled z ++ 39 ∷ []) quote-IsUtf8
    (IsUtf8-append (doubled z) (39 ∷ []) (doubled-IsUtf8 z u) quote-IsUtf8))

decimal-IsUtf8 : (n : ℕ) → n < 2 ^ 64 → IsUtf8 (decimal n)
decimal-IsUtf8 n h = IsUtf8-from_ascii (decimal n) (IsAscii-decimal n h)

number-IsUtf8 : (s : Bool) (i : ℤ) → StandsThere s i → IsUtf8 (signed_decimal i)
number-IsUtf8 s (pos n) h = decimal-IsUtf8 n (omega arith)
number-IsUtf8 s (negsuc n) h =
    let l : n < 9223372036854775808 = h.1 in
    IsUtf8-append (45 ∷ []) (decimal (suc n)) (ascii-IsUtf8 (45 ∷ []) refl) (decimal-IsUtf8 (suc n) (omega arith))

row-below : (ms : List (Text × ℕ)) (k : ℕ) (m : Text × ℕ) → list_all (λ m. list_all (λ b. nat_lt b 128) m.0) ms ≡ true
    → slice_get ms k ≡ Some m → list_all (λ b. nat_lt b 128) m.0 ≡ true
row-below [] k m e h = absurd (cc)
row-below (l ∷ ms) zero m e h =
    let g : l ≡ m = cc in subst (λ m. list_all (λ b. nat_lt b 128) m.0 ≡ true) g (and-first (list_all (λ b. nat_lt b 128) l.0) _ e)
row-below (l ∷ ms) (suc k) m e h = row-below ms k m (and-second (list_all (λ b. nat_lt b 128) l.0) _ e) h

pub fits-IsUtf8 : (s : Bool) (ps : List Spelling) → Fits s ps → IsUtf8 (spellings_text ps)
fits-IsUtf8 s [] f = IsUtf8-nil
fits-IsUtf8 s (string bs ∷ ps) f =
    IsUtf8-append (string_text bs) (spellings_text ps) (string-IsUtf8 bs f.0.1) (fits-IsUtf8 (sign_behind bs) ps f.2)
fits-IsUtf8 s (number i ∷ ps) f = IsUtf8-append (signed_decimal i) (spellings_text ps) (number-IsUtf8 s i f.0) (fits-IsUtf8 false ps f.2)
fits-IsUtf8 s (variable k ∷ ps) f =
    IsUtf8-append (86 ∷ decimal k) (spellings_text ps)
    (IsUtf8-append (86 ∷ []) (decimal k) (ascii-IsUtf8 (86 ∷ []) refl) (decimal-IsUtf8 k f.0)) (fits-IsUtf8 false ps f.2)
fits-IsUtf8 s (mark n ∷ ps) f =
    let r : (k : ℕ) × (slice_get marks k ≡ Some (mark_text n, n)) = mark-row n f.0 in
    IsUtf8-append (mark_text n) (spellings_text ps) (ascii-IsUtf8 (mark_text n) (row-below marks r.0 (mark_text n, n) refl r.1))
    (fits-IsUtf8 (sign_after (mark_text n) (kind.Mark n)) ps f.2)
fits-IsUtf8 s (space ∷ ps) f = IsUtf8-append (codes " ") (spellings_text ps) (ascii-IsUtf8 (codes " ") refl) (fits-IsUtf8 s ps f)
fits-IsUtf8 s (line_feed ∷ ps) f = IsUtf8-append (codes "\n") (spellings_text ps) (ascii-IsUtf8 (codes "\n") refl) (fits-IsUtf8 s ps f)
