-- What a quoted text stands for is UTF-8 where the text is.
use Rattle.std.proofs.Common.{◌≡◌, ℕ, suc, ◌≤◌, ◌<◌, Bool, true, false, List, [], ◌∷◌, ◌++◌, length, get_or, refl, ap, ◌∙◌, sym, subst, arith, append-nil}
use Rattle.std.specs.Prelude.{if◌then◌else◌, ◌==◌, nat_lt}
use Rattle.std.specs.Str.{IsUtf8}
use Rattle.std.specs.Char.{len_utf8}
use Rattle.std.proofs.Math.Utf8.{scalar, scalars, encode, encodes}
use Rattle.std.proofs.lemmas.Str.{IsUtf8-append, IsUtf8-nil, IsUtf8-encode, IsUtf8-drop, IsCharBoundary-after_ascii, encode_ascii, inside_one, length-encode, len_utf8_bounds}
use Rattle.std.proofs.lemmas.Bool.Decides.{nat_tests}
use Rattle.fcp_text.specs.Bytes.{Text}
use Rattle.fcp_text.specs.QuotedStrings.{without_quotes, unquoted}
use Rattle.fcp_text.proofs.Choices.{by_test, and-first, and-second}

-- bytes that are no quote stay
stays : (q : ℕ) (e rest : Text) → ((k : ℕ) → k < length e → (get_or e k 0 == q) ≡ false)
    → without_quotes q false (e ++ rest) ≡ e ++ without_quotes q false rest
stays q [] rest h = refl
stays q (b ∷ e) rest h =
    ap (λ c. if c then without_quotes q true (e ++ rest) else b ∷ without_quotes q false (e ++ rest)) (h 0 (omega arith))
    ∙ ap (λ z. b ∷ z) (stays q e rest (λ k l. h (suc k) (omega arith)))

no-quote : (b q : ℕ) → q < 128 → (b < 128 → ⊥) → (b == q) ≡ false
no-quote b q h g = grind (arith, nat_tests)

stays-second : (q : ℕ) (e rest : Text) → 1 ≤ length e → ((k : ℕ) → k < length e → (get_or e k 0 == q) ≡ false)
    → without_quotes q true (e ++ rest) ≡ e ++ without_quotes q false rest
stays-second q [] rest l h = absurd (omega arith)
stays-second q (b ∷ e) rest l h = ap (λ z. b ∷ z) (stays q e rest (λ k m. h (suc k) (omega arith)))

-- a character beyond ASCII has no byte that is a quote
beyond : (c q k : ℕ) → (c < 128 → ⊥) → q < 128 → k < length (encode c) → (get_or (encode c) k 0 == q) ≡ false
beyond c q k h l m =
    no-quote (get_or (encode c) k 0) q l
    (λ g. h (subst (λ x. x < 128) (sym (inside_one c [] (encode c) k (sym (append-nil (encode c))) m g)) g))

some-bytes : (c : ℕ) → 1 ≤ length (encode c)
some-bytes c =
    let e : length (encode c) ≡ len_utf8 c = length-encode c in let b : (1 ≤ len_utf8 c) × (len_utf8 c ≤ 4) = len_utf8_bounds c in
    subst (λ n. 1 ≤ n) (sym e) b.0

choose : {A : Type 0} (b : Bool) → (b ≡ true → A) → (b ≡ false → A) → A
choose true f g = f refl
choose false f g = g refl

below-of : (c : ℕ) → nat_lt c 128 ≡ true → c < 128
below-of c h = grind (arith, nat_tests)

not-below : (c : ℕ) → nat_lt c 128 ≡ false → c < 128 → ⊥
not-below c h l = grind (arith, nat_tests)

module _ (q c : ℕ) (cs : List ℕ) (l : q < 128) (scalar-c : scalar c ≡ true)
    (rest : (s : Bool) → IsUtf8 (without_quotes q s (encodes cs))) where
  ascii-step : c < 128 → (s : Bool) → IsUtf8 (without_quotes q s (c ∷ encodes cs))
  ascii-step m true =
      IsUtf8-append (c ∷ []) (without_quotes q false (encodes cs)) (subst IsUtf8 (encode_ascii c m) (IsUtf8-encode c scalar-c)) (rest false)
  ascii-step m false =
      by_test IsUtf8 (c == q) (without_quotes q true (encodes cs)) (c ∷ without_quotes q false (encodes cs)) (λ h. rest true)
      (λ h. IsUtf8-append (c ∷ []) (without_quotes q false (encodes cs)) (subst IsUtf8 (encode_ascii c m) (IsUtf8-encode c scalar-c))
      (rest false))

  other-step : (c < 128 → ⊥) → (s : Bool) → IsUtf8 (without_quotes q s (encode c ++ encodes cs))
  other-step m true =
      subst IsUtf8 (sym (stays-second q (encode c) (encodes cs) (some-bytes c) (λ k n. beyond c q k m l n)))
      (IsUtf8-append (encode c) (without_quotes q false (encodes cs)) (IsUtf8-encode c scalar-c) (rest false))
  other-step m false =
      subst IsUtf8 (sym (stays q (encode c) (encodes cs) (λ k n. beyond c q k m l n)))
      (IsUtf8-append (encode c) (without_quotes q false (encodes cs)) (IsUtf8-encode c scalar-c) (rest false))

  step : (s : Bool) → IsUtf8 (without_quotes q s (encode c ++ encodes cs))
  step s =
      choose (nat_lt c 128) (λ h. subst (λ e. IsUtf8 (without_quotes q s (e ++ encodes cs))) (sym (encode_ascii c (below-of c h)))
      (ascii-step (below-of c h) s))
      (λ h. other-step (not-below c h) s)

without_quotes-chars : (q : ℕ) (cs : List ℕ) → q < 128 → scalars cs ≡ true → (s : Bool) → IsUtf8 (without_quotes q s (encodes cs))
without_quotes-chars q [] l h true = IsUtf8-nil
without_quotes-chars q [] l h false = IsUtf8-nil
without_quotes-chars q (c ∷ cs) l h s =
    step q c cs l (and-first (scalar c) _ h) (λ t. without_quotes-chars q cs l (and-second (scalar c) _ h) t) s

without_quotes-IsUtf8 : (q : ℕ) (z : Text) → q < 128 → IsUtf8 z → IsUtf8 (without_quotes q false z)
without_quotes-IsUtf8 q z l u = subst (λ x. IsUtf8 (without_quotes q false x)) u.1.1 (without_quotes-chars q u.0 l u.1.0 false)

pub unquoted-IsUtf8 : (z : Text) → get_or z 0 0 < 128 → IsUtf8 z → IsUtf8 (unquoted z)
unquoted-IsUtf8 [] l u = IsUtf8-nil
unquoted-IsUtf8 (q ∷ z) l u = without_quotes-IsUtf8 q z l (IsUtf8-drop (q ∷ z) 1 u (IsCharBoundary-after_ascii (q ∷ z) 0 u (omega arith) l))
