-- The tokens of a text: names and quoted strings are on one line, and numbers have 64 bits.
use Rattle.std.proofs.Common.{◌≡◌, ℕ, zero, suc, ◌+◌, ◌-◌, Bool, true, false, List, [], ◌∷◌, take, drop, refl, ap, ◌∙◌, sym, subst, arith, cond, Option, Some, None}
use Rattle.std.specs.Prelude.{Ok, Err, All, not, ◌&&◌, ◌||◌, ◌==◌, slice_index, option_map, if◌then◌else◌}
use Rattle.std.specs.Char.{is_ascii_lowercase, is_ascii_uppercase}
use Rattle.std.specs.Str.{is_utf8}
use Rattle.std.proofs.lemmas.List.{drop-drop}
use Rattle.std.proofs.lemmas.Bool.Decides.{nat_tests}
use Rattle.fcp_model.specs.declared.fault.Fault.{Fault}
use Rattle.fcp_text.specs.declared.bytes.Class.TheVariants as class
use Rattle.fcp_text.specs.declared.pieces.Kind.{Kind}
use Rattle.fcp_text.specs.declared.pieces.Kind.TheVariants as kind
use Rattle.fcp_text.specs.declared.pieces.Piece.{Piece}
use Rattle.fcp_text.specs.declared.pieces.Piece.TheVariants as piece
use Rattle.fcp_text.specs.declared.lexer.Token.{Token}
use Rattle.fcp_text.specs.Bytes.{Text, is_in, is_blank, leading}
use Rattle.fcp_text.specs.Marks.{mark}
use Rattle.fcp_text.specs.Numbers.{begins_number, number, sign_len, int_of, digits_value, fits, with_sign}
use Rattle.fcp_text.specs.QuotedStrings.{closing, without_quotes, unquoted}
use Rattle.fcp_text.specs.Pieces.{scan, quoted, quoted_piece, number_piece, mark_piece}
use Rattle.fcp_text.specs.TokenLaws.{IsSpelledWell}
use Rattle.fcp_text.specs.Tokens.{Outcome, front, lex_from, piece_then, sign_after, text_of, tokens_in, tokens_of}
use Rattle.fcp_text.proofs.Choices.{by_test, and-first, and-second}
use Rattle.fcp_text.proofs.Standing.{tokens_are_spelled_well}
use Rattle.fcp_terminals.specs.Lexemes.{Lexeme, lexemes}
use Rattle.text_laws.specs.Fitting.{is_line}
use Rattle.text_laws.specs.Writable.{is_int}

pub both : (a b : Bool) → a ≡ true → b ≡ true → (a && b) ≡ true
both true b g h = h
both false b g h = absurd (cc)

-- ---- words on one line

word-no_feed : (b : ℕ) → is_in class.Word b ≡ true → not (b == 10) ≡ true
word-no_feed b h = grind (arith, nat_tests)

one-more : (c : Bool) (b n : ℕ) (z : Text) → (c ≡ true → not (b == 10) ≡ true) → is_line (take n z) ≡ true
    → is_line (take (cond c (suc n) 0) (b ∷ z)) ≡ true
one-more true b n z h r = both (not (b == 10)) (is_line (take n z)) (h refl) r
one-more false b n z h r = refl

word-is_line : (z : Text) → is_line (take (leading class.Word z) z) ≡ true
word-is_line [] = refl
word-is_line (b ∷ z) =
    let n : ℕ = leading class.Word z in
    let e : 1 + n ≡ suc n = omega arith in
    subst (λ m. is_line (take (cond (is_in class.Word b) m 0) (b ∷ z)) ≡ true) (sym e)
    (one-more (is_in class.Word b) b n z (word-no_feed b) (word-is_line z))

-- ---- quoted strings on one line

-- up to the place, which is behind a closing quote, there is no line feed
abbrev Lined : ℕ → Text → ℕ → Type 0
Lined at z end = (k : ℕ) × (end ≡ at + k) × (is_line (take k z) ≡ true)

lined-cons : (at b end : ℕ) (z : Text) → not (b == 10) ≡ true → Lined (at + 1) z end → Lined at (b ∷ z) end
lined-cons at b end z h l =
    let e : end ≡ (at + 1) + l.0 = l.1 in
    (suc l.0, omega arith, both (not (b == 10)) (is_line (take l.0 z)) h l.2)

lined-here : (at b end : ℕ) (z : Text) → not (b == 10) ≡ true → Some (at + 1) ≡ Some end → Lined at (b ∷ z) end
lined-here at b end z h e =
    let g : at + 1 ≡ end = cc in
    (suc zero, omega arith, both (not (b == 10)) true h refl)

same-no_feed : (b q : ℕ) → not (q == 10) ≡ true → (b == q) ≡ true → not (b == 10) ≡ true
same-no_feed b q h g = grind (arith, nat_tests)

no_feed : (b : ℕ) → (b == 10) ≡ false → not (b == 10) ≡ true
no_feed b h = ap not h

goes-on : (a c : Bool) → (a && not c) ≡ false → a ≡ true → c ≡ true
goes-on true true h g = refl
goes-on true false h g = absurd (cc)
goes-on false c h g = absurd (cc)

closing-lined : (q at end : ℕ) (second : Bool) (z : Text) → not (q == 10) ≡ true → (second ≡ true → (slice_index z 0 == q) ≡ true)
    → closing q second at z ≡ Some end → Lined at z end
closing-lined q at end second [] n s e = absurd (cc)
closing-lined q at end true (b ∷ z) n s e =
    lined-cons at b end z (same-no_feed b q n (s refl)) (closing-lined q (at + 1) end false z n (λ h. absurd (cc)) e)
closing-lined q at end false (b ∷ z) n s e =
    by_test (λ o. o ≡ Some end → Lined at (b ∷ z) end) (b == 10) None _ (λ h f. absurd (cc))
    (λ h. by_test (λ o. o ≡ Some end → Lined at (b ∷ z) end) (b == q && not (slice_index z 0 == q)) (Some (at + 1))
    (closing q (b == q) (at + 1) z)
    (λ g f. lined-here at b end z (no_feed b h) f)
    (λ g f. lined-cons at b end z (no_feed b h) (closing-lined q (at + 1) end (b == q) z n (goes-on (b == q) (slice_index z 0 == q) g) f)))
    e

-- a string has no line feed where what it is written as has none
without_quotes-is_line : (q : ℕ) (second : Bool) (z : Text) → is_line z ≡ true → is_line (without_quotes q second z) ≡ true
without_quotes-is_line q second [] h = refl
without_quotes-is_line q true (b ∷ z) h =
    both (not (b == 10)) (is_line (without_quotes q false z)) (and-first (not (b == 10)) _ h)
    (without_quotes-is_line q false z (and-second (not (b == 10)) _ h))
without_quotes-is_line q false (b ∷ z) h =
    by_test (λ w. is_line w ≡ true) (b == q) (without_quotes q true z) (b ∷ without_quotes q false z)
    (λ g. without_quotes-is_line q true z (and-second (not (b == 10)) _ h))
    (λ g. both (not (b == 10)) (is_line (without_quotes q false z)) (and-first (not (b == 10)) _ h)
    (without_quotes-is_line q false z (and-second (not (b == 10)) _ h)))

pub unquoted-is_line : (z : Text) → is_line z ≡ true → is_line (unquoted z) ≡ true
unquoted-is_line [] h = refl
unquoted-is_line (q ∷ z) h = without_quotes-is_line q false z (and-second (not (q == 10)) _ h)

-- ---- pieces

-- names and quoted strings are on one line, and numbers have 64 bits
abbrev pub IsSound : Kind → Text → Type 0
IsSound kind.Name text = is_line text ≡ true
IsSound kind.Variable text = Unit {0}
IsSound kind.Quoted text = is_line text ≡ true
IsSound (kind.Int n) text = is_int n ≡ true
IsSound (kind.Mark m) text = Unit {0}

abbrev IsSoundPiece : Text → Piece → Type 0
IsSoundPiece z (piece.Gap n) = Unit {0}
IsSoundPiece z (piece.Token k n) = IsSound k (take n z)
IsSoundPiece z (piece.Bad c) = Unit {0}

quote-no_feed : (b : ℕ) → (b == 39 || b == 34) ≡ true → not (b == 10) ≡ true
quote-no_feed b h = grind (arith, nat_tests)

quoted_by-sound : (b : ℕ) (z : Text) (o : Option ℕ) → not (b == 10) ≡ true → ((end : ℕ) → o ≡ Some end → Lined 1 z end)
    → IsSoundPiece (b ∷ z) (quoted_piece o)
quoted_by-sound b z None q h = tt
quoted_by-sound b z (Some end) q h =
    let l : Lined 1 z end = h end refl in
    let e : end ≡ 1 + l.0 = l.1 in
    let g : suc l.0 ≡ end = omega arith in
    subst (λ n. is_line (take n (b ∷ z)) ≡ true) g (both (not (b == 10)) (is_line (take l.0 z)) q l.2)

quoted-sound : (b : ℕ) (z : Text) → (b == 39 || b == 34) ≡ true → IsSoundPiece (b ∷ z) (quoted (b ∷ z))
unfolding quoted
quoted-sound b z h =
    quoted_by-sound b z (closing b false 1 z) (quote-no_feed b h)
    (λ end. closing-lined b 1 end false z (quote-no_feed b h) (λ g. absurd (cc)))

signed-is_int : (m : Bool) (v : ℕ) → fits m v ≡ true → is_int (with_sign m v) ≡ true
signed-is_int false v h = grind (arith, nat_tests)
signed-is_int true zero h = refl
signed-is_int true (suc v) h = grind (arith, nat_tests)

number_by-sound : (z : Text) (k : ℕ) (m : Bool) (v : ℕ) → IsSoundPiece z (number_piece (option_map (λ n. (n, k)) (int_of m v)))
number_by-sound z k m v =
    by_test (λ o. IsSoundPiece z (number_piece (option_map (λ n. (n, k)) o))) (fits m v) (Some (with_sign m v)) None
    (λ h. signed-is_int m v h) (λ h. tt)

number-sound : (z : Text) → IsSoundPiece z (number_piece (number z))
unfolding number
number-sound z =
    let rest = drop (sign_len z) z in
    let len = leading class.Digit rest in
    number_by-sound z (sign_len z + len) (slice_index z 0 == 45) (digits_value (take len rest))

mark_piece-sound : (z : Text) (o : Option (ℕ × ℕ)) → IsSoundPiece z (mark_piece o)
mark_piece-sound z None = tt
mark_piece-sound z (Some m) = tt

scan-sound : (s : Bool) (b : ℕ) (z : Text) → IsSoundPiece (b ∷ z) (scan s (b ∷ z))
unfolding scan
scan-sound s b z =
    by_test (IsSoundPiece (b ∷ z)) (is_blank b) _ _ (λ h. tt)
    (λ h. by_test (IsSoundPiece (b ∷ z)) (b == 37) _ _ (λ h. tt)
    (λ h. by_test (IsSoundPiece (b ∷ z)) (is_ascii_lowercase b) _ _ (λ h. word-is_line (b ∷ z))
    (λ h. by_test (IsSoundPiece (b ∷ z)) (is_ascii_uppercase b || b == 95) _ _ (λ h. tt)
    (λ h. by_test (IsSoundPiece (b ∷ z)) (b == 39 || b == 34) _ _ (λ h. quoted-sound b z h)
    (λ h. by_test (IsSoundPiece (b ∷ z)) (begins_number s (b ∷ z)) _ _ (λ h. number-sound (b ∷ z))
    (λ h. mark_piece-sound (b ∷ z) (mark (b ∷ z))))))))

-- ---- tokens

abbrev AreSound : Text → List Token → Type 0
AreSound z [] = Unit {0}
AreSound z (t ∷ ts) = IsSound t.kind (text_of z t) × AreSound z ts

split : (t : Token) (o : Outcome) (ts : List Token) → front (t ∷ []) o ≡ Ok ts → (us : List Token) × (o ≡ Ok us) × (t ∷ us ≡ ts)
split t (Ok us) ts h = (us, refl, cc)
split t (Err f) ts h = absurd (cc)

next : (z : Text) (at b : ℕ) (w : Text) → drop at z ≡ b ∷ w → drop (at + 1) z ≡ w
next z at b w h = sym (drop-drop 1 at z) ∙ ap (drop 1) h

module _ (z : Text) (b : ℕ) (w : Text) (at : ℕ) (here : drop at z ≡ b ∷ w) where
  piece-sound : (s : Bool) (p : Piece) (ts : List Token) → IsSoundPiece (b ∷ w) p
      → ((t : Bool) (n : ℕ) (us : List Token) → lex_from t (at + 1) n w ≡ Ok us → AreSound z us)
      → piece_then at (b ∷ w) s p (λ t n. lex_from t (at + 1) n w) ≡ Ok ts → AreSound z ts
  piece-sound s (piece.Gap n) ts is go e = go s (n - 1) ts e
  piece-sound s (piece.Token k n) ts is go e =
      let t : Token = record { kind = k; at = at; len = n } in
      let f : (us : List Token) × (lex_from (sign_after (take n (b ∷ w)) k) (at + 1) (n - 1) w ≡ Ok us) × (t ∷ us ≡ ts) = split t _ ts e in
      subst (AreSound z) f.2 (subst (λ v. IsSound k (take n v)) (sym here) is, go (sign_after (take n (b ∷ w)) k) (n - 1) f.0 f.1)
  piece-sound s (piece.Bad c) ts is go e = absurd (cc)

lex-sound : (z w : Text) (s : Bool) (at n : ℕ) (ts : List Token) → drop at z ≡ w → lex_from s at n w ≡ Ok ts → AreSound z ts
lex-sound z [] s at n ts h e = let f : [] ≡ ts = cc in subst (AreSound z) f tt
lex-sound z (b ∷ w) s at (suc n) ts h e = lex-sound z w s (at + 1) n ts (next z at b w h) e
lex-sound z (b ∷ w) s at zero ts h e =
    piece-sound z b w at h s (scan s (b ∷ w)) ts (scan-sound s b w) (λ t n us f. lex-sound z w t (at + 1) n us (next z at b w h) f) e

ok-inside : (b : Bool) (f : Fault) (o : Outcome) (ts : List Token) → (if b then o else Err f) ≡ Ok ts → o ≡ Ok ts
ok-inside true f o ts h = h
ok-inside false f o ts h = absurd (cc)

tokens-sound : (z : Text) (ts : List Token) → tokens_of z ≡ Ok ts → AreSound z ts
unfolding tokens_in
tokens-sound z ts h = lex-sound z z true 0 0 ts refl (ok-inside (is_utf8 z) _ (tokens_in z) ts h)

-- ---- tokens with their bytes

-- what is true of each token of a text
abbrev pub AreSourced : List Lexeme → Type 0
AreSourced [] = Unit {0}
AreSourced (l ∷ ls) = IsSound l.kind l.text × IsSpelledWell l.kind l.text × AreSourced ls

both-sourced : (z : Text) (ts : List Token) → AreSound z ts → All (λ t. IsSpelledWell t.kind (text_of z t)) ts → AreSourced (lexemes z ts)
both-sourced z [] h k = tt
both-sourced z (t ∷ ts) h k = (h.0, k 0 t (omega arith), both-sourced z ts h.1 (λ i d l. k (suc i) d (omega arith)))

pub tokens-sourced : (z : Text) (ts : List Token) → tokens_of z ≡ Ok ts → AreSourced (lexemes z ts)
tokens-sourced z ts h = both-sourced z ts (tokens-sound z ts h) (tokens_are_spelled_well z ts h)
