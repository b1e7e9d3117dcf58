-- Where the tokens of a text stand, and of which bytes they are.
use Rattle.std.proofs.Common.{◌≡◌, ℕ, zero, suc, ◌+◌, ◌-◌, ◌≤◌, ◌<◌, Bool, true, false, List, [], ◌∷◌, take, drop, length, get_or, refl, ap, ◌∙◌, sym, subst, arith}
use Rattle.std.specs.Prelude.{Ok, Err, All, slice_range, if◌then◌else◌}
use Rattle.std.specs.Str.{IsUtf8, is_utf8, IsCharBoundary}
use Rattle.std.proofs.lemmas.Str.{IsUtf8-from_is_utf8, IsUtf8-between, IsCharBoundary-before_ascii, IsCharBoundary-after_ascii}
use Rattle.std.proofs.lemmas.List.{drop-drop, get_or-drop}
use Rattle.fcp_model.specs.declared.fault.Fault.{Fault}
use Rattle.fcp_text.specs.declared.pieces.Kind.{Kind}
use Rattle.fcp_text.specs.declared.pieces.Kind.TheVariants as kind
use Rattle.fcp_text.specs.declared.pieces.Piece.{Piece}
use Rattle.fcp_text.specs.declared.pieces.Piece.TheVariants as piece
use Rattle.fcp_text.specs.declared.lexer.Token.{Token}
use Rattle.fcp_text.specs.Bytes.{Text}
use Rattle.fcp_text.specs.Pieces.{scan}
use Rattle.fcp_text.specs.Tokens.{Outcome, front, lex_from, piece_then, sign_after, text_of, tokens_in, tokens_of}
use Rattle.fcp_text.specs.TokenLaws.{StandInOrder, TokensStandInOrder, TokensAreFew, IsSpelledWell, TokensAreSpelledWell}
use Rattle.fcp_text.proofs.PieceLaws.{IsSpelled, IsBetweenQuotes, IsPieceOf, scan-is, quote-below}
use Rattle.fcp_text.proofs.QuoteLaws.{unquoted-IsUtf8}

-- the token lies within the text, and its bytes are those of its kind
pub record IsTokenOf (z : Text) (t : Token) : Type 0 where
  pub some : 1 ≤ t.len
  pub within : t.at + t.len ≤ length z
  pub spelled : IsSpelled t.kind t.len (drop t.at z)

-- the tokens stand one behind the other, from a place on
abbrev pub Stand : Text → ℕ → List Token → Type 0
Stand z from [] = from ≤ length z
Stand z from (t ∷ ts) = (from ≤ t.at) × IsTokenOf z t × Stand z (t.at + t.len) ts

earlier : (z : Text) (before from : ℕ) (ts : List Token) → before ≤ from → Stand z from ts → Stand z before ts
earlier z before from [] l h = omega arith
earlier z before from (t ∷ ts) l h = let f : from ≤ t.at = h.0 in (omega arith, h.1, h.2)

split : (t : Token) (o : Outcome) (ts : List Token) → front (t ∷ []) o ≡ Ok ts → (us : List Token) × (o ≡ Ok us) × (t ∷ us ≡ ts)
split t (Ok us) ts h = (us, refl, cc)
split t (Err f) ts h = absurd (cc)

-- the rest behind one byte
next : (z : Text) (at b : ℕ) (w : Text) → drop at z ≡ b ∷ w → drop (at + 1) z ≡ w
next z at b w h =
    sym (drop-drop 1 at z) ∙ ap (drop 1) h

module _ (z : Text) (b : ℕ) (w : Text) (at : ℕ) (here : drop at z ≡ b ∷ w) (len : at + length (b ∷ w) ≡ length z) where
  piece-stands : (s : Bool) (p : Piece) (ts : List Token) → IsPieceOf (b ∷ w) p
      → ((t : Bool) (n : ℕ) (us : List Token) → n ≤ length w → lex_from t (at + 1) n w ≡ Ok us → Stand z ((at + 1) + n) us)
      → piece_then at (b ∷ w) s p (λ t n. lex_from t (at + 1) n w) ≡ Ok ts → Stand z (at + 0) ts
  piece-stands s (piece.Gap n) ts is go e =
      let l : 1 ≤ n = is.0 in
      let m : n ≤ length (b ∷ w) = is.1 in
      earlier z (at + 0) ((at + 1) + (n - 1)) ts (omega arith) (go s (n - 1) ts (omega arith) e)
  piece-stands s (piece.Token k n) ts is go e =
      let t : Token = record { kind = k; at = at; len = n } in
      let l : 1 ≤ n = is.0 in
      let m : n ≤ length (b ∷ w) = is.1 in
      let f : (us : List Token) × (lex_from (sign_after (take n (b ∷ w)) k) (at + 1) (n - 1) w ≡ Ok us) × (t ∷ us ≡ ts) = split t _ ts e in
      let g : (at + 1) + (n - 1) ≡ at + n = omega arith in
      let within : at + n ≤ length z = omega arith in
      subst (Stand z (at + 0)) f.2 (
        omega arith,
        record { some = l; within = within; spelled = subst (IsSpelled k n) (sym here) is.2 },
        subst (λ i. Stand z i f.0) g (go (sign_after (take n (b ∷ w)) k) (n - 1) f.0 (omega arith) f.1),
      )
  piece-stands s (piece.Bad c) ts is go e = absurd (cc)

lex-stands : (z w : Text) (s : Bool) (at n : ℕ) (ts : List Token) → drop at z ≡ w → at + length w ≡ length z → n ≤ length w
    → lex_from s at n w ≡ Ok ts → Stand z (at + n) ts
lex-stands z [] s at zero ts h l m e = let f : [] ≡ ts = cc in subst (Stand z (at + 0)) f (omega arith)
lex-stands z [] s at (suc n) ts h l m e = absurd (omega arith)
lex-stands z (b ∷ w) s at (suc n) ts h l m e =
    let g : (at + 1) + n ≡ at + suc n = omega arith in
    subst (λ i. Stand z i ts) g (lex-stands z w s (at + 1) n ts (next z at b w h) (omega arith) (omega arith) e)
lex-stands z (b ∷ w) s at zero ts h l m e =
    piece-stands z b w at h l s (scan s (b ∷ w)) ts (scan-is s b w)
    (λ t n us k f. lex-stands z w t (at + 1) n us (next z at b w h) (omega arith) k f) e

-- ---- the tokens of a text

ok-inside : (b : Bool) (z : Text) (f : Fault) (o : Outcome) (ts : List Token) → (if b then o else Err f) ≡ Ok ts → (b ≡ true) × (o ≡ Ok ts)
ok-inside true z f o ts h = (refl, h)
ok-inside false z f o ts h = absurd (cc)

-- a text with tokens is UTF-8
pub tokens_of-IsUtf8 : (z : Text) (ts : List Token) → tokens_of z ≡ Ok ts → IsUtf8 z
tokens_of-IsUtf8 z ts h = IsUtf8-from_is_utf8 z (ok-inside (is_utf8 z) z _ (tokens_in z) ts h).0

pub tokens-stand : (z : Text) (ts : List Token) → tokens_of z ≡ Ok ts → Stand z 0 ts
unfolding tokens_in
tokens-stand z ts h = lex-stands z z true 0 0 ts refl (omega arith) (omega arith) (ok-inside (is_utf8 z) z _ (tokens_in z) ts h).1

in-order : (z : Text) (from : ℕ) (ts : List Token) → Stand z from ts → StandInOrder from (length z) ts
in-order z from [] h = h
in-order z from (t ∷ ts) h = (h.0, h.1.some, in-order z (t.at + t.len) ts h.2)

pub tokens_stand_in_order : TokensStandInOrder
tokens_stand_in_order z ts h = in-order z 0 ts (tokens-stand z ts h)

few : (from end : ℕ) (ts : List Token) → StandInOrder from end ts → from + length ts ≤ end
few from end [] h = omega arith
few from end (t ∷ ts) h =
    let f : (t.at + t.len) + length ts ≤ end = few (t.at + t.len) end ts h.2 in
    let a : from ≤ t.at = h.0 in
    let b : 1 ≤ t.len = h.1 in
    omega arith

pub tokens_are_few : TokensAreFew
tokens_are_few z ts h = let f : 0 + length ts ≤ length z = few 0 (length z) ts (tokens_stand_in_order z ts h) in omega arith

each : (z : Text) (from : ℕ) (ts : List Token) → Stand z from ts → All (IsTokenOf z) ts
each z from [] h k d l = absurd (omega arith)
each z from (t ∷ ts) h zero d l = h.1
each z from (t ∷ ts) h (suc k) d l = each z (t.at + t.len) ts h.2 k d (omega arith)

-- each token of a text lies within it, and its bytes are those of its kind
pub tokens-of : (z : Text) (ts : List Token) → tokens_of z ≡ Ok ts → All (IsTokenOf z) ts
tokens-of z ts h = each z 0 ts (tokens-stand z ts h)

-- ---- the bytes of a token

-- the bytes between two bytes of ASCII
cut-IsUtf8 : (z : Text) (at n : ℕ) → IsUtf8 z → 1 ≤ n → at + n ≤ length z → get_or (drop at z) 0 0 < 128
    → get_or (drop at z) (n - 1) 0 < 128 → IsUtf8 (take n (drop at z))
cut-IsUtf8 z at n u l m f g =
    let a : get_or z (at + 0) 0 < 128 = subst (λ b. b < 128) (get_or-drop at z 0 0) f in
    let b : get_or z (at + (n - 1)) 0 < 128 = subst (λ b. b < 128) (get_or-drop at z (n - 1) 0) g in
    let e : at + 0 ≡ at = omega arith in
    let i : (at + (n - 1)) + 1 ≡ at + n = omega arith in
    let j : (at + n) - at ≡ n = omega arith in
    subst (λ k. IsUtf8 (take k (drop at z))) j
    (IsUtf8-between z at (at + n) u (omega arith) (IsCharBoundary-before_ascii z at (omega arith) (subst (λ k. get_or z k 0 < 128) e a))
    (subst (IsCharBoundary z) i (IsCharBoundary-after_ascii z (at + (n - 1)) u (omega arith) b)))

first-below : (n : ℕ) (z : Text) → IsBetweenQuotes n z → get_or z 0 0 < 128
first-below n z h = quote-below (get_or z 0 0) h.quote

last-below : (n : ℕ) (z : Text) → IsBetweenQuotes n z → get_or z (n - 1) 0 < 128
last-below n z h = subst (λ b. b < 128) (sym h.last) (first-below n z h)

quoted-spelled : (z : Text) (t : Token) → IsTokenOf z t → t.kind ≡ kind.Quoted → IsBetweenQuotes t.len (drop t.at z)
quoted-spelled z t is e = subst (λ k. IsSpelled k t.len (drop t.at z)) e is.spelled

-- the bytes of a token, as code cuts them out
pub slice_range-text_of : (z : Text) (t : Token) → slice_range z t.at (t.at + t.len) ≡ text_of z t
slice_range-text_of z t = let e : (t.at + t.len) - t.at ≡ t.len = omega arith in ap (λ n. take n (drop t.at z)) e

-- a quoted token is UTF-8, with its quotes
pub quoted_token-IsUtf8 : (z : Text) (t : Token) → IsUtf8 z → IsTokenOf z t → t.kind ≡ kind.Quoted → IsUtf8 (text_of z t)
quoted_token-IsUtf8 z t u is e =
    let q : IsBetweenQuotes t.len (drop t.at z) = quoted-spelled z t is e in
    cut-IsUtf8 z t.at t.len u is.some is.within (first-below t.len (drop t.at z) q) (last-below t.len (drop t.at z) q)

-- it has its two quotes
pub quoted_token-two : (z : Text) (t : Token) → IsTokenOf z t → t.kind ≡ kind.Quoted → 2 ≤ t.len
quoted_token-two z t is e = (quoted-spelled z t is e).two

inside-IsUtf8 : (z : Text) (at n : ℕ) → IsUtf8 z → at + n ≤ length z → IsBetweenQuotes n (drop at z)
    → IsUtf8 (slice_range z (at + 1) (at + n - 1))
inside-IsUtf8 z at n u m q =
    let l : 2 ≤ n = q.two in
    let a : get_or z (at + 0) 0 < 128 = subst (λ b. b < 128) (get_or-drop at z 0 0) (first-below n (drop at z) q) in
    let b : get_or z (at + (n - 1)) 0 < 128 = subst (λ b. b < 128) (get_or-drop at z (n - 1) 0) (last-below n (drop at z) q) in
    let e : at + 0 ≡ at = omega arith in
    let i : at + (n - 1) ≡ at + n - 1 = omega arith in
    IsUtf8-between z (at + 1) (at + n - 1) u (omega arith)
    (IsCharBoundary-after_ascii z at u (omega arith) (subst (λ k. get_or z k 0 < 128) e a))
    (IsCharBoundary-before_ascii z (at + n - 1) (omega arith) (subst (λ k. get_or z k 0 < 128) i b))

-- what is between them is UTF-8
pub quoted_inside-IsUtf8 : (z : Text) (t : Token) → IsUtf8 z → IsTokenOf z t → t.kind ≡ kind.Quoted
    → IsUtf8 (slice_range z (t.at + 1) (t.at + t.len - 1))
quoted_inside-IsUtf8 z t u is e = inside-IsUtf8 z t.at t.len u is.within (quoted-spelled z t is e)

first-of : (n : ℕ) (z : Text) → 1 ≤ n → get_or z 0 0 < 128 → get_or (take n z) 0 0 < 128
first-of zero z l h = absurd (omega arith)
first-of (suc n) [] l h = h
first-of (suc n) (b ∷ z) l h = h

well : (z : Text) (at n : ℕ) (k : Kind) → IsUtf8 z → 1 ≤ n → at + n ≤ length z → IsSpelled k n (drop at z)
    → IsSpelledWell k (take n (drop at z))
well z at n kind.Name u l m h = h
well z at n kind.Variable u l m h = h
well z at n kind.Quoted u l m h =
    let f : get_or (drop at z) 0 0 < 128 = first-below n (drop at z) h in
    unquoted-IsUtf8 (take n (drop at z)) (first-of n (drop at z) l f) (cut-IsUtf8 z at n u l m f (last-below n (drop at z) h))
well z at n (kind.Int i) u l m h = tt
well z at n (kind.Mark i) u l m h = tt

pub token-IsSpelledWell : (z : Text) (t : Token) → IsUtf8 z → IsTokenOf z t → IsSpelledWell t.kind (text_of z t)
token-IsSpelledWell z t u is = well z t.at t.len t.kind u is.some is.within is.spelled

pub tokens_are_spelled_well : TokensAreSpelledWell
tokens_are_spelled_well z ts h k d l = token-IsSpelledWell z (get_or ts k d) (tokens_of-IsUtf8 z ts h) (tokens-of z ts h k d l)
