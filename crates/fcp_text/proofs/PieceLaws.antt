-- What a piece at the front of a text is: where it ends, and of which bytes it is.
use Rattle.std.proofs.Common.{◌≡◌, ℕ, zero, suc, ◌+◌, ◌-◌, ◌≤◌, ◌<◌, lit<, Bool, true, false, List, [], ◌∷◌, take, drop, length, get_or, refl, ap, ◌∙◌, sym, subst, arith, cond, Option, Some, None}
use Rattle.std.specs.Prelude.{◌&&◌, ◌||◌, ◌==◌, not, nat_eq, nat_lt, slice_index, option_map, find, ℤ}
use Rattle.std.specs.Char.{is_ascii_lowercase, is_ascii_uppercase, is_ascii_digit}
use Rattle.std.specs.List.{starts_with, list_all}
use Rattle.std.specs.Str.{IsAscii}
use Rattle.std.proofs.lemmas.List.Sums.{prefix_len-le-length}
use Rattle.std.proofs.lemmas.Bool.Decides.{nat_tests}
use Rattle.fcp_text.specs.declared.bytes.Class.{Class}
use Rattle.fcp_text.specs.declared.bytes.Class.TheVariants as class
use Rattle.fcp_text.specs.declared.pieces.Kind.{Kind}
use Rattle.fcp_text.specs.declared.pieces.Kind.TheVariants as kind
use Rattle.fcp_text.specs.declared.pieces.Piece.{Piece}
use Rattle.fcp_text.specs.declared.pieces.Piece.TheVariants as piece
use Rattle.fcp_text.specs.Bytes.{Text, is_in, is_blank, leading}
use Rattle.fcp_text.specs.Marks.{mark, mark_in, marks}
use Rattle.fcp_text.specs.Numbers.{begins_number, number, sign_len}
use Rattle.fcp_text.specs.QuotedStrings.{closing}
use Rattle.fcp_text.specs.Pieces.{scan, quoted, quoted_piece, number_piece, mark_piece}
use Rattle.fcp_text.proofs.Choices.{by_test, and-first, and-second}

-- ---- runs of bytes

leading_some : (c : Class) (b : ℕ) (z : Text) → is_in c b ≡ true → 1 ≤ leading c (b ∷ z)
leading_some c b z h = subst (λ x. 1 ≤ cond x (1 + leading c z) 0) (sym h) (omega arith)

word-below : (b : ℕ) → is_in class.Word b ≡ true → b < 128
word-below b h = grind (arith, nat_tests)

-- the next byte, where the word goes on
one-more : (c : Bool) (b n i : ℕ) (z : Text) → (c ≡ true → b < 128) → ((i : ℕ) → get_or (take n z) i 0 < 128)
    → get_or (take (cond c (suc n) 0) (b ∷ z)) i 0 < 128
one-more true b n zero z h r = h refl
one-more true b n (suc i) z h r = r i
one-more false b n i z h r = lit< tt

word_is_ascii : (z : Text) → IsAscii (take (leading class.Word z) z)
word_is_ascii [] i = lit< tt
word_is_ascii (b ∷ z) i =
    let n : ℕ = leading class.Word z in
    let e : 1 + n ≡ suc n = omega arith in
    subst (λ m. get_or (take (cond (is_in class.Word b) m 0) (b ∷ z)) i 0 < 128) (sym e)
    (one-more (is_in class.Word b) b n i z (word-below b) (word_is_ascii z))

-- ---- quotes

-- the closing quote is at index k of the text behind the opening one
abbrev Closes : ℕ → ℕ → Text → ℕ → Type 0
Closes quote at z end = (k : ℕ) × (end ≡ at + suc k) × (k < length z) × (get_or z k 0 ≡ quote)

closes-cons : (quote at b end : ℕ) (z : Text) → Closes quote (at + 1) z end → Closes quote at (b ∷ z) end
closes-cons quote at b end z c =
    let e : end ≡ (at + 1) + suc c.0 = c.1 in
    let l : c.0 < length z = c.2 in
    (suc c.0, omega arith, omega arith, c.3)

closes-here : (quote at b end : ℕ) (z : Text) → (b == quote) ≡ true → Some (at + 1) ≡ Some end → Closes quote at (b ∷ z) end
closes-here quote at b end z h e =
    let g : at + 1 ≡ end = cc in
    (0, omega arith, omega arith, grind (arith, nat_tests))

closing-closes : (quote at end : ℕ) (second : Bool) (z : Text) → closing quote second at z ≡ Some end → Closes quote at z end
closing-closes quote at end second [] e = absurd (cc)
closing-closes quote at end true (b ∷ z) e = closes-cons quote at b end z (closing-closes quote (at + 1) end false z e)
closing-closes quote at end false (b ∷ z) e =
    by_test (λ o. o ≡ Some end → Closes quote at (b ∷ z) end) (b == 10) None _ (λ h f. absurd (cc))
    (λ h. by_test (λ o. o ≡ Some end → Closes quote at (b ∷ z) end) (b == quote && not (slice_index z 0 == quote)) (Some (at + 1))
    (closing quote (b == quote) (at + 1) z)
    (λ g f. closes-here quote at b end z (and-first (b == quote) _ g) f)
    (λ g f. closes-cons quote at b end z (closing-closes quote (at + 1) end (b == quote) z f)))
    e

-- ---- marks and numbers

abbrev IsShortened : Text → Option (ℕ × ℕ) → Type 0
IsShortened z None = Unit {0}
IsShortened z (Some m) = (1 ≤ m.1) × (m.1 ≤ length z)

prefix-short : (row z : Text) → starts_with nat_eq z row ≡ true → length row ≤ length z
prefix-short [] z h = omega arith
prefix-short (r ∷ row) [] h = absurd (cc)
prefix-short (r ∷ row) (b ∷ z) h = let l : length row ≤ length z = prefix-short row z (and-second (nat_eq r b) _ h) in omega arith

mark_in-short : (table : List (Text × ℕ)) (z : Text) → list_all (λ m. nat_lt 0 (length m.0)) table ≡ true → IsShortened z (mark_in table z)
mark_in-short [] z h = tt
mark_in-short (m ∷ table) z h =
    by_test (λ o. IsShortened z (option_map (λ m. (m.1, length m.0)) o)) (starts_with nat_eq z m.0) (Some m)
    (find (λ m. starts_with nat_eq z m.0) table)
    (λ e. (above (length m.0) (and-first (nat_lt 0 (length m.0)) _ h), prefix-short m.0 z e))
    (λ e. mark_in-short table z (and-second (nat_lt 0 (length m.0)) _ h))
  where
    above : (n : ℕ) → nat_lt 0 n ≡ true → 1 ≤ n
    above n h = grind (arith, nat_tests)

mark-short : (z : Text) → IsShortened z (mark z)
unfolding mark
mark-short z = mark_in-short marks z refl

abbrev IsNumberLen : Text → Option (ℤ × ℕ) → Type 0
IsNumberLen z None = Unit {0}
IsNumberLen z (Some n) = (1 ≤ n.1) × (n.1 ≤ length z)

ascii-digit-first : (s : Bool) (b : ℕ) (z : Text) → begins_number s (b ∷ z) ≡ true → (b == 45) ≡ false → is_ascii_digit b ≡ true
ascii-digit-first s b z h e = digit-or (is_ascii_digit b) s (b == 45) (is_ascii_digit (slice_index z 0)) h e
  where
    digit-or : (d s m e : Bool) → (d || (s && m && e)) ≡ true → m ≡ false → d ≡ true
    digit-or true s m e h g = refl
    digit-or false true true e h g = absurd (cc)
    digit-or false true false e h g = h
    digit-or false false m e h g = h

-- a sign and the digits
number-len : (s : Bool) (b : ℕ) (z : Text) → begins_number s (b ∷ z) ≡ true
    → (1 ≤ sign_len (b ∷ z) + leading class.Digit (drop (sign_len (b ∷ z)) (b ∷ z)))
    × (sign_len (b ∷ z) + leading class.Digit (drop (sign_len (b ∷ z)) (b ∷ z)) ≤ length (b ∷ z))
number-len s b z h =
    by_test (λ k. (1 ≤ k + leading class.Digit (drop k (b ∷ z))) × (k + leading class.Digit (drop k (b ∷ z)) ≤ length (b ∷ z)))
    (b == 45) 1 0
    (λ e. let l : leading class.Digit z ≤ length z = prefix_len-le-length (is_in class.Digit) z in (omega arith, omega arith))
    (λ e. let l : leading class.Digit (b ∷ z) ≤ length (b ∷ z) = prefix_len-le-length (is_in class.Digit) (b ∷ z) in
    let m : 1 ≤ leading class.Digit (b ∷ z) = leading_some class.Digit b z (ascii-digit-first s b z h e) in
    (omega arith, omega arith))

number_of-len : (z : Text) (k : ℕ) (o : Option ℤ) → (1 ≤ k) × (k ≤ length z) → IsNumberLen z (option_map (λ n. (n, k)) o)
number_of-len z k (Some n) h = h
number_of-len z k None h = tt

number-short : (s : Bool) (b : ℕ) (z : Text) → begins_number s (b ∷ z) ≡ true → IsNumberLen (b ∷ z) (number (b ∷ z))
unfolding number
number-short s b z h = number_of-len (b ∷ z) _ _ (number-len s b z h)

-- ---- pieces

-- a quote, and the same quote n bytes on, as the last of them
pub record IsBetweenQuotes (n : ℕ) (z : Text) : Type 0 where
  pub two : 2 ≤ n
  pub quote : (get_or z 0 0 == 39 || get_or z 0 0 == 34) ≡ true
  pub last : get_or z (n - 1) 0 ≡ get_or z 0 0

-- the bytes of a token of n bytes at the front of a text
abbrev pub IsSpelled : Kind → ℕ → Text → Type 0
IsSpelled kind.Name n z = IsAscii (take n z)
IsSpelled kind.Variable n z = IsAscii (take n z)
IsSpelled kind.Quoted n z = IsBetweenQuotes n z
IsSpelled (kind.Int i) n z = Unit {0}
IsSpelled (kind.Mark m) n z = Unit {0}

abbrev pub IsPieceOf : Text → Piece → Type 0
IsPieceOf z (piece.Gap n) = (1 ≤ n) × (n ≤ length z)
IsPieceOf z (piece.Token k n) = (1 ≤ n) × (n ≤ length z) × IsSpelled k n z
IsPieceOf z (piece.Bad c) = Unit {0}

run-is : (c : Class) (b : ℕ) (z : Text) → is_in c b ≡ true → (1 ≤ leading c (b ∷ z)) × (leading c (b ∷ z) ≤ length (b ∷ z))
run-is c b z h = (leading_some c b z h, prefix_len-le-length (is_in c) (b ∷ z))

lower-word : (b : ℕ) → is_ascii_lowercase b ≡ true → is_in class.Word b ≡ true
lower-word b h = grind (arith, nat_tests)

upper-word : (b : ℕ) → (is_ascii_uppercase b || b == 95) ≡ true → is_in class.Word b ≡ true
upper-word b h = grind (arith, nat_tests)

percent-line : (b : ℕ) → (b == 37) ≡ true → is_in class.Line b ≡ true
percent-line b h = grind (arith, nat_tests)

-- a quote is ASCII
pub quote-below : (b : ℕ) → (b == 39 || b == 34) ≡ true → b < 128
quote-below b h = grind (arith, nat_tests)

quoted_by-is : (b : ℕ) (z : Text) (o : Option ℕ) → (b == 39 || b == 34) ≡ true → ((end : ℕ) → o ≡ Some end → Closes b 1 z end)
    → IsPieceOf (b ∷ z) (quoted_piece o)
quoted_by-is b z None q h = tt
quoted_by-is b z (Some end) q h =
    let c : Closes b 1 z end = h end refl in
    let k : ℕ = c.0 in
    let e : end ≡ 1 + suc k = c.1 in
    let m : k < length z = c.2 in
    let g : end - 1 ≡ suc k = omega arith in
    (omega arith, omega arith, record { two = omega arith; quote = q; last = ap (λ i. get_or (b ∷ z) i 0) g ∙ c.3 })

quoted-is : (b : ℕ) (z : Text) → (b == 39 || b == 34) ≡ true → IsPieceOf (b ∷ z) (quoted (b ∷ z))
unfolding quoted
quoted-is b z h = quoted_by-is b z (closing b false 1 z) h (λ end. closing-closes b 1 end false z)

number_piece-is : (z : Text) (o : Option (ℤ × ℕ)) → IsNumberLen z o → IsPieceOf z (number_piece o)
number_piece-is z None h = tt
number_piece-is z (Some n) h = (h.0, h.1, tt)

mark_piece-is : (z : Text) (o : Option (ℕ × ℕ)) → IsShortened z o → IsPieceOf z (mark_piece o)
mark_piece-is z None h = tt
mark_piece-is z (Some m) h = (h.0, h.1, tt)

pub scan-is : (s : Bool) (b : ℕ) (z : Text) → IsPieceOf (b ∷ z) (scan s (b ∷ z))
unfolding scan
scan-is s b z =
    by_test (IsPieceOf (b ∷ z)) (is_blank b) _ _ (λ h. (omega arith, omega arith))
    (λ h. by_test (IsPieceOf (b ∷ z)) (b == 37) _ _ (λ h. run-is class.Line b z (percent-line b h))
    (λ h. by_test (IsPieceOf (b ∷ z)) (is_ascii_lowercase b) _ _
    (λ h. let r : (1 ≤ leading class.Word (b ∷ z))
    × (leading class.Word (b ∷ z) ≤ length (b ∷ z)) = run-is class.Word b z (lower-word b h) in (r.0, r.1, word_is_ascii (b ∷ z)))
    (λ h. by_test (IsPieceOf (b ∷ z)) (is_ascii_uppercase b || b == 95) _ _
    (λ h. let r : (1 ≤ leading class.Word (b ∷ z))
    × (leading class.Word (b ∷ z) ≤ length (b ∷ z)) = run-is class.Word b z (upper-word b h) in (r.0, r.1, word_is_ascii (b ∷ z)))
    (λ h. by_test (IsPieceOf (b ∷ z)) (b == 39 || b == 34) _ _ (λ h. quoted-is b z h)
    (λ h. by_test (IsPieceOf (b ∷ z)) (begins_number s (b ∷ z)) _ _ (λ h. number_piece-is (b ∷ z) (number (b ∷ z)) (number-short s b z h))
    (λ h. mark_piece-is (b ∷ z) (mark (b ∷ z)) (mark-short (b ∷ z))))))))
