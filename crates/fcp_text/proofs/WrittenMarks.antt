-- What is written is cut into the same tokens again: marks.
use Rattle.std.proofs.Common.{◌≡◌, ℕ, zero, suc, ◌+◌, ◌≤◌, Bool, true, false, List, [], ◌∷◌, ◌++◌, length, refl, ap, subst, arith, Some}
use Rattle.std.specs.Prelude.{slice_index, slice_get, ◌==◌, ◌&&◌, ◌||◌, nat_eq, nat_lt, codes}
use Rattle.std.specs.Bool.{OnTrue}
use Rattle.std.specs.Char.{is_ascii_digit, is_ascii_lowercase, is_ascii_uppercase}
use Rattle.std.specs.List.{list_all}
use Rattle.std.proofs.lemmas.Bool.Decides.{nat_tests}
use Rattle.fcp_text.specs.declared.pieces.Kind.TheVariants as kind
use Rattle.fcp_text.specs.declared.pieces.Piece.{Piece}
use Rattle.fcp_text.specs.declared.pieces.Piece.TheVariants as piece
use Rattle.fcp_text.specs.Bytes.{Text, is_blank}
use Rattle.fcp_text.specs.Marks.{mark, marks}
use Rattle.fcp_text.specs.Numbers.{begins_number}
use Rattle.fcp_text.specs.Pieces.{scan, mark_piece}
use Rattle.fcp_text.specs.Tokens.{lex_from, front, sign_after}
use Rattle.fcp_text.proofs.Choices.{and-first, and-second, passed}
use Rattle.fcp_text.proofs.WrittenWords.{lex-piece}
use Rattle.fcp_text.specs.Signs as signs

-- what follows makes no longer mark of `=`, `>`, `-` or `:`, and no number of `-`
pub record EndsMark (z : Text) : Type 0 where
  pub no_equal : nat_eq 61 (slice_index z 0) ≡ false
  pub no_minus : nat_eq 45 (slice_index z 0) ≡ false
  pub no_colon : nat_eq 58 (slice_index z 0) ≡ false
  pub no_less : nat_eq 60 (slice_index z 0) ≡ false
  pub no_back : nat_eq 92 (slice_index z 0) ≡ false
  pub no_digit : is_ascii_digit (slice_index z 0) ≡ false

-- such a text behind `=`, `>`, `-` and `:`; any text behind the others
abbrev pub MayFollow : ℕ → Text → Type 0
MayFollow n z = OnTrue (n == signs.equals || n == signs.greater || n == signs.minus || n == signs.colon) (EndsMark z)

-- ---- the mark of a text that begins with one of these four

equal-mark : (z : Text) → EndsMark z → mark (61 ∷ z) ≡ Some (signs.equals, 1)
unfolding mark
equal-mark [] h = refl
equal-mark (c ∷ []) h = rw (h.no_equal, h.no_less, h.no_colon, h.no_back) refl
equal-mark (c ∷ d ∷ z) h = rw (h.no_equal, h.no_less, h.no_colon, h.no_back) refl

colon-mark : (z : Text) → EndsMark z → mark (58 ∷ z) ≡ Some (signs.colon, 1)
unfolding mark
colon-mark [] h = refl
colon-mark (c ∷ z) h = rw (h.no_equal, h.no_minus) refl

greater-mark : (z : Text) → EndsMark z → mark (62 ∷ z) ≡ Some (signs.greater, 1)
unfolding mark
greater-mark [] h = refl
greater-mark (c ∷ z) h = rw h.no_equal refl

-- ---- pieces that begin with the byte of a mark

-- no number begins here
no-sign : (s : Bool) (b : ℕ) (z : Text) → is_ascii_digit b ≡ false → (b == 45) ≡ false → begins_number s (b ∷ z) ≡ false
no-sign s b z h g = neither (is_ascii_digit b) s (b == 45) (is_ascii_digit (slice_index z 0)) h g
  where
    neither : (d s m e : Bool) → d ≡ false → m ≡ false → (d || (s && m && e)) ≡ false
    neither true s m e h g = h
    neither false false m e h g = refl
    neither false true true e h g = absurd (cc)
    neither false true false e h g = refl

no-number : (s : Bool) (z : Text) → is_ascii_digit (slice_index z 0) ≡ false → begins_number s (45 ∷ z) ≡ false
no-number true z h = h
no-number false z h = refl

-- the piece at the front of a text that begins with the mark
abbrev P : Text × ℕ → Type 0
P m = (s : Bool) (rest : Text) → MayFollow m.1 rest → scan s (m.0 ++ rest) ≡ piece.Token (kind.Mark m.1) (length m.0)

-- the same of each mark of a table
abbrev Each : List (Text × ℕ) → Type 0
Each [] = Unit {0}
Each (m ∷ ms) = P m × Each ms

-- a byte that begins no gap, no word and no quoted string
abbrev IsMarkFirst : ℕ → Type 0
IsMarkFirst b =
    (is_blank b ≡ false) × ((b == 37) ≡ false) × (is_ascii_lowercase b ≡ false) × ((is_ascii_uppercase b || b == 95) ≡ false)
    × ((b == 39 || b == 34) ≡ false)

from : (s : Bool) (b : ℕ) (z : Text) (p : Piece) → IsMarkFirst b → begins_number s (b ∷ z) ≡ false → mark_piece (mark (b ∷ z)) ≡ p
    → scan s (b ∷ z) ≡ p
unfolding scan
from s b z p f n e =
    passed (is_blank b) _ _ _ f.0 (passed (b == 37) _ _ _ f.1 (passed (is_ascii_lowercase b) _ _ _ f.2
    (passed (is_ascii_uppercase b || b == 95) _ _ _ f.3
    (passed (b == 39 || b == 34) _ _ _ f.4 (passed (begins_number s (b ∷ z)) _ _ _ n e)))))

plain : (s : Bool) (b : ℕ) (z : Text) (p : Piece) → IsMarkFirst b → is_ascii_digit b ≡ false → (b == 45) ≡ false
    → mark_piece (mark (b ∷ z)) ≡ p → scan s (b ∷ z) ≡ p
plain s b z p f d m e = from s b z p f (no-sign s b z d m) e

mark-not_same : P (codes "\\==", signs.not_same)
unfolding mark
mark-not_same s rest h = plain s 92 (61 ∷ 61 ∷ rest) _ (refl, refl, refl, refl, refl) refl refl refl

mark-equal : P (codes "=:=", signs.equal)
unfolding mark
mark-equal s rest h = plain s 61 (58 ∷ 61 ∷ rest) _ (refl, refl, refl, refl, refl) refl refl refl

mark-not_equal : P (codes "=\\=", signs.not_equal)
unfolding mark
mark-not_equal s rest h = plain s 61 (92 ∷ 61 ∷ rest) _ (refl, refl, refl, refl, refl) refl refl refl

mark-if_sign : P (codes ":-", signs.if_sign)
unfolding mark
mark-if_sign s rest h = plain s 58 (45 ∷ rest) _ (refl, refl, refl, refl, refl) refl refl refl

mark-assign : P (codes ":=", signs.assign)
unfolding mark
mark-assign s rest h = plain s 58 (61 ∷ rest) _ (refl, refl, refl, refl, refl) refl refl refl

mark-same : P (codes "==", signs.same)
unfolding mark
mark-same s rest h = plain s 61 (61 ∷ rest) _ (refl, refl, refl, refl, refl) refl refl refl

mark-at_most : P (codes "=<", signs.at_most)
unfolding mark
mark-at_most s rest h = plain s 61 (60 ∷ rest) _ (refl, refl, refl, refl, refl) refl refl refl

mark-at_least : P (codes ">=", signs.at_least)
unfolding mark
mark-at_least s rest h = plain s 62 (61 ∷ rest) _ (refl, refl, refl, refl, refl) refl refl refl

mark-round_open : P (codes "(", signs.round_open)
unfolding mark
mark-round_open s rest h = plain s 40 rest _ (refl, refl, refl, refl, refl) refl refl refl

mark-round_close : P (codes ")", signs.round_close)
unfolding mark
mark-round_close s rest h = plain s 41 rest _ (refl, refl, refl, refl, refl) refl refl refl

mark-square_open : P (codes "[", signs.square_open)
unfolding mark
mark-square_open s rest h = plain s 91 rest _ (refl, refl, refl, refl, refl) refl refl refl

mark-square_close : P (codes "]", signs.square_close)
unfolding mark
mark-square_close s rest h = plain s 93 rest _ (refl, refl, refl, refl, refl) refl refl refl

mark-curly_open : P (codes "{", signs.curly_open)
unfolding mark
mark-curly_open s rest h = plain s 123 rest _ (refl, refl, refl, refl, refl) refl refl refl

mark-curly_close : P (codes "}", signs.curly_close)
unfolding mark
mark-curly_close s rest h = plain s 125 rest _ (refl, refl, refl, refl, refl) refl refl refl

mark-bar : P (codes "|", signs.bar)
unfolding mark
mark-bar s rest h = plain s 124 rest _ (refl, refl, refl, refl, refl) refl refl refl

mark-comma : P (codes ",", signs.comma)
unfolding mark
mark-comma s rest h = plain s 44 rest _ (refl, refl, refl, refl, refl) refl refl refl

mark-dot : P (codes ".", signs.dot)
unfolding mark
mark-dot s rest h = plain s 46 rest _ (refl, refl, refl, refl, refl) refl refl refl

mark-question : P (codes "?", signs.question)
unfolding mark
mark-question s rest h = plain s 63 rest _ (refl, refl, refl, refl, refl) refl refl refl

mark-equals : P (codes "=", signs.equals)
unfolding mark
mark-equals s rest h = plain s 61 rest _ (refl, refl, refl, refl, refl) refl refl (ap mark_piece (equal-mark rest h))

mark-less : P (codes "<", signs.less)
unfolding mark
mark-less s rest h = plain s 60 rest _ (refl, refl, refl, refl, refl) refl refl refl

mark-greater : P (codes ">", signs.greater)
unfolding mark
mark-greater s rest h = plain s 62 rest _ (refl, refl, refl, refl, refl) refl refl (ap mark_piece (greater-mark rest h))

mark-plus : P (codes "+", signs.plus)
unfolding mark
mark-plus s rest h = plain s 43 rest _ (refl, refl, refl, refl, refl) refl refl refl

mark-minus : P (codes "-", signs.minus)
unfolding mark
mark-minus s rest h = from s 45 rest _ (refl, refl, refl, refl, refl) (no-number s rest h.no_digit) refl

mark-times : P (codes "*", signs.times)
unfolding mark
mark-times s rest h = plain s 42 rest _ (refl, refl, refl, refl, refl) refl refl refl

mark-divide : P (codes "/", signs.divide)
unfolding mark
mark-divide s rest h = plain s 47 rest _ (refl, refl, refl, refl, refl) refl refl refl

mark-colon : P (codes ":", signs.colon)
unfolding mark
mark-colon s rest h = plain s 58 rest _ (refl, refl, refl, refl, refl) refl refl (ap mark_piece (colon-mark rest h))

mark-hash : P (codes "#", signs.hash)
unfolding mark
mark-hash s rest h = plain s 35 rest _ (refl, refl, refl, refl, refl) refl refl refl

each-mark : Each marks
each-mark = (
  mark-not_same,
  (
    mark-equal,
    (
      mark-not_equal,
      (
        mark-if_sign,
        (
          mark-assign,
          (
            mark-same,
            (
              mark-at_most,
              (
                mark-at_least,
                (
                  mark-round_open,
                  (
                    mark-round_close,
                    (
                      mark-square_open,
                      (
                        mark-square_close,
                        (
                          mark-curly_open,
                          (
                            mark-curly_close,
                            (
                              mark-bar,
                              (
                                mark-comma,
                                (
                                  mark-dot,
                                  (
                                    mark-question,
                                    (
                                      mark-equals,
                                      (
                                        mark-less,
                                        (
                                          mark-greater,
                                          (
                                            mark-plus,
                                            (mark-minus, (mark-times, (mark-divide, (mark-colon, (mark-hash, tt))))),
                                          ),
                                        ),
                                      ),
                                    ),
                                  ),
                                ),
                              ),
                            ),
                          ),
                        ),
                      ),
                    ),
                  ),
                ),
              ),
            ),
          ),
        ),
      ),
    ),
  ),
)

row : (ms : List (Text × ℕ)) (k : ℕ) (m : Text × ℕ) → Each ms → slice_get ms k ≡ Some m → P m
row [] k m e h = absurd (cc)
row (l ∷ ms) zero m e h = let g : l ≡ m = cc in subst P g e.0
row (l ∷ ms) (suc k) m e h = row ms k m e.1 h

some-byte : (ms : List (Text × ℕ)) (k : ℕ) (m : Text × ℕ) → list_all (λ m. nat_lt 0 (length m.0)) ms ≡ true → slice_get ms k ≡ Some m
    → nat_lt 0 (length m.0) ≡ true
some-byte [] k m e h = absurd (cc)
some-byte (l ∷ ms) zero m e h = let g : l ≡ m = cc in subst (λ m. nat_lt 0 (length m.0) ≡ true) g (and-first (nat_lt 0 (length l.0)) _ e)
some-byte (l ∷ ms) (suc k) m e h = some-byte ms k m (and-second (nat_lt 0 (length l.0)) _ e) h

-- a mark of the table
pub lex-mark : (s : Bool) (at k n : ℕ) (m rest : Text) → slice_get marks k ≡ Some (m, n) → MayFollow n rest
    → lex_from s at 0 (m ++ rest) ≡ front (record { kind = kind.Mark n; at = at; len = length m } ∷ [])
    (lex_from (sign_after m (kind.Mark n)) (at + length m) 0 rest)
lex-mark s at k n m rest h f =
    lex-piece s at m rest (kind.Mark n) (above (length m) (some-byte marks k (m, n) refl h)) (row marks k (m, n) each-mark h s rest f)
  where
    above : (n : ℕ) → nat_lt 0 n ≡ true → 1 ≤ n
    above n h = grind (arith, nat_tests)
