-- What is written is cut into the same tokens again: strings between `'`.
use Rattle.std.proofs.Common.{◌≡◌, ℕ, ◌+◌, Bool, true, false, [], ◌∷◌, ◌++◌, length, length-append, append_assoc, refl, ap, ◌∙◌, sym, arith, Some, None}
use Rattle.std.specs.Prelude.{slice_index, ◌==◌, ◌&&◌, not, if◌then◌else◌}
use Rattle.std.specs.List.{list_all}
use Rattle.std.proofs.lemmas.Bool.Decides.{nat_tests}
use Rattle.fcp_model.specs.Spelling.{doubled, is_name, string_text}
use Rattle.fcp_text.specs.declared.bytes.Class.TheVariants as class
use Rattle.fcp_text.specs.declared.pieces.Kind.{Kind}
use Rattle.fcp_text.specs.declared.pieces.Kind.TheVariants as kind
use Rattle.fcp_text.specs.declared.pieces.Piece.TheVariants as piece
use Rattle.fcp_text.specs.Bytes.{Text, is_in}
use Rattle.fcp_text.specs.QuotedStrings.{closing, without_quotes, unquoted}
use Rattle.fcp_text.specs.Pieces.{scan, quoted, quoted_piece}
use Rattle.fcp_text.specs.Tokens.{lex_from, front, sign_after}
use Rattle.fcp_text.proofs.Choices.{and-first, and-second}
use Rattle.fcp_text.proofs.WrittenWords.{lex-piece, lex-name, EndsWord}

-- no line feed is in the text
abbrev pub IsLine : Text → Type 0
IsLine z = list_all (is_in class.Line) z ≡ true

-- no further quote is at the front of the text
abbrev pub EndsQuote : Text → Type 0
EndsQuote z = (slice_index z 0 == 39) ≡ false

-- one byte of the string, as it is or doubled
abbrev twice : Bool → ℕ → Text
twice c b = if c then 39 ∷ 39 ∷ [] else b ∷ []

closes-there : (at : ℕ) (rest : Text) → EndsQuote rest → closing 39 false at (39 ∷ rest) ≡ Some (at + 1)
closes-there at rest h = ap (λ c. if not c then Some (at + 1) else closing 39 true (at + 1) rest) h

over-one : (at b : ℕ) (z : Text) (c : Bool) → (b == 39) ≡ c → is_in class.Line b ≡ true
    → closing 39 false at (twice c b ++ z) ≡ closing 39 false (at + length (twice c b)) z
over-one at b z true h l = let e : (at + 1) + 1 ≡ at + 2 = omega arith in ap (λ k. closing 39 false k z) e
over-one at b z false h l =
    ap (λ c. if c then None else (if b == 39 && not (slice_index z 0 == 39) then Some (at + 1) else closing 39 (b == 39) (at + 1) z))
    (no-feed b l)
    ∙ ap (λ c. if c && not (slice_index z 0 == 39) then Some (at + 1) else closing 39 c (at + 1) z) h
  where
    no-feed : (b : ℕ) → is_in class.Line b ≡ true → (b == 10) ≡ false
    no-feed b l = grind (arith, nat_tests)

-- the closing quote is behind the doubled string
closing-doubled : (at : ℕ) (bs rest : Text) → IsLine bs → EndsQuote rest
    → closing 39 false at (doubled bs ++ 39 ∷ rest) ≡ Some (at + length (doubled bs) + 1)
closing-doubled at [] rest l e = let k : at + 1 ≡ at + 0 + 1 = omega arith in closes-there at rest e ∙ ap Some k
closing-doubled at (b ∷ bs) rest l e =
    let t : Text = twice (b == 39) b in
    let k : (at + length t) + length (doubled bs) + 1 ≡ at + length (t ++ doubled bs) + 1 = omega (arith, length-append t (doubled bs)) in
    ap (closing 39 false at) (append_assoc t (doubled bs) (39 ∷ rest))
    ∙ over-one at b (doubled bs ++ 39 ∷ rest) (b == 39) refl (and-first (is_in class.Line b) _ l)
    ∙ closing-doubled (at + length t) bs rest (and-second (is_in class.Line b) _ l) e ∙ ap Some k

-- a string between quotes, each quote in it doubled
abbrev pub between_quotes : Text → Text
between_quotes bs = 39 ∷ doubled bs ++ 39 ∷ []

scan-quoted : (s : Bool) (bs rest : Text) → IsLine bs → EndsQuote rest
    → scan s (between_quotes bs ++ rest) ≡ piece.Token kind.Quoted (length (between_quotes bs))
unfolding scan quoted
scan-quoted s bs rest l e =
    let k : 1 + length (doubled bs) + 1 ≡ length (between_quotes bs) = omega (arith, length-append (doubled bs) (39 ∷ [])) in
    ap (λ z. quoted_piece (closing 39 false 1 z)) (append_assoc (doubled bs) (39 ∷ []) rest)
    ∙ ap quoted_piece (closing-doubled 1 bs rest l e) ∙ ap (piece.Token kind.Quoted) k

-- a quoted string on one line
pub lex-quoted : (s : Bool) (at : ℕ) (bs rest : Text) → IsLine bs → EndsQuote rest
    → lex_from s at 0 (between_quotes bs ++ rest)
    ≡ front (record { kind = kind.Quoted; at = at; len = length (between_quotes bs) } ∷ [])
    (lex_from false (at + length (between_quotes bs)) 0 rest)
lex-quoted s at bs rest l e = lex-piece s at (between_quotes bs) rest kind.Quoted (omega arith) (scan-quoted s bs rest l e)

single : (b : ℕ) (z w : Text) (c : Bool) → (b == 39) ≡ c → without_quotes 39 false z ≡ w → without_quotes 39 false (twice c b ++ z) ≡ b ∷ w
single b z w true h e = ap (λ x. 39 ∷ x) e ∙ ap (λ x. x ∷ w) (sym (is-quote b h))
  where
    is-quote : (b : ℕ) → (b == 39) ≡ true → b ≡ 39
    is-quote b h = grind (arith, nat_tests)
single b z w false h e = ap (λ c. if c then without_quotes 39 true z else b ∷ without_quotes 39 false z) h ∙ ap (λ x. b ∷ x) e

without-doubled : (bs : Text) → without_quotes 39 false (doubled bs ++ 39 ∷ []) ≡ bs
without-doubled [] = refl
without-doubled (b ∷ bs) =
    ap (without_quotes 39 false) (append_assoc (twice (b == 39) b) (doubled bs) (39 ∷ []))
    ∙ single b (doubled bs ++ 39 ∷ []) bs (b == 39) refl (without-doubled bs)

-- the string of such a token is the string that was written
pub unquoted-between_quotes : (bs : Text) → unquoted (between_quotes bs) ≡ bs
unquoted-between_quotes bs = without-doubled bs

-- the token that a string is written as
abbrev pub string_kind : Text → Kind
string_kind bs = if is_name bs then kind.Name else kind.Quoted

lex-by_form : (s c : Bool) (at : ℕ) (bs rest : Text) → is_name bs ≡ c → IsLine bs → EndsWord rest → EndsQuote rest
    → lex_from s at 0 ((if c then bs else between_quotes bs) ++ rest)
    ≡ front (record { kind = if c then kind.Name else kind.Quoted; at = at; len = length (if c then bs else between_quotes bs) } ∷ [])
    (lex_from (sign_after (if c then bs else between_quotes bs) (if c then kind.Name else kind.Quoted))
    (at + length (if c then bs else between_quotes bs)) 0 rest)
lex-by_form s true at bs rest h l e f = lex-name s at bs rest h e
lex-by_form s false at bs rest h l e f = lex-quoted s at bs rest l f

-- a string without line feeds, as it is written
pub lex-string : (s : Bool) (at : ℕ) (bs rest : Text) → IsLine bs → EndsWord rest → EndsQuote rest
    → lex_from s at 0 (string_text bs ++ rest)
    ≡ front (record { kind = string_kind bs; at = at; len = length (string_text bs) } ∷ [])
    (lex_from (sign_after (string_text bs) (string_kind bs)) (at + length (string_text bs)) 0 rest)
lex-string s at bs rest l e f = lex-by_form s (is_name bs) at bs rest refl l e f
