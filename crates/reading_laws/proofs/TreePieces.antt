-- Each piece is one terminal of a tree, or none.
use Rattle.std.proofs.Common.{◌≡◌, ℕ, suc, ◌+◌, Bool, true, false, cond, not, ◌&&◌, ◌||◌, List, [], ◌∷◌, ◌++◌, refl, ap, sym, subst, arith, append-nil, if◌then◌else◌, nat_le, nat_lt, ℤ}
use Rattle.std.specs.List.{list_any}
use Rattle.std.specs.Str.{bytes_eq}
use Rattle.std.proofs.lemmas.Bool.Decides.{nat_tests}
use Rattle.std.proofs.lemmas.Slice.Eq.{bytes_eq-Decides}
use Rattle.fcp_model.specs.NameList.{noted, number_of}
use Rattle.fcp_model.specs.Spelling.{name_at}
use Rattle.fcp_model.specs.declared.names.Sym.{Sym}
use Rattle.fcp_model.specs.declared.term.ArithOp.TheVariants.{Add, Sub, Mul, Div}
use Rattle.fcp_model.specs.declared.term.CompareOp.TheVariants as compare
use Rattle.fcp_text.specs.Bytes.{Text}
use Rattle.fcp_grammar.specs.declared.terminals.Terminal.{Terminal}
use Rattle.fcp_grammar.specs.declared.terminals.Terminal.TheVariants as terminal
use Rattle.fcp_grammar.specs.Grammar.{Marked, plain}
use Rattle.fcp_terminals.specs.MarkTerminals.{mark_terminal}
use Rattle.fcp_terminals.specs.Numbering.{Grows}
use Rattle.fcp_reader.specs.Texts.{clean}
use Rattle.text_laws.specs.Spellings.{Spelling, string, number, variable, mark, space}
use Rattle.text_laws.specs.TermSpellings.{Writing, comma}
use Rattle.text_laws.specs.SourceSpellings.{spaced, comma_space}
use Rattle.reading_laws.specs.PieceTerminals.{Position, behind_piece, behind_sign, is_next, in_order, piece_terminals, string_form}
use Rattle.reading_laws.specs.Variables.{are_next}
use Rattle.reading_laws.proofs.Following.{Follows, then, grows-same, next-second}
use Rattle.fcp_text.specs.Signs as signs

-- ---- strings by their numbers

-- the number of a text that is there is that of the text, however the list grows
found-name : (ns : List Text) (t : Text) (more : List Text) → list_any (bytes_eq t) ns ≡ true → name_at (ns ++ more) (number_of ns t) ≡ t
found-name [] t more h = absurd (cc)
found-name (n ∷ ns) t more h = by (bytes_eq t n) refl h (found-name ns t more)
  where
    by : (b : Bool) → bytes_eq t n ≡ b → b || list_any (bytes_eq t) ns ≡ true
        → (list_any (bytes_eq t) ns ≡ true → name_at (ns ++ more) (number_of ns t) ≡ t)
        → name_at (n ∷ (ns ++ more)) (cond (not b) (1 + number_of ns t) 0) ≡ t
    by true e g i = sym ((bytes_eq-Decides t n).0 e)
    by false e g i =
        let one : suc (number_of ns t) ≡ 1 + number_of ns t = omega arith in
        subst (λ k. name_at (n ∷ (ns ++ more)) k ≡ t) one (i g)

-- one that is not there has the number behind all
last-name : (ns : List Text) (t : Text) (more : List Text) → list_any (bytes_eq t) ns ≡ false
    → name_at ((ns ++ t ∷ []) ++ more) (number_of ns t) ≡ t
last-name [] t more h = refl
last-name (n ∷ ns) t more h = by (bytes_eq t n) refl h (last-name ns t more)
  where
    by : (b : Bool) → bytes_eq t n ≡ b → b || list_any (bytes_eq t) ns ≡ false
        → (list_any (bytes_eq t) ns ≡ false → name_at ((ns ++ t ∷ []) ++ more) (number_of ns t) ≡ t)
        → name_at (n ∷ ((ns ++ t ∷ []) ++ more)) (cond (not b) (1 + number_of ns t) 0) ≡ t
    by true e g i = sym ((bytes_eq-Decides t n).0 e)
    by false e g i =
        let one : suc (number_of ns t) ≡ 1 + number_of ns t = omega arith in
        subst (λ k. name_at (n ∷ ((ns ++ t ∷ []) ++ more)) k ≡ t) one (i g)

-- the number that a text has once it is noted is that of the text in each list that grows from there
pub name-of-number : (ns : List Text) (t : Text) (final : List Text) → Grows (noted ns t) final → name_at final (number_of ns t) ≡ t
name-of-number ns t final g = by (list_any (bytes_eq t) ns) refl g
  where
    by : (b : Bool) → list_any (bytes_eq t) ns ≡ b → Grows (if b then ns else ns ++ t ∷ []) final → name_at final (number_of ns t) ≡ t
    by true e g = subst (λ fs. name_at fs (number_of ns t) ≡ t) (sym g.1) (found-name ns t g.0 e)
    by false e g = subst (λ fs. name_at fs (number_of ns t) ≡ t) (sym g.1) (last-name ns t g.0 e)

pub noted-grows : (ns : List Text) (t : Text) → Grows ns (noted ns t)
noted-grows ns t = by (list_any (bytes_eq t) ns)
  where
    by : (b : Bool) → Grows ns (if b then ns else ns ++ t ∷ [])
    by true = grows-same ns
    by false = (t ∷ [], refl)

-- ---- one behind the other, and with other terminals for the same

pub chain : {v w : Writing} {ks ls : List ℕ} {s t : List Marked → List Marked} {p q r : Position} → Follows v ks s p q → Follows w ls t q r
    → Follows (λ ps. v (w ps)) (ks ++ ls) (λ rest. s (t rest)) p r
chain {v} {w} {ks} {ls} {s} {t} {p} {q} {r} f g = (then) v w ks ls s t p q r f g

pub respelled : {w : Writing} {ks : List ℕ} {s : List Marked → List Marked} {p q : Position} (t : List Marked → List Marked)
    → Follows w ks s p q → ((rest : List Marked) → t rest ≡ s rest) → Follows w ks t p q
respelled {w} {ks} {s} {p} {q} t f e = subst (λ u. Follows w ks u p q) (λ i rest. sym {a = t rest} {b = s rest} (e rest) i) f

pub counted : {w : Writing} {ks : List ℕ} {s : List Marked → List Marked} {p q : Position} (ls : List ℕ) → Follows w ks s p q → ks ≡ ls
    → Follows w ls s p q
counted {w} {ks} {s} {p} {q} ls f e = subst (λ l. Follows w l s p q) e f

-- with a last piece that has no variables
pub counted-last : {w : Writing} {ks : List ℕ} {s : List Marked → List Marked} {p q : Position} → Follows w (ks ++ []) s p q
    → Follows w ks s p q
counted-last {w} {ks} f = counted ks f (append-nil ks)

-- nothing is written
pub none-follows : (p : Position) → Follows (λ ps. ps) [] (λ rest. rest) p p
none-follows p = record { terminals = λ ps rest. refl; behind = λ ps. refl; grows = grows-same p.names; count = refl; order = λ ps e. refl }

-- ---- single pieces

-- the number of a string that is read at p
abbrev pub read_string : Position → Text → Sym
read_string p t = record { 0 = number_of p.names t }

pub string-follows : (p : Position) (t : Text)
    → Follows (λ ps. string t ∷ ps) [] (λ rest. plain (terminal.Str (read_string p t) (string_form t) p.at) ∷ rest) p
    (behind_piece p (string t))
string-follows p t =
    record { terminals = λ ps rest. refl; behind = λ ps. refl; grows = noted-grows p.names t; count = refl; order = λ ps e. refl }

pub string-name : (p : Position) (t : Text) (final : List Text) → Grows (behind_piece p (string t)).names final
    → name_at final (read_string p t).0 ≡ t
string-name p t final g = name-of-number p.names t final g

pub number-follows : (p : Position) (n : ℤ)
    → Follows (λ ps. number n ∷ ps) [] (λ rest. plain (terminal.Int n p.at) ∷ rest) p (behind_piece p (number n))
number-follows p n =
    record { terminals = λ ps rest. refl; behind = λ ps. refl; grows = grows-same p.names; count = refl; order = λ ps e. refl }

pub space-follows : (p : Position) → Follows (λ ps. space ∷ ps) [] (λ rest. rest) p (behind_piece p space)
space-follows p =
    record { terminals = λ ps rest. refl; behind = λ ps. refl; grows = grows-same p.names; count = refl; order = λ ps e. refl }

pub and-true : (a b : Bool) → a && b ≡ true → (a ≡ true) × (b ≡ true)
and-true true b e = (refl, e)
and-true false b e = absurd (cc)

-- a variable that may stand there is not one too many
pub few : (n k : ℕ) → is_next n k ≡ true → nat_lt 250 k ≡ false
few n k e =
    let b : nat_le k 250 ≡ true = (and-true (nat_le 1 k && nat_le k (n + 1)) (nat_le k 250) e).1 in
    grind (arith, nat_tests)

first-next : (n k : ℕ) → are_next n (k ∷ []) ≡ true → is_next n k ≡ true
first-next n k e = (and-true (is_next n k) true e).0

pub variable-follows : (p : Position) (k : ℕ) → are_next p.count (k ∷ []) ≡ true
    → Follows (λ ps. variable k ∷ ps) (k ∷ []) (λ rest. (terminal.Var k p.at, nat_lt 250 k) ∷ rest) p (behind_piece p (variable k))
variable-follows p k h = record {
  terminals =
      λ ps rest. ap (λ b. (terminal.Var k p.at, b) ∷ clean (piece_terminals (behind_piece p (variable k)) ps) rest)
      (sym (few p.count k (first-next p.count k h)));
  behind = λ ps. refl;
  grows = grows-same p.names;
  count = refl;
  order = λ ps e. ap (λ b. b && in_order (behind_piece p (variable k)) ps) (first-next p.count k h);
}

-- ---- marks

-- a mark other than the dot, with its terminal
pub mark-follows : (p : Position) (m : ℕ) (w : Terminal) → mark_terminal p.at p.count m ≡ w → behind_sign m p.count ≡ p.count
    → Follows (λ ps. mark m ∷ ps) [] (λ rest. plain w ∷ rest) p (behind_piece p (mark m))
mark-follows p m w e c = record {
  terminals = λ ps rest. ap (λ x. plain x ∷ clean (piece_terminals (behind_piece p (mark m)) ps) rest) e;
  behind = λ ps. refl;
  grows = grows-same p.names;
  count = c;
  order = λ ps e. refl;
}

module _ (p : Position) where
  pub mark-round_open : Follows (λ ps. mark signs.round_open ∷ ps) [] (λ rest. plain (terminal.RoundOpen p.at) ∷ rest) p
      (behind_piece p (mark signs.round_open))
  unfolding mark_terminal
  mark-round_open = mark-follows p signs.round_open (terminal.RoundOpen p.at) refl refl

  pub mark-round_close : Follows (λ ps. mark signs.round_close ∷ ps) [] (λ rest. plain terminal.RoundClose ∷ rest) p
      (behind_piece p (mark signs.round_close))
  unfolding mark_terminal
  mark-round_close = mark-follows p signs.round_close terminal.RoundClose refl refl

  pub mark-square_open : Follows (λ ps. mark signs.square_open ∷ ps) [] (λ rest. plain (terminal.SquareOpen p.at) ∷ rest) p
      (behind_piece p (mark signs.square_open))
  unfolding mark_terminal
  mark-square_open = mark-follows p signs.square_open (terminal.SquareOpen p.at) refl refl

  pub mark-square_close : Follows (λ ps. mark signs.square_close ∷ ps) [] (λ rest. plain terminal.SquareClose ∷ rest) p
      (behind_piece p (mark signs.square_close))
  unfolding mark_terminal
  mark-square_close = mark-follows p signs.square_close terminal.SquareClose refl refl

  pub mark-curly_open : Follows (λ ps. mark signs.curly_open ∷ ps) [] (λ rest. plain (terminal.CurlyOpen p.at) ∷ rest) p
      (behind_piece p (mark signs.curly_open))
  unfolding mark_terminal
  mark-curly_open = mark-follows p signs.curly_open (terminal.CurlyOpen p.at) refl refl

  pub mark-curly_close : Follows (λ ps. mark signs.curly_close ∷ ps) [] (λ rest. plain terminal.CurlyClose ∷ rest) p
      (behind_piece p (mark signs.curly_close))
  unfolding mark_terminal
  mark-curly_close = mark-follows p signs.curly_close terminal.CurlyClose refl refl

  pub mark-bar : Follows (λ ps. mark signs.bar ∷ ps) [] (λ rest. plain terminal.Bar ∷ rest) p (behind_piece p (mark signs.bar))
  unfolding mark_terminal
  mark-bar = mark-follows p signs.bar terminal.Bar refl refl

  pub mark-comma : Follows (λ ps. mark signs.comma ∷ ps) [] (λ rest. plain terminal.Comma ∷ rest) p (behind_piece p (mark signs.comma))
  unfolding mark_terminal
  mark-comma = mark-follows p signs.comma terminal.Comma refl refl

  pub mark-question : Follows (λ ps. mark signs.question ∷ ps) [] (λ rest. plain terminal.Question ∷ rest) p
      (behind_piece p (mark signs.question))
  unfolding mark_terminal
  mark-question = mark-follows p signs.question terminal.Question refl refl

  pub mark-if_sign : Follows (λ ps. mark signs.if_sign ∷ ps) [] (λ rest. plain terminal.If ∷ rest) p (behind_piece p (mark signs.if_sign))
  unfolding mark_terminal
  mark-if_sign = mark-follows p signs.if_sign terminal.If refl refl

  pub mark-assign : Follows (λ ps. mark signs.assign ∷ ps) [] (λ rest. plain terminal.Assign ∷ rest) p (behind_piece p (mark signs.assign))
  unfolding mark_terminal
  mark-assign = mark-follows p signs.assign terminal.Assign refl refl

  pub mark-equals : Follows (λ ps. mark signs.equals ∷ ps) [] (λ rest. plain terminal.Equals ∷ rest) p (behind_piece p (mark signs.equals))
  unfolding mark_terminal
  mark-equals = mark-follows p signs.equals terminal.Equals refl refl

  pub mark-same : Follows (λ ps. mark signs.same ∷ ps) [] (λ rest. plain terminal.Same ∷ rest) p (behind_piece p (mark signs.same))
  unfolding mark_terminal
  mark-same = mark-follows p signs.same terminal.Same refl refl

  pub mark-not_same : Follows (λ ps. mark signs.not_same ∷ ps) [] (λ rest. plain terminal.NotSame ∷ rest) p
      (behind_piece p (mark signs.not_same))
  unfolding mark_terminal
  mark-not_same = mark-follows p signs.not_same terminal.NotSame refl refl

  pub mark-less : Follows (λ ps. mark signs.less ∷ ps) [] (λ rest. plain (terminal.Compare compare.Less) ∷ rest) p
      (behind_piece p (mark signs.less))
  unfolding mark_terminal
  mark-less = mark-follows p signs.less (terminal.Compare compare.Less) refl refl

  pub mark-at_most : Follows (λ ps. mark signs.at_most ∷ ps) [] (λ rest. plain (terminal.Compare compare.AtMost) ∷ rest) p
      (behind_piece p (mark signs.at_most))
  unfolding mark_terminal
  mark-at_most = mark-follows p signs.at_most (terminal.Compare compare.AtMost) refl refl

  pub mark-greater : Follows (λ ps. mark signs.greater ∷ ps) [] (λ rest. plain (terminal.Compare compare.Greater) ∷ rest) p
      (behind_piece p (mark signs.greater))
  unfolding mark_terminal
  mark-greater = mark-follows p signs.greater (terminal.Compare compare.Greater) refl refl

  pub mark-at_least : Follows (λ ps. mark signs.at_least ∷ ps) [] (λ rest. plain (terminal.Compare compare.AtLeast) ∷ rest) p
      (behind_piece p (mark signs.at_least))
  unfolding mark_terminal
  mark-at_least = mark-follows p signs.at_least (terminal.Compare compare.AtLeast) refl refl

  pub mark-equal : Follows (λ ps. mark signs.equal ∷ ps) [] (λ rest. plain (terminal.Compare compare.Equal) ∷ rest) p
      (behind_piece p (mark signs.equal))
  unfolding mark_terminal
  mark-equal = mark-follows p signs.equal (terminal.Compare compare.Equal) refl refl

  pub mark-not_equal : Follows (λ ps. mark signs.not_equal ∷ ps) [] (λ rest. plain (terminal.Compare compare.NotEqual) ∷ rest) p
      (behind_piece p (mark signs.not_equal))
  unfolding mark_terminal
  mark-not_equal = mark-follows p signs.not_equal (terminal.Compare compare.NotEqual) refl refl

  pub mark-plus : Follows (λ ps. mark signs.plus ∷ ps) [] (λ rest. plain (terminal.Operator Add p.at) ∷ rest) p
      (behind_piece p (mark signs.plus))
  unfolding mark_terminal
  mark-plus = mark-follows p signs.plus (terminal.Operator Add p.at) refl refl

  pub mark-minus : Follows (λ ps. mark signs.minus ∷ ps) [] (λ rest. plain (terminal.Operator Sub p.at) ∷ rest) p
      (behind_piece p (mark signs.minus))
  unfolding mark_terminal
  mark-minus = mark-follows p signs.minus (terminal.Operator Sub p.at) refl refl

  pub mark-times : Follows (λ ps. mark signs.times ∷ ps) [] (λ rest. plain (terminal.Operator Mul p.at) ∷ rest) p
      (behind_piece p (mark signs.times))
  unfolding mark_terminal
  mark-times = mark-follows p signs.times (terminal.Operator Mul p.at) refl refl

  pub mark-divide : Follows (λ ps. mark signs.divide ∷ ps) [] (λ rest. plain (terminal.Operator Div p.at) ∷ rest) p
      (behind_piece p (mark signs.divide))
  unfolding mark_terminal
  mark-divide = mark-follows p signs.divide (terminal.Operator Div p.at) refl refl

-- ---- a piece between two spaces

-- where a reader stands behind a space
abbrev pub behind_space : Position → Position
behind_space p = behind_piece p space

-- a piece with a space on each side spells what the piece does
pub spaced-follows : {s : List Marked → List Marked} (p : Position) (x : Spelling)
    → Follows (λ ps. x ∷ ps) [] s (behind_space p) (behind_piece (behind_space p) x)
    → Follows (spaced x) [] s p (behind_space (behind_piece (behind_space p) x))
spaced-follows p x f = chain (space-follows p) (chain f (space-follows (behind_piece (behind_space p) x)))

-- ---- commas

pub comma-follows : (p : Position) → Follows comma [] (λ rest. plain terminal.Comma ∷ rest) p (behind_piece p (mark signs.comma))
comma-follows p = mark-comma p

pub comma_space-follows : (p : Position)
    → Follows comma_space [] (λ rest. plain terminal.Comma ∷ rest) p (behind_space (behind_piece p (mark signs.comma)))
comma_space-follows p = chain (mark-comma p) (space-follows (behind_piece p (mark signs.comma)))

-- the same pieces and the same variables, written otherwise
pub rewritten : {w : Writing} {ks : List ℕ} {s : List Marked → List Marked} {p q : Position} (v : Writing) (ls : List ℕ) → v ≡ w
    → ls ≡ ks → Follows w ks s p q → Follows v ls s p q
rewritten {w} {ks} {s} {p} {q} v ls e f h = subst (λ x. Follows x ls s p q) (sym e) (counted ls h (sym f))

-- the variables behind others
pub next-behind : {w : Writing} {ks : List ℕ} {s : List Marked → List Marked} {p q : Position} (ls : List ℕ) → Follows w ks s p q
    → are_next p.count (ks ++ ls) ≡ true → are_next q.count ls ≡ true
next-behind {w} {ks} {s} {p} {q} ls f e = subst (λ n. are_next n ls ≡ true) (sym f.count) (next-second p.count ks ls e)
