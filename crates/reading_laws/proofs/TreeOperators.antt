-- The operators of expressions and the signs of items, with a space on each side, are terminals of a tree.
use Rattle.std.proofs.Common.{◌≡◌, ℕ, ◌+◌, ◌<◌, false, [], ◌∷◌, refl, arith, codes}
use Rattle.std.proofs.lemmas.Bool.Decides.{nat_tests}
use Rattle.fcp_model.specs.declared.term.ArithOp.{ArithOp}
use Rattle.fcp_model.specs.declared.term.ArithOp.TheVariants.{Add, Sub, Mul, Div, Mod}
use Rattle.fcp_model.specs.declared.term.CompareOp.{CompareOp}
use Rattle.fcp_model.specs.declared.term.CompareOp.TheVariants.{Less, AtMost, Greater, AtLeast, Equal, NotEqual}
use Rattle.fcp_grammar.specs.declared.terminals.Terminal.TheVariants as terminal
use Rattle.fcp_grammar.specs.declared.sides.TermSign.{TermSign}
use Rattle.fcp_grammar.specs.declared.sides.TermSign.TheVariants as sign
use Rattle.fcp_grammar.specs.Grammar.{plain}
use Rattle.fcp_grammar.specs.ExpressionGrammar.{SumSign, add, sub, ProductSign, mul, div, rem, sum_terminal, sum_op, product_terminal, product_op, more, over_operators}
use Rattle.fcp_grammar.specs.ItemGrammar.{sign_terminal}
use Rattle.text_laws.specs.Spellings.{Spelling, string, mark}
use Rattle.text_laws.specs.SourceSpellings.{spaced, spelled_operator, spelled_comparison}
use Rattle.reading_laws.specs.PieceTerminals.{Position, behind_piece}
use Rattle.reading_laws.proofs.Following.{Follows}
use Rattle.reading_laws.proofs.TreePieces.{behind_space, spaced-follows, read_string, string-follows, mark-assign, mark-equals, mark-same, mark-not_same, mark-less, mark-at_most, mark-greater, mark-at_least, mark-equal, mark-not_equal, mark-plus, mark-minus, mark-times, mark-divide}
use Rattle.fcp_text.specs.Signs as signs

-- where a reader stands behind a piece between spaces
abbrev pub behind_spaced : Position → Spelling → Position
behind_spaced p x = behind_space (behind_piece (behind_space p) x)

-- ---- signs

pub assign-follows : (p : Position)
    → Follows (spaced (mark signs.assign)) [] (λ rest. plain terminal.Assign ∷ rest) p (behind_spaced p (mark signs.assign))
assign-follows p = spaced-follows p (mark signs.assign) (mark-assign (behind_space p))

-- the mark of a sign between terms
abbrev pub sign_mark : TermSign → ℕ
sign_mark sign.Equals = signs.equals
sign_mark sign.Same = signs.same
sign_mark sign.NotSame = signs.not_same

pub sign-follows : (s : TermSign) (p : Position)
    → Follows (spaced (mark (sign_mark s))) [] (λ rest. plain (sign_terminal s) ∷ rest) p (behind_spaced p (mark (sign_mark s)))
sign-follows sign.Equals p = spaced-follows p (mark signs.equals) (mark-equals (behind_space p))
sign-follows sign.Same p = spaced-follows p (mark signs.same) (mark-same (behind_space p))
sign-follows sign.NotSame p = spaced-follows p (mark signs.not_same) (mark-not_same (behind_space p))

-- the mark of a comparison
abbrev pub comparison_mark : CompareOp → ℕ
comparison_mark Less = signs.less
comparison_mark AtMost = signs.at_most
comparison_mark Greater = signs.greater
comparison_mark AtLeast = signs.at_least
comparison_mark Equal = signs.equal
comparison_mark NotEqual = signs.not_equal

pub comparison-follows : (op : CompareOp) (p : Position)
    → Follows (spelled_comparison op) [] (λ rest. plain (terminal.Compare op) ∷ rest) p (behind_spaced p (mark (comparison_mark op)))
comparison-follows Less p = spaced-follows p (mark signs.less) (mark-less (behind_space p))
comparison-follows AtMost p = spaced-follows p (mark signs.at_most) (mark-at_most (behind_space p))
comparison-follows Greater p = spaced-follows p (mark signs.greater) (mark-greater (behind_space p))
comparison-follows AtLeast p = spaced-follows p (mark signs.at_least) (mark-at_least (behind_space p))
comparison-follows Equal p = spaced-follows p (mark signs.equal) (mark-equal (behind_space p))
comparison-follows NotEqual p = spaced-follows p (mark signs.not_equal) (mark-not_equal (behind_space p))

-- ---- operators

-- an operator as a sign of a sum
pub record SumReads (op : ArithOp) (p : Position) : Type 0 where
  pub tree : SumSign
  pub after : Position
  pub follows : Follows (spelled_operator op) [] (λ rest. plain (sum_terminal tree) ∷ rest) p after
  pub same : sum_op tree ≡ op

-- an operator as a sign of a product
pub record ProductReads (op : ArithOp) (p : Position) : Type 0 where
  pub tree : ProductSign
  pub after : Position
  pub follows : Follows (spelled_operator op) [] (λ rest. plain (product_terminal tree) ∷ rest) p after
  pub same : product_op tree ≡ op

pub add-reads : (p : Position) → SumReads Add p
add-reads p =
    record {
      tree = add (behind_space p).at;
      after = behind_spaced p (mark signs.plus);
      follows = spaced-follows p (mark signs.plus) (mark-plus (behind_space p));
      same = refl;
    }

pub sub-reads : (p : Position) → SumReads Sub p
sub-reads p =
    record {
      tree = sub (behind_space p).at;
      after = behind_spaced p (mark signs.minus);
      follows = spaced-follows p (mark signs.minus) (mark-minus (behind_space p));
      same = refl;
    }

pub mul-reads : (p : Position) → ProductReads Mul p
mul-reads p =
    record {
      tree = mul (behind_space p).at;
      after = behind_spaced p (mark signs.times);
      follows = spaced-follows p (mark signs.times) (mark-times (behind_space p));
      same = refl;
    }

pub div-reads : (p : Position) → ProductReads Div p
div-reads p =
    record {
      tree = div (behind_space p).at;
      after = behind_spaced p (mark signs.divide);
      follows = spaced-follows p (mark signs.divide) (mark-divide (behind_space p));
      same = refl;
    }

-- the name `mod` has a form of its own
pub mod-reads : (p : Position) → ProductReads Mod p
mod-reads p =
    let q : Position = behind_space p in
    record {
      tree = rem (read_string q (codes "mod")) q.at;
      after = behind_spaced p (string (codes "mod"));
      follows = spaced-follows p (string (codes "mod")) (string-follows q (codes "mod"));
      same = refl;
    }

-- ---- their number

pub one-more : (n : ℕ) → n < 256 → more n ≡ n + 1
one-more n h = grind (arith, nat_tests)

pub not-over-operators : (n : ℕ) → n < 256 → over_operators n ≡ false
not-over-operators n h = grind (arith, nat_tests)
