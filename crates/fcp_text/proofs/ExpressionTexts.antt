-- The text of an expression, and of an operand, at each shape.
use Rattle.std.proofs.Common.{◌≡◌, ℕ, List, ◌++◌, ap, sym, ◌∙◌, codes}
use Rattle.fcp_model.specs.declared.term.Term.{Term}
use Rattle.fcp_model.specs.declared.term.ArithOp.{ArithOp}
use Rattle.fcp_model.specs.declared.term.Expr.{Expr, Leaf, Op}
use Rattle.fcp_model.proofs.Folds.{fold-Leaf, fold-Op}
use Rattle.fcp_model.specs.Spelling.{Bytes}
use Rattle.fcp_text.specs.SourceTerms.{term_text}
use Rattle.fcp_text.specs.SourceExpressions.{ExprTexts, expr_step, expr_text, operand_text, operator_text}

module _ (names : List Bytes) where
  text-Leaf : (t : Term) (at : ℕ) → expr_text names (Leaf t at) ≡ term_text names t
  unfolding expr_text
  text-Leaf t at = ap (λ x. x.alone) (fold-Leaf ExprTexts (expr_step names) t at)

  operand-Leaf : (t : Term) (at : ℕ) → operand_text names (Leaf t at) ≡ term_text names t
  unfolding operand_text
  operand-Leaf t at = ap (λ x. x.as_operand) (fold-Leaf ExprTexts (expr_step names) t at)

  text-Op : (op : ArithOp) (l r : Expr) → expr_text names (Op op l r) ≡ operand_text names l ++ (operator_text op ++ operand_text names r)
  unfolding expr_text operand_text
  text-Op op l r = ap (λ x. x.alone) (fold-Op ExprTexts (expr_step names) op l r)

  operand-Op : (op : ArithOp) (l r : Expr) → operand_text names (Op op l r) ≡ codes "(" ++ expr_text names (Op op l r) ++ codes ")"
  unfolding expr_text operand_text
  operand-Op op l r =
      ap (λ x. x.as_operand) (fold-Op ExprTexts (expr_step names) op l r)
      ∙ sym (ap (λ x. codes "(" ++ x.alone ++ codes ")") (fold-Op ExprTexts (expr_step names) op l r))

  pub text_of_leaf : (e : Expr) (t : Term) (at : ℕ) → e ≡ Leaf t at → expr_text names e ≡ term_text names t
  text_of_leaf e t at is = rw is (text-Leaf t at)

  pub operand_of_leaf : (e : Expr) (t : Term) (at : ℕ) → e ≡ Leaf t at → operand_text names e ≡ term_text names t
  operand_of_leaf e t at is = rw is (operand-Leaf t at)

  pub text_of_operation : (e : Expr) (op : ArithOp) (left right l r : Expr) (sign : Bytes) → e ≡ Op op left right → l ≡ left → r ≡ right
      → sign ≡ operator_text op → expr_text names e ≡ operand_text names l ++ (sign ++ operand_text names r)
  text_of_operation e op left right l r sign is p q s = rw (is, p, q, s) (text-Op op left right)

  pub operand_of_operation : (e : Expr) (op : ArithOp) (left right : Expr) → e ≡ Op op left right
      → operand_text names e ≡ codes "(" ++ expr_text names e ++ codes ")"
  operand_of_operation e op left right is = rw is (operand-Op op left right)
