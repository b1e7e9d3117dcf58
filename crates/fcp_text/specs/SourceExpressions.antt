-- The text of an expression of a source text.
use Rattle.std.specs.Prelude.{List, ◌++◌, codes}
use Rattle.fcp_model.specs.declared.term.ArithOp.{ArithOp}
use Rattle.fcp_model.specs.declared.term.ArithOp.TheVariants.{Add, Sub, Mul, Div, Mod}
use Rattle.fcp_model.specs.declared.term.Expr.{Expr, fold-Expr}
use Rattle.fcp_model.specs.declared.term.Expr.TheOpen.{Expr-F}
use Rattle.fcp_model.specs.Spelling.{Bytes}
use Rattle.fcp_text.specs.SourceTerms.{term_text}

-- an operator, with a space on each side
abbrev pub operator_text : ArithOp → Bytes
operator_text Add = codes " + "
operator_text Sub = codes " - "
operator_text Mul = codes " * "
operator_text Div = codes " / "
operator_text Mod = codes " mod "

-- the texts of an expression: where it stands alone, and where it is an operand
pub record ExprTexts : Type 0 where
  pub alone : Bytes
  pub as_operand : Bytes

-- an operation; as an operand it stands in parentheses
abbrev pub operation : Bytes → ExprTexts
operation text = record { alone = text; as_operand = codes "(" ++ text ++ codes ")" }

module _ (names : List Bytes) where
  -- one level of an expression, from the texts of its operands
  abbrev pub expr_step : Expr-F ExprTexts → ExprTexts
  expr_step (Expr-F.Leaf t at) = record { alone = term_text names t; as_operand = term_text names t }
  expr_step (Expr-F.Op op left right) = operation (left.as_operand ++ (operator_text op ++ right.as_operand))

  abbrev pub expr_texts : Expr → ExprTexts
  expr_texts = fold-Expr ExprTexts expr_step

  -- the text of an expression
  unfoldable pub expr_text : Expr → Bytes
  expr_text e = (expr_texts e).alone

  -- the text of an expression as an operand
  unfoldable pub operand_text : Expr → Bytes
  operand_text e = (expr_texts e).as_operand
