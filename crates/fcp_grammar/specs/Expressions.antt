-- Not believed, for the machine alone: what waits for an operand in an expression.
use Rattle.std.specs.Prelude.{Bool, true, false}
use Rattle.fcp_model.specs.declared.term.Expr.{Expr}
use Rattle.fcp_model.specs.declared.term.Expr.TheVariants as E
use Rattle.fcp_model.specs.declared.term.ArithOp.{ArithOp}
use Rattle.fcp_model.specs.declared.term.ArithOp.TheVariants.{Add, Sub}
use Rattle.fcp_grammar.specs.declared.expressions.LeftOperand.{LeftOperand}
use Rattle.fcp_grammar.specs.declared.expressions.LeftOperand.TheVariants.{Nothing, Operator}
use Rattle.fcp_grammar.specs.declared.expressions.Level.{Level}

-- no operator waits
abbrev pub nothing : Level
nothing = record { sum = Nothing; product = Nothing }

-- whether no operator waits
abbrev pub both_nothing : LeftOperand → LeftOperand → Bool
both_nothing Nothing Nothing = true
both_nothing _ _ = false

-- no operator waits at this level
abbrev pub is_nothing : Level → Bool
is_nothing level = both_nothing level.sum level.product

-- an operator with its operands
abbrev pub operation : ArithOp → Expr → Expr → Expr
operation op a b = E.Op op a b

-- what waits, with its right operand
abbrev pub join : LeftOperand → Expr → Expr
join Nothing e = e
join (Operator l op) e = operation op l e

-- the whole expression, with its last operand
abbrev pub whole : Level → Expr → Expr
whole level e = join level.sum (join level.product e)

-- what waits behind one more operand and the operator behind it
abbrev pub before : Level → ArithOp → Expr → Level
before level Add e = record { sum = Operator (whole level e) Add; product = Nothing }
before level Sub e = record { sum = Operator (whole level e) Sub; product = Nothing }
before level op e = record { sum = level.sum; product = Operator (join level.product e) op }
