-- Expressions and their values in whole numbers of 64 bits.
use Rattle.std.specs.Prelude.{ℕ, ◌&&◌, List, [], ◌∷◌, Option, Some, None, if◌then◌else◌, ℤ, pos, negsuc, ◌+ℤ◌, ◌-ℤ◌, ◌*ℤ◌, int_le, int_div, int_rem, option_map}
use Rattle.std.specs.Ordering.{int_eq}
use Rattle.fcp_model.specs.declared.term.ArithOp.{ArithOp}
use Rattle.fcp_model.specs.declared.term.ArithOp.TheVariants.{Add, Sub, Mul, Div, Mod}
use Rattle.fcp_model.specs.Places.{Variable}
use Rattle.fcp_model.specs.Terms.{Term, number, rename, Bindings}
use Rattle.fcp_model.specs.Value.{Look, writable, read_only, solid, value}

-- an expression: a term as a leaf, or an operator with two operands
pub data Expr (V : Type 0) : Type 0 where
  leaf : Term V → Expr V
  op : ArithOp → Expr V → Expr V → Expr V

-- the expression with each variable as f gives it
abbrev pub rename_expr : {V W : Type 0} → (V → W) → Expr V → Expr W
rename_expr f (leaf t) = leaf (rename f t)
rename_expr f (op o a b) = op o (rename_expr f a) (rename_expr f b)

-- what an expression gives; it waits for a variable that is read unbound
pub data Evaluated : Type 0 where
  gives : ℤ → Evaluated
  bad : Evaluated
  unready : List Variable → Evaluated

-- what a leaf gives, by its value
abbrev pub value_of_leaf : Look → Evaluated
value_of_leaf (writable p) = unready (p ∷ [])
value_of_leaf (read_only p) = unready (p ∷ [])
value_of_leaf (solid (number z)) = gives z
value_of_leaf (solid _) = bad

-- a number of 64 bits, or bad
abbrev pub checked : ℤ → Evaluated
checked z = if int_le (negsuc 9223372036854775807) z && int_le z (pos 9223372036854775807) then gives z else bad

-- a quotient or a rest; a division by 0 is bad
abbrev pub divided : (ℤ → ℤ → ℤ) → ℤ → ℤ → Evaluated
divided f y z = if int_eq z (pos 0) then bad else checked (f y z)

-- the operators: `/` is truncated toward zero, and `mod` is the rest of that quotient, with the sign of the left side
abbrev pub apply : ArithOp → ℤ → ℤ → Evaluated
apply Add y z = checked (y +ℤ z)
apply Sub y z = checked (y -ℤ z)
apply Mul y z = checked (y *ℤ z)
apply Div y z = divided int_div y z
apply Mod y z = divided int_rem y z

-- the first operand that waits or is bad decides
abbrev pub both_values : (ℤ → ℤ → Evaluated) → Option Evaluated → Option Evaluated → Option Evaluated
both_values f None e = None
both_values f (Some (gives y)) None = None
both_values f (Some (gives y)) (Some (gives z)) = Some (f y z)
both_values f (Some (gives y)) (Some e) = Some e
both_values f (Some e) _ = Some e

-- the value of an expression, from the left, or None where n steps are too few
abbrev pub eval : ℕ → Bindings → Expr Variable → Option Evaluated
eval n s (leaf t) = option_map value_of_leaf (value n s t)
eval n s (op o a b) = both_values (apply o) (eval n s a) (eval n s b)
