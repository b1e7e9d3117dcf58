-- The leaves of expressions that are neither numbers nor variables.
use Rattle.std.specs.Prelude.{ℕ, Bool, true, false, List, [], ◌∷◌, ◌++◌, if◌then◌else◌}
use Rattle.std.specs.List.{flat_map}
use Rattle.fcp_model.specs.declared.term.Term.{Term, fold-Term}
use Rattle.fcp_model.specs.declared.term.Term.TheOpen.{Term-F}
use Rattle.fcp_model.specs.declared.term.Expr.{Expr, fold-Expr}
use Rattle.fcp_model.specs.declared.term.Expr.TheOpen.{Expr-F}
use Rattle.fcp_model.specs.declared.source.Call.{Call}
use Rattle.fcp_model.specs.declared.source.Call.TheVariants.{User, Unify, Assign, Same, NotSame, Compare}
use Rattle.fcp_model.specs.declared.source.Item.{Item}

-- one level of a term: a number or a variable may stand in an expression
abbrev pub operand_step : Term-F Bool → Bool
operand_step (Term-F.Int z) = true
operand_step (Term-F.Str s) = false
operand_step Term-F.Nil = false
operand_step (Term-F.Cons a b) = false
operand_step (Term-F.Tuple ts) = false
operand_step (Term-F.Var k) = true
operand_step (Term-F.Ro k) = true

-- the term is a number or a variable
abbrev pub is_operand : Term → Bool
is_operand = fold-Term Bool operand_step

-- one level of an expression, with the places in its operands, the left one's first
abbrev pub leaf_step : Expr-F (List ℕ) → List ℕ
leaf_step (Expr-F.Leaf t at) = if is_operand t then [] else at ∷ []
leaf_step (Expr-F.Op o a b) = a ++ b

-- the places of an expression's wrong leaves, from the left
abbrev pub wrong_leaves : Expr → List ℕ
wrong_leaves = fold-Expr (List ℕ) leaf_step

-- those of a call: only `:=` and the comparisons have expressions
abbrev pub leaves_in_call : Call → List ℕ
leaves_in_call (User name args) = []
leaves_in_call (Unify a b) = []
leaves_in_call (Assign a e) = wrong_leaves e
leaves_in_call (Same a b) = []
leaves_in_call (NotSame a b) = []
leaves_in_call (Compare o d e) = wrong_leaves d ++ wrong_leaves e

-- those of some items
abbrev pub leaves_in : List Item → List ℕ
leaves_in items = flat_map (λ i. leaves_in_call i.call) items
