-- The code that puts expressions into slots: into one slot, for a child, or the leaves into slots of their own, for a test.
use Rattle.std.specs.Prelude.{ℕ, suc, ◌+◌, List, [], ◌∷◌, ◌++◌, Some}
use Rattle.fcp_model.specs.Expressions.{Expr, leaf, op}
use Rattle.machine_code.specs.Slots.{Step, push, apply}
use Rattle.machine_code.specs.Instructions.{Op, PutTuple}
use Rattle.head_code.specs.TermCode.{put}

-- an expression goes into slot i, its operands into two slots
abbrev pub put_expr : ℕ → ℕ → Expr ℕ → List Op
put_expr i n (leaf t) = put i n t
put_expr i n (op o a b) = put_expr n (suc (suc n)) a ++ (put_expr (suc n) (suc (suc n)) b ++ PutTuple i n 2 (Some o) ∷ [])

-- how many leaves an expression has
abbrev pub leaves : Expr ℕ → ℕ
leaves (leaf t) = 1
leaves (op o a b) = leaves a + leaves b

-- the leaves of an expression go into the slots from i on, their parts into those from n on
abbrev pub put_leaves : ℕ → ℕ → Expr ℕ → List Op
put_leaves i n (leaf t) = put i n t
put_leaves i n (op o a b) = put_leaves i n a ++ put_leaves (i + leaves a) n b

-- the steps of an expression whose leaves are in the slots from i on
abbrev pub steps : ℕ → Expr ℕ → List Step
steps i (leaf t) = push i ∷ []
steps i (op o a b) = steps i a ++ (steps (i + leaves a) b ++ apply o ∷ [])
