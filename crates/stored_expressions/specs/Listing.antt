-- The words of an expression as steps in postfix order. It is said of all words, also of such as say no expression.
use Rattle.std.specs.Prelude.{◌≡◌, ℕ, ◌+◌, List, [], ◌∷◌, ◌++◌, Option, Some, None, if◌then◌else◌, nat_eq}
use Rattle.fcp_model.specs.declared.term.ArithOp.{ArithOp}
use Rattle.fcp_model.specs.declared.term.ArithOp.TheVariants.{Add, Sub, Mul, Div, Mod}
use Rattle.heap_words.specs.Cells.{decoded}
use Rattle.heap_words.specs.Trails.{Memory}
use Rattle.heap_words.specs.declared.cell.Cell.{Cell}
use Rattle.heap_words.specs.declared.cell.Cell.TheVariants.{Tuple, Raw}
use Rattle.heap_words.specs.declared.steps.ExprStep.{ExprStep}
use Rattle.heap_words.specs.declared.steps.ExprStep.TheVariants.{Push, Apply}

-- where a tuple has its number of parts
abbrev pub tuple_of : Option Cell → Option ℕ
tuple_of (Some (Tuple a)) = Some a
tuple_of _ = None

-- the operator whose number stands in place of a number of parts
abbrev pub operator_of : ℕ → Option ArithOp
operator_of n =
    if nat_eq n 66 then Some Add else
    (if nat_eq n 67 then Some Sub else
    (if nat_eq n 68 then Some Mul else (if nat_eq n 69 then Some Div else (if nat_eq n 70 then Some Mod else None))))

abbrev pub operator_in : Option Cell → Option ArithOp
operator_in (Some (Raw n)) = operator_of n
operator_in _ = None

-- an operator, where there is one, with the address of its number
abbrev pub located : Option ArithOp → ℕ → Option (ArithOp × ℕ)
located None a = None
located (Some o) a = Some (o, a)

-- what stands at the address of a tuple's number of parts
abbrev pub operation_at : Memory → Option ℕ → Option (ArithOp × ℕ)
operation_at m None = None
operation_at m (Some a) = located (operator_in (decoded (m a))) a

-- the operation that a word is, if it is one
abbrev pub operation_of : Memory → ℕ → Option (ArithOp × ℕ)
operation_of m x = operation_at m (tuple_of (decoded x))

-- the step of a word: its operator, or the word itself as an operand
abbrev pub step_for : ℕ → Option (ArithOp × ℕ) → ExprStep
step_for x None = Push x
step_for x (Some o) = Apply o.0

-- the two operands of an operation, the right one first
abbrev pub operands : Memory → Option (ArithOp × ℕ) → List ℕ
operands m None = []
operands m (Some o) = m (o.1 + 2) ∷ m (o.1 + 1) ∷ []

-- a word in front of others was listed: its step, and the words that come next
abbrev pub Visits : Memory → ℕ → List ℕ → ExprStep → List ℕ → Type 0
Visits m x ws s ws' = (s ≡ step_for x (operation_of m x)) × (ws' ≡ operands m (operation_of m x) ++ ws)

-- Words are listed from the left, each one's step in front of those so far: so an operator comes behind its operands.
pub data Lists (m : Memory) : List ℕ → List ExprStep → List ExprStep → Type 0 where
  at_end : (ss : List ExprStep) → Lists m [] ss ss
  on : (x : ℕ) (ws : List ℕ) (ss all : List ExprStep) → Lists m (operands m (operation_of m x) ++ ws)
      (step_for x (operation_of m x) ∷ ss) all → Lists m (x ∷ ws) ss all

-- the two operands of an operation stand at known addresses
abbrev pub OperandsKnown : (ℕ → Type 0) → Option (ArithOp × ℕ) → Type 0
OperandsKnown knows None = Unit {0}
OperandsKnown knows (Some o) = knows (o.1 + 1) × knows (o.1 + 2)
