-- What is so of all code: its targets, the tables that it names, its tests and its slots.
use Rattle.std.specs.Prelude.{◌≡◌, ℕ, ◌+◌, ◌<◌, ◌≤◌, List, [], ◌∷◌, ◌++◌}
use Rattle.fcp_model.specs.declared.term.ArithOp.{ArithOp}
use Rattle.heap_words.specs.declared.steps.ExprStep.{ExprStep}
use Rattle.heap_words.specs.declared.steps.ExprStep.TheVariants as table
use Rattle.heap_words.specs.declared.steps.TestKind.{TestKind}
use Rattle.heap_words.specs.declared.steps.TestKind.TheVariants as kinds
use Rattle.machine_code.specs.declared.instr.Instr.{Instr}
use Rattle.machine_code.specs.declared.instr.Instr.TheVariants as instr
use Rattle.machine_code.specs.Slots.{Step, push, apply}
use Rattle.machine_code.specs.Instructions.{Op, Test}
use Rattle.machine_code.specs.Each.{Each}
use Rattle.machine_code.specs.Reading.{Fits}
use Rattle.machine_code.specs.Targets.{AllLeadBehind}
use Rattle.machine_code.specs.Fresh.{no_tops, IsFresh}
use Rattle.machine_code.specs.Compiling.{Tables, compiled}

-- an expression over slots
pub data SlotExpr : Type 0 where
  in_slot : ℕ → SlotExpr
  operation : ArithOp → SlotExpr → SlotExpr → SlotExpr

-- its steps in postfix order
abbrev pub postfix : SlotExpr → List Step
postfix (in_slot i) = push i ∷ []
postfix (operation o a b) = postfix a ++ (postfix b ++ apply o ∷ [])

-- steps are the postfix form of one expression
abbrev pub IsPostfix : List Step → Type 0
IsPostfix ss = (e : SlotExpr) × (ss ≡ postfix e)

-- steps are one slot
abbrev pub IsSlot : List Step → Type 0
IsSlot ss = (i : ℕ) × (ss ≡ push i ∷ [])

-- the sides that each test has: none, one slot, two slots, or two expressions
abbrev pub HasSides : TestKind → List Step → List Step → Type 0
HasSides kinds.True left right = (left ≡ []) × (right ≡ [])
HasSides kinds.Integer left right = IsSlot left × (right ≡ [])
HasSides kinds.String left right = IsSlot left × (right ≡ [])
HasSides kinds.Constant left right = IsSlot left × (right ≡ [])
HasSides kinds.List left right = IsSlot left × (right ≡ [])
HasSides kinds.Tuple left right = IsSlot left × (right ≡ [])
HasSides kinds.Known left right = IsSlot left × (right ≡ [])
HasSides kinds.Unknown left right = IsSlot left × (right ≡ [])
HasSides kinds.Same left right = IsSlot left × IsSlot right
HasSides kinds.NotSame left right = IsSlot left × IsSlot right
HasSides kinds.Less left right = IsPostfix left × IsPostfix right
HasSides kinds.AtMost left right = IsPostfix left × IsPostfix right
HasSides kinds.Greater left right = IsPostfix left × IsPostfix right
HasSides kinds.AtLeast left right = IsPostfix left × IsPostfix right
HasSides kinds.Equal left right = IsPostfix left × IsPostfix right
HasSides kinds.NotEqual left right = IsPostfix left × IsPostfix right

-- an instruction that is a test has the sides of its kind
abbrev pub IsFormed : Op → Type 0
IsFormed (Test k left right) = HasSides k left right
IsFormed _ = Unit {0}

-- the slots that an instruction names are below a number; those of a test stand in its steps
abbrev pub NamesBelow : ℕ → Instr → Type 0
NamesBelow n (instr.GetFirst slot var) = slot < n
NamesBelow n (instr.GetCons slot left right put) = (slot < n) × (left < n) × (right < n)
NamesBelow n (instr.GetTuple slot first parts put) = (slot < n) × (first + parts ≤ n)
NamesBelow n (instr.PutVar slot var ro) = slot < n
NamesBelow n (instr.PutWord slot word) = slot < n
NamesBelow n (instr.PutCons slot left right) = (slot < n) × (left < n) × (right < n)
NamesBelow n (instr.PutTuple slot first parts op) = (slot < n) × (first + parts ≤ n)
NamesBelow n (instr.Unify left right) = (left < n) × (right < n)
NamesBelow n (instr.Spawn procedure first parts) = first + parts ≤ n
NamesBelow n _ = Unit {0}

-- the slot of a step is below a number
abbrev pub StepsBelow : ℕ → ExprStep → Type 0
StepsBelow n (table.Push slot) = slot < n
StepsBelow n (table.Apply op) = Unit {0}

-- What is so of all code: each position that an instruction names lies after its own, so that a trial runs each of them at
-- most once; the elements of the lists that it names are there, a tuple that it builds has fewer than 66 parts, and an operation has
-- two operands; the steps of a test are those of its kind; each slot that it names is below the number of slots; and from each
-- procedure's first instruction on, first occurrences are fresh.
pub record IsSound (t : Tables) : Type 0 where
  pub behind : AllLeadBehind 0 (compiled t).ops
  pub there : Each (Fits t.smalls t.steps) t.instrs
  pub formed : Each IsFormed (compiled t).ops
  pub slots : Each (NamesBelow t.slots) t.instrs
  pub step_slots : Each (StepsBelow t.slots) t.steps
  pub fresh : Each (λ e. IsFresh (compiled t).ops e.first no_tops 0) t.procedures
