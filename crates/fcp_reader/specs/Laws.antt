-- Laws of texts.
use Rattle.std.specs.Prelude.{◌≡◌, ◌≤◌, true, List, length}
use Rattle.fcp_model.specs.declared.fault.Fault.{Fault}
use Rattle.fcp_model.specs.declared.source.GoalText.{GoalText}
use Rattle.fcp_model.specs.declared.source.Module.{Module}
use Rattle.fcp_text.specs.Bytes.{Text}
use Rattle.fcp_reader.specs.Limits.{is_module_within, is_goal_within}
use Rattle.fcp_reader.specs.Sources.{IsModule, IsGoal, IsModuleFault, IsGoalFault}

-- a text is at most one module
abbrev pub OneModule : Type 0
OneModule = (names : List Text) (z : Text) (a b : Module) → IsModule names z a → IsModule names z b → a ≡ b

-- a text is at most one goal
abbrev pub OneGoal : Type 0
OneGoal = (names : List Text) (z : Text) (a b : GoalText) → IsGoal names z a → IsGoal names z b → a ≡ b

-- a text has at most one first fault as a module, and at most one as a goal
abbrev pub OneFault : Type 0
OneFault = ((names : List Text) (z : Text) (a b : Fault) → IsModuleFault names z a → IsModuleFault names z b → a ≡ b)
    × ((names : List Text) (z : Text) (a b : Fault) → IsGoalFault names z a → IsGoalFault names z b → a ≡ b)

-- a text that is a module has no fault as one
abbrev pub FaultIsNoModule : Type 0
FaultIsNoModule = (names : List Text) (z : Text) (m : Module) (a : Fault) → IsModule names z m → IsModuleFault names z a → ⊥

-- a text that is a goal has no fault as one
abbrev pub FaultIsNoGoal : Type 0
FaultIsNoGoal = (names : List Text) (z : Text) (g : GoalText) (a : Fault) → IsGoal names z g → IsGoalFault names z a → ⊥

-- a module or a goal that a text is keeps the limits of arguments, parts, variables and items, and a module has at most as
-- many clauses as its text has bytes
abbrev pub TextsKeepLimits : Type 0
TextsKeepLimits =
    ((names : List Text) (z : Text) (m : Module) → IsModule names z m → (is_module_within m ≡ true) × (length m.clauses ≤ length z))
    × ((names : List Text) (z : Text) (g : GoalText) → IsGoal names z g → is_goal_within g ≡ true)
