-- What loading a module or a goal answers.
use Rattle.std.specs.Prelude.{◌≡◌, ℕ, List, [], Some, Result, Ok, Err}
use Rattle.fcp_model.specs.declared.fault.Fault as fault
use Rattle.fcp_model.specs.declared.fault.Refused.{Refused}
use Rattle.fcp_model.specs.declared.fault.Refused.TheVariants.{Fault, NoMemory}
use Rattle.fcp_model.specs.declared.source.Module.{Module}
use Rattle.fcp_model.specs.declared.source.GoalText.{GoalText}
use Rattle.fcp_model.specs.Goals.{AreNumbersOf}
use Rattle.fcp_loader.specs.Faults.{faults_of, goal_faults_of}
use Rattle.fcp_loader.specs.Firsts.{first_of}

-- a refusal for some faults: the first of them, or want of memory, which nothing ties to a cause
abbrev pub Refuses : List fault.Fault → Refused → Type 0
Refuses faults (Fault f) = first_of faults ≡ Some f
Refuses faults (NoMemory n) = Unit {0}

-- a module that loads has no fault, and is kept as it is
pub record IsLoadedOf (m l : Module) : Type 0 where
  pub same : l ≡ m
  pub faultless : faults_of m ≡ []

-- what `load` answers for a module
abbrev pub Loads : Module → Result Module Refused → Type 0
Loads m (Ok l) = IsLoadedOf m l
Loads m (Err r) = Refuses (faults_of m) r

-- a goal that loads has no fault, is kept as it is, and has the number of each item's procedure in the module
pub record IsGoalOf (m : Module) (goal : GoalText) (g : GoalText × List ℕ) : Type 0 where
  pub same : g.0 ≡ goal
  pub faultless : goal_faults_of m goal ≡ []
  pub numbers : AreNumbersOf m goal.items g.1

-- what `load_goal` answers for a goal of a module: it takes no memory
abbrev pub LoadsGoal : Module → GoalText → Result (GoalText × List ℕ) Refused → Type 0
LoadsGoal m goal (Ok g) = IsGoalOf m goal g
LoadsGoal m goal (Err (Fault f)) = first_of (goal_faults_of m goal) ≡ Some f
LoadsGoal m goal (Err (NoMemory n)) = ⊥
