-- What the texts of a module and a goal are once they are loaded, and their first faults.
use Rattle.std.specs.Prelude.{◌≡◌, List, [], Some}
use Rattle.fcp_model.specs.declared.fault.Fault.{Fault}
use Rattle.fcp_model.specs.declared.source.Module.{Module}
use Rattle.fcp_model.specs.declared.source.GoalText.{GoalText}
use Rattle.fcp_model.specs.NameList.{reserved_names}
use Rattle.fcp_model.specs.Spelling.{Bytes}
use Rattle.fcp_loader.specs.Faults.{faults_of, goal_faults_of}
use Rattle.fcp_loader.specs.Firsts.{first_of}
use Rattle.fcp_reader.specs.Sources.{IsModule, IsModuleFault, IsGoal, IsGoalFault, names_behind_module, names_behind_goal}

-- The text is a module without a fault. `names` are the strings: the reserved names, then those of the text.
pub record IsLoadedModule (file : Bytes) (m : Module) (names : List Bytes) : Type 0 where
  pub is_module : IsModule reserved_names file m
  pub faultless : faults_of m ≡ []
  pub strings : names ≡ names_behind_module reserved_names file

-- The first fault of a module's text: one of its tokens or its grammar, or else of the module that it is.
pub data IsFirstFault (file : Bytes) (f : Fault) : Type 0 where
  in_text : IsModuleFault reserved_names file f → IsFirstFault file f
  in_module : (m : Module) → IsModule reserved_names file m → first_of (faults_of m) ≡ Some f → IsFirstFault file f

-- The file is a module without a fault and the goal a goal for it without a fault. `names` are the strings: the reserved
-- names, then those of the file, then those of the goal.
pub record AreLoaded (file goal : Bytes) (m : Module) (g : GoalText) (names : List Bytes) : Type 0 where
  pub before : List Bytes
  pub loaded : IsLoadedModule file m before
  pub is_goal : IsGoal before goal g
  pub faultless : goal_faults_of m g ≡ []
  pub strings : names ≡ names_behind_goal before goal

-- neither the file nor the goal has a fault
pub record BothLoad (file goal : Bytes) : Type 0 where
  pub m : Module
  pub g : GoalText
  pub names : List Bytes
  pub loaded : AreLoaded file goal m g names

-- the first fault of a goal's text for a module, whose strings are numbered before the goal's
pub data IsFirstGoalFaultFor (m : Module) (before : List Bytes) (goal : Bytes) (f : Fault) : Type 0 where
  in_text : IsGoalFault before goal f → IsFirstGoalFaultFor m before goal f
  in_goal : (g : GoalText) → IsGoal before goal g → first_of (goal_faults_of m g) ≡ Some f → IsFirstGoalFaultFor m before goal f

-- the file is a module without a fault, and this is the first fault of the goal for it
pub record IsFirstGoalFault (file goal : Bytes) (f : Fault) : Type 0 where
  pub m : Module
  pub before : List Bytes
  pub loaded : IsLoadedModule file m before
  pub first : IsFirstGoalFaultFor m before goal f
