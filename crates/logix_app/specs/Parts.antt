-- What the parts of a call do. Only private clauses cite these.
use Rattle.std.specs.Prelude.{◌≡◌, ℕ, ◌≤◌, List, [], length, Option, Result, Ok, Err}
use Rattle.command_words.specs.declared.order.Order.{Order}
use Rattle.command_words.specs.declared.order.Order.TheVariants.{Run, Show}
use Rattle.control_texts.specs.declared.fault.ControlFault.{ControlFault}
use Rattle.control_texts.specs.declared.fault.ControlFault.TheVariants as control_fault
use Rattle.fcp_model.specs.declared.fault.Refused.{Refused}
use Rattle.fcp_model.specs.declared.fault.Refused.TheVariants as refused
use Rattle.fcp_model.specs.declared.run.Control.{Control}
use Rattle.fcp_model.specs.declared.run.Limits.{Limits}
use Rattle.fcp_model.specs.declared.source.Module.{Module}
use Rattle.fcp_model.specs.declared.source.GoalText.{GoalText}
use Rattle.fcp_model.specs.LawfulControls.{AreLawful}
use Rattle.fcp_model.specs.Spelling.{Bytes}
use Rattle.fcp_text.specs.SourceClauses.{module_text}
use Rattle.fcp_loader.specs.Faults.{goal_faults_of}
use Rattle.fcp_reader.specs.Sources.{IsGoal, names_behind_goal}
use Rattle.logix_app.specs.declared.answer.Answer.{Answer}
use Rattle.logix_app.specs.declared.answer.Output.{Output}
use Rattle.logix_app.specs.declared.answer.Output.TheVariants as output
use Rattle.logix_app.specs.declared.status.Status.TheVariants as status
use Rattle.logix_app.specs.Controls.{AreAsked, HasFaultAt}
use Rattle.logix_app.specs.Lines.{module_line, goal_line, control_line}
use Rattle.logix_app.specs.Loading.{IsLoadedModule, IsFirstFault, IsFirstGoalFaultFor}

-- what an output prints
abbrev pub text_of : Output → Bytes
text_of (output.Line line) = line.now
text_of (output.Text text) = text.items
text_of (output.Module names loaded) = module_text names loaded

-- limits that words may ask for
pub record MayBeAsked (limits : Limits) : Type 0 where
  pub commits : limits.commits ≤ 1000000
  pub moves : limits.moves ≤ 1000000
  pub cells : limits.cells ≤ 64000000

-- the limits of an order may be asked for
abbrev pub AsksWithin : Order → Type 0
AsksWithin (Run name goal limits control) = MayBeAsked limits
AsksWithin (Show name) = Unit {0}

-- the module was loaded from some text of at most 1,048,576 bytes, with its strings after it
pub record IsOfSomeText (m : Module) (names : List Bytes) : Type 0 where
  pub file : Bytes
  pub short : length file ≤ 1048576
  pub loaded : IsLoadedModule file m names

-- a module that was loaded from a text, with its strings after it, or why none was
abbrev pub LoadsText : Bytes → List Bytes → Result Module Refused → Type 0
LoadsText file names (Ok m) = IsLoadedModule file m names
LoadsText file names (Err (refused.Fault f)) = IsFirstFault file f
LoadsText file names (Err (refused.NoMemory n)) = Unit {0}

-- a goal that was loaded for a module, with its strings after it
pub record IsLoadedGoal (m : Module) (before : List Bytes) (goal : Bytes) (g : GoalText) (names : List Bytes) : Type 0 where
  pub is_goal : IsGoal before goal g
  pub faultless : goal_faults_of m g ≡ []
  pub strings : names ≡ names_behind_goal before goal

-- what loading the text of a goal answers, for a loaded module
abbrev pub LoadsGoalText : Module → List Bytes → Bytes → List Bytes → Result (GoalText × List ℕ) Refused → Type 0
LoadsGoalText m before goal names (Ok g) = IsLoadedGoal m before goal g.0 names
LoadsGoalText m before goal names (Err (refused.Fault f)) = IsFirstGoalFaultFor m before goal f
LoadsGoalText m before goal names (Err (refused.NoMemory n)) = Unit {0}

-- a run can keep the controls, and they are few
pub record MayBeKept (controls : List Control) : Type 0 where
  pub lawful : AreLawful controls
  pub few : length controls ≤ 64

-- the controls that a control text asks for, or why there are none
abbrev pub ReadsAsked : Option Bytes → Result (List Control) ControlFault → Type 0
ReadsAsked control (Ok controls) = AreAsked control controls
ReadsAsked control (Err (control_fault.Unread at)) = HasFaultAt control at
ReadsAsked control (Err control_fault.NoMemory) = Unit {0}

-- the answer where a module was refused for a fault
abbrev pub TellsModule : Refused → Answer → Type 0
TellsModule (refused.Fault f) a = (a.status ≡ status.Module f) × (text_of a.output ≡ module_line f)
TellsModule (refused.NoMemory n) a = ⊥

-- the answer where a goal was refused for a fault
abbrev pub TellsGoal : Refused → Answer → Type 0
TellsGoal (refused.Fault f) a = (a.status ≡ status.Goal f) × (text_of a.output ≡ goal_line f)
TellsGoal (refused.NoMemory n) a = ⊥

-- the answer where a control text was refused for a fault
abbrev pub TellsControl : ControlFault → Answer → Type 0
TellsControl (control_fault.Unread at) a = (a.status ≡ status.Control at) × (text_of a.output ≡ control_line at)
TellsControl control_fault.NoMemory a = ⊥
