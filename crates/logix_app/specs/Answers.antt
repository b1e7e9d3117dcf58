-- What is answered to an order over the bytes of the file that it names: a status with the text that is printed.
use Rattle.std.specs.Prelude.{◌≡◌, List, [], Option}
use Rattle.command_words.specs.declared.order.Order.{Order}
use Rattle.command_words.specs.declared.order.Order.TheVariants.{Run, Show}
use Rattle.fcp_model.specs.declared.run.Control.{Control}
use Rattle.fcp_model.specs.declared.run.Limits.{Limits}
use Rattle.fcp_model.specs.declared.run.Outcome.{Outcome}
use Rattle.fcp_model.specs.declared.source.Module.{Module}
use Rattle.fcp_model.specs.declared.source.GoalText.{GoalText}
use Rattle.fcp_model.specs.ReportText.{goal_variables}
use Rattle.fcp_model.specs.Reports.{IsRunReport, IsOneWorkerReport}
use Rattle.fcp_model.specs.Spelling.{Bytes}
use Rattle.fcp_model.specs.Translation.{program_of, start_of}
use Rattle.fcp_text.specs.SourceClauses.{module_text}
use Rattle.reading_laws.specs.CanonicalReading.{IsShallow, IsAlike}
use Rattle.logix_app.specs.declared.status.Status.{Status}
use Rattle.logix_app.specs.declared.status.Status.TheVariants as status
use Rattle.logix_app.specs.Controls.{AreAsked, IsControlFault}
use Rattle.logix_app.specs.Lines.{module_line, goal_line, control_line}
use Rattle.logix_app.specs.Loading.{IsLoadedModule, IsFirstFault, AreLoaded, BothLoad, IsFirstGoalFault}

-- The goal was run over the module: the text is the report of a run by the definitions, within the limits and with the controls
-- that the control text asks for, of which one worker made each entry, and the run ended so.
pub record IsRunOf (limits : Limits) (control : Option Bytes) (file goal : Bytes) (o : Outcome) (text : Bytes) : Type 0 where
  pub m : Module
  pub g : GoalText
  pub names : List Bytes
  pub loaded : AreLoaded file goal m g names
  pub controls : List Control
  pub asked : AreAsked control controls
  pub is_run : IsRunReport (program_of m) (start_of m g) limits controls names (goal_variables g.names) o text
  pub by_one_worker : IsOneWorkerReport (program_of m) (start_of m g) limits controls names (goal_variables g.names) o text

-- The file is a module without a fault: the text is its canonical text. Where no bracket of that has 256 open ones around
-- it, it is read as a module that says the same.
pub record IsShownAs (file text : Bytes) : Type 0 where
  pub m : Module
  pub names : List Bytes
  pub loaded : IsLoadedModule file m names
  pub canonical : text ≡ module_text names m
  pub reads_back : IsShallow text → IsAlike names m text

-- a goal that is to be run over a file within limits, with a control text or none: the report of its run, or why there is none
abbrev pub AnswersRun : Limits → Option Bytes → Bytes → Bytes → Status → Bytes → Type 0
AnswersRun limits control file goal (status.Ended o) text = IsRunOf limits control file goal o text
AnswersRun limits control file goal (status.Module f) text = (text ≡ module_line f) × IsFirstFault file f
AnswersRun limits control file goal (status.Goal f) text = (text ≡ goal_line f) × IsFirstGoalFault file goal f
AnswersRun limits control file goal (status.Control at) text = (text ≡ control_line at) × IsControlFault control file goal at
AnswersRun limits control file goal status.NoMemory text = text ≡ []
AnswersRun limits control file goal _ text = ⊥

-- a file that is to be shown: its canonical text, or why there is none
abbrev pub AnswersShow : Bytes → Status → Bytes → Type 0
AnswersShow file status.Shown text = IsShownAs file text
AnswersShow file (status.Module f) text = (text ≡ module_line f) × IsFirstFault file f
AnswersShow file status.NoMemory text = text ≡ []
AnswersShow file _ text = ⊥

-- an answer to an order, over the bytes of its file; where memory ran out nothing is printed
abbrev pub AnswersOrder : Order → Bytes → Status → Bytes → Type 0
AnswersOrder (Run name goal limits control) file s text = AnswersRun limits control file goal s text
AnswersOrder (Show name) file s text = AnswersShow file s text

-- ---- what has to be done

-- neither the file nor the goal nor the control text has a fault
pub record CanRun (control : Option Bytes) (file goal : Bytes) : Type 0 where
  pub load : BothLoad file goal
  pub controls : List Control
  pub asked : AreAsked control controls

-- the file has no fault
pub record CanShow (file : Bytes) : Type 0 where
  pub m : Module
  pub names : List Bytes
  pub loaded : IsLoadedModule file m names

-- what an order asks for can be done
abbrev pub CanDo : Order → Bytes → Type 0
CanDo (Run name goal limits control) file = CanRun control file goal
CanDo (Show name) file = CanShow file

-- an order was done, or memory ran out
abbrev pub IsDoneOrNoMemory : Order → Status → Type 0
IsDoneOrNoMemory order status.NoMemory = Unit {0}
IsDoneOrNoMemory (Run name goal limits control) (status.Ended o) = Unit {0}
IsDoneOrNoMemory (Show name) status.Shown = Unit {0}
IsDoneOrNoMemory order _ = ⊥
