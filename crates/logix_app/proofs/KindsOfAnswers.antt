-- What an answer is, if memory did not run out: one case for each status that comes.
use Rattle.std.proofs.Common.{◌≡◌, ℕ, List, Option, refl}
use Rattle.fcp_model.specs.declared.fault.Fault.{Fault}
use Rattle.fcp_model.specs.declared.run.Limits.{Limits}
use Rattle.fcp_model.specs.declared.run.Outcome.{Outcome}
use Rattle.fcp_model.specs.Spelling.{Bytes}
use Rattle.logix_edge.specs.Shelves.{Entries}
use Rattle.logix_app.specs.declared.status.Status.{Status}
use Rattle.logix_app.specs.declared.status.Status.TheVariants as status
use Rattle.logix_app.specs.Answers.{AnswersRun, AnswersShow, IsRunOf, IsShownAs}
use Rattle.logix_app.specs.Headline.{Answers, IsUsage, IsShelfFault, IsTooLong, IsAnswered}
use Rattle.logix_app.specs.Controls.{IsControlFault}
use Rattle.logix_app.specs.Lines.{module_line, goal_line, control_line}
use Rattle.logix_app.specs.Loading.{IsFirstFault, IsFirstGoalFault}

-- a goal that is to be run
pub data RunAnswer (limits : Limits) (control : Option Bytes) (file goal : Bytes) (s : Status) (text : Bytes) : Type 0 where
  ran : (o : Outcome) → s ≡ status.Ended o → IsRunOf limits control file goal o text → RunAnswer limits control file goal s text
  module_fault : (f : Fault) → s ≡ status.Module f → text ≡ module_line f → IsFirstFault file f
      → RunAnswer limits control file goal s text
  goal_fault : (f : Fault) → s ≡ status.Goal f → text ≡ goal_line f → IsFirstGoalFault file goal f
      → RunAnswer limits control file goal s text
  control_fault : (at : ℕ) → s ≡ status.Control at → text ≡ control_line at → IsControlFault control file goal at
      → RunAnswer limits control file goal s text

pub run-answer : (limits : Limits) (control : Option Bytes) (file goal : Bytes) (s : Status) (text : Bytes)
    → AnswersRun limits control file goal s text
    → (s ≡ status.NoMemory → ⊥)
    → RunAnswer limits control file goal s text
run-answer limits control file goal (status.Ended o) text a enough = ran o refl a
run-answer limits control file goal (status.Module f) text a enough = module_fault f refl a.0 a.1
run-answer limits control file goal (status.Goal f) text a enough = goal_fault f refl a.0 a.1
run-answer limits control file goal (status.Control at) text a enough = control_fault at refl a.0 a.1
run-answer limits control file goal status.NoMemory text a enough = absurd (enough refl)
run-answer limits control file goal status.Shown text a enough = absurd a
run-answer limits control file goal status.Usage text a enough = absurd a
run-answer limits control file goal status.Shelf text a enough = absurd a
run-answer limits control file goal status.TooLong text a enough = absurd a
run-answer limits control file goal status.Sink text a enough = absurd a

-- a file that is to be shown
pub data ShowAnswer (file : Bytes) (s : Status) (text : Bytes) : Type 0 where
  shown : s ≡ status.Shown → IsShownAs file text → ShowAnswer file s text
  module_fault : (f : Fault) → s ≡ status.Module f → text ≡ module_line f → IsFirstFault file f → ShowAnswer file s text

pub show-answer : (file : Bytes) (s : Status) (text : Bytes) → AnswersShow file s text → (s ≡ status.NoMemory → ⊥) → ShowAnswer file s text
show-answer file status.Shown text a enough = shown refl a
show-answer file (status.Module f) text a enough = module_fault f refl a.0 a.1
show-answer file status.NoMemory text a enough = absurd (enough refl)
show-answer file (status.Ended o) text a enough = absurd a
show-answer file (status.Goal f) text a enough = absurd a
show-answer file (status.Control at) text a enough = absurd a
show-answer file status.Usage text a enough = absurd a
show-answer file status.Shelf text a enough = absurd a
show-answer file status.TooLong text a enough = absurd a
show-answer file status.Sink text a enough = absurd a

-- the words of a call
pub data CallAnswer (words : List Bytes) (held : Option Entries) (before now : ℕ) (last : Option Bytes) (s : Status)
    (text : Bytes) : Type 0 where
  usage : s ≡ status.Usage → IsUsage words before now text → CallAnswer words held before now last s text
  shelf : s ≡ status.Shelf → IsShelfFault words before now last text → CallAnswer words held before now last s text
  too_long : s ≡ status.TooLong → IsTooLong words held before now text → CallAnswer words held before now last s text
  answered : IsAnswered words held before now s text → CallAnswer words held before now last s text

pub any-answer : (words : List Bytes) (held : Option Entries) (before now : ℕ) (last : Option Bytes) (s : Status) (text : Bytes)
    → Answers words held before now last s text → (s ≡ status.NoMemory → ⊥) → CallAnswer words held before now last s text
any-answer words held before now last status.Usage text a enough = usage refl a
any-answer words held before now last status.Shelf text a enough = shelf refl a
any-answer words held before now last status.TooLong text a enough = too_long refl a
any-answer words held before now last status.NoMemory text a enough = absurd (enough refl)
any-answer words held before now last status.Sink text a enough = absurd a
any-answer words held before now last (status.Ended o) text a enough = answered a
any-answer words held before now last status.Shown text a enough = answered a
any-answer words held before now last (status.Module f) text a enough = answered a
any-answer words held before now last (status.Goal f) text a enough = answered a
any-answer words held before now last (status.Control at) text a enough = answered a
