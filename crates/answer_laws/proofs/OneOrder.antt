-- An order is answered in one way over the bytes of its file.
use Rattle.std.proofs.Common.{◌≡◌, ℕ, List, Option, Some, None, ap, sym, ◌∙◌, subst}
use Rattle.control_texts.proofs.OneFault.{one-reading, one-fault}
use Rattle.command_words.specs.declared.order.Order.{Order}
use Rattle.command_words.specs.declared.order.Order.TheVariants.{Run, Show}
use Rattle.fcp_laws.proofs.OneReport.{one_report}
use Rattle.fcp_model.specs.declared.fault.Fault.{Fault}
use Rattle.fcp_model.specs.declared.run.Control.{Control}
use Rattle.fcp_model.specs.declared.run.Limits.{Limits}
use Rattle.fcp_model.specs.declared.run.Outcome.{Outcome}
use Rattle.fcp_model.specs.ReportText.{goal_variables}
use Rattle.fcp_model.specs.Reports.{IsOneWorkerReport}
use Rattle.fcp_model.specs.Spelling.{Bytes}
use Rattle.fcp_model.specs.Translation.{program_of, start_of}
use Rattle.fcp_text.specs.SourceClauses.{module_text}
use Rattle.logix_app.specs.declared.status.Status.{Status}
use Rattle.logix_app.specs.declared.status.Status.TheVariants as status
use Rattle.logix_app.specs.Answers.{IsRunOf, IsShownAs, AnswersOrder}
use Rattle.logix_app.specs.Controls.{AreAsked, HasFaultAt, IsControlFault}
use Rattle.logix_app.specs.Lines.{module_line, goal_line, control_line}
use Rattle.logix_app.specs.Loading.{BothLoad, IsFirstFault, IsFirstGoalFault}
use Rattle.logix_app.proofs.KindsOfAnswers.{RunAnswer, ShowAnswer, run-answer, show-answer}
use Rattle.logix_app.proofs.KindsOfAnswers as kinds
use Rattle.logix_app.proofs.Answering.{no-fault-asked}
use Rattle.logix_app.proofs.OneLoading.{Texts, one-loaded, no-fault, one-first-fault, one-texts, texts, no-first-goal-fault, one-first-goal-fault}

-- one status and one text
abbrev pub Same : Status → Status → Bytes → Bytes → Type 0
Same s s' text text' = (s ≡ s') × (text ≡ text')

-- the report of the one-worker run of a goal over a file, by what they are, with controls
abbrev pub IsReportOver : Limits → List Control → Texts → Outcome → Bytes → Type 0
IsReportOver limits controls t o text =
    IsOneWorkerReport (program_of t.m) (start_of t.m t.g) limits controls t.names (goal_variables t.g.names) o text

-- ---- control texts

one-asked : (control : Option Bytes) (a b : List Control) → AreAsked control a → AreAsked control b → a ≡ b
one-asked None a b h k = h ∙ sym k
one-asked (Some text) a b h k = one-reading text a b h k

one-fault-asked : (control : Option Bytes) (i j : ℕ) → HasFaultAt control i → HasFaultAt control j → i ≡ j
one-fault-asked None i j f g = absurd f
one-fault-asked (Some text) i j f g = one-fault text i j f g

-- ---- orders

module _ (file : Bytes) (s s' : Status) (text text' : Bytes) where
  same-module-faults : (f g : Fault) → s ≡ status.Module f → s' ≡ status.Module g → text ≡ module_line f → text' ≡ module_line g
      → IsFirstFault file f → IsFirstFault file g → Same s s' text text'
  same-module-faults f g e e' l l' i j =
      let q : f ≡ g = one-first-fault file f g i j in
      (e ∙ ap status.Module q ∙ sym e', l ∙ ap module_line q ∙ sym l')

  same-shown : s ≡ status.Shown → s' ≡ status.Shown → IsShownAs file text → IsShownAs file text' → Same s s' text text'
  same-shown e e' r r' =
      let q = one-loaded file r.m r'.m r.names r'.names r.loaded r'.loaded in
      (e ∙ sym e', r.canonical ∙ ap (λ m. module_text r.names m) q.0 ∙ ap (λ ns. module_text ns r'.m) q.1 ∙ sym r'.canonical)

  one-show : ShowAnswer file s text → ShowAnswer file s' text' → Same s s' text text'
  one-show (kinds.shown e r) (kinds.shown e' r') = same-shown e e' r r'
  one-show (kinds.shown e r) (kinds.module_fault f e' l i) = absurd (no-fault file r.m r.names f r.loaded i)
  one-show (kinds.module_fault f e l i) (kinds.shown e' r) = absurd (no-fault file r.m r.names f r.loaded i)
  one-show (kinds.module_fault f e l i) (kinds.module_fault g e' l' j) = same-module-faults f g e e' l l' i j

  module _ (limits : Limits) (control : Option Bytes) (goal : Bytes) where
    same-goal-faults : (f g : Fault) → s ≡ status.Goal f → s' ≡ status.Goal g → text ≡ goal_line f → text' ≡ goal_line g
        → IsFirstGoalFault file goal f → IsFirstGoalFault file goal g → Same s s' text text'
    same-goal-faults f g e e' l l' i j =
        let q : f ≡ g = one-first-goal-fault file goal f g i j in
        (e ∙ ap status.Goal q ∙ sym e', l ∙ ap goal_line q ∙ sym l')

    same-control-faults : (n k : ℕ) → s ≡ status.Control n → s' ≡ status.Control k → text ≡ control_line n → text' ≡ control_line k
        → IsControlFault control file goal n → IsControlFault control file goal k → Same s s' text text'
    same-control-faults n k e e' l l' i j =
        let q : n ≡ k = one-fault-asked control n k i.fault j.fault in
        (e ∙ ap status.Control q ∙ sym e', l ∙ ap control_line q ∙ sym l')

    same-runs : (o p : Outcome) → s ≡ status.Ended o → s' ≡ status.Ended p → IsRunOf limits control file goal o text
        → IsRunOf limits control file goal p text'
        → Same s s' text text'
    same-runs o p e e' r r' =
        let same = one-texts file goal r.m r'.m r.g r'.g r.names r'.names r.loaded r'.loaded in
        let controls = one-asked control r.controls r'.controls r.asked r'.asked in
        let one =
        one_report (program_of r'.m) (start_of r'.m r'.g) limits r'.controls r'.names (goal_variables r'.g.names) o p text text'
        (subst (λ cs. IsReportOver limits cs (texts r'.m r'.g r'.names) o text) controls
        (subst (λ t. IsReportOver limits r.controls t o text) same r.by_one_worker)) r'.by_one_worker in
        (e ∙ ap status.Ended one.0 ∙ sym e', one.1)

    -- where both load neither has a fault
    loads-goal-fault : (f : Fault) → BothLoad file goal → IsFirstGoalFault file goal f → ⊥
    loads-goal-fault f l i = no-first-goal-fault file goal l.m l.g l.names f l.loaded i

    loads-module-fault : (f : Fault) → BothLoad file goal → IsFirstFault file f → ⊥
    loads-module-fault f l i = no-fault file l.m l.loaded.before f l.loaded.loaded i

    module-and-goal-fault : (f g : Fault) → IsFirstFault file f → IsFirstGoalFault file goal g → ⊥
    module-and-goal-fault f g i j = no-fault file j.m j.before f j.loaded i

    both : (o : Outcome) (x : Bytes) → IsRunOf limits control file goal o x → BothLoad file goal
    both o x r = record { m = r.m; g = r.g; names = r.names; loaded = r.loaded }

    -- a run has the controls that are asked for, and so no fault of the control text
    ran-control-fault : (o : Outcome) (x : Bytes) (n : ℕ) → IsRunOf limits control file goal o x → IsControlFault control file goal n → ⊥
    ran-control-fault o x n r i = no-fault-asked control r.controls n r.asked i.fault

    one-run : RunAnswer limits control file goal s text → RunAnswer limits control file goal s' text' → Same s s' text text'
    one-run (kinds.ran o e r) (kinds.ran p e' r') = same-runs o p e e' r r'
    one-run (kinds.ran o e r) (kinds.module_fault f e' l i) = absurd (loads-module-fault f (both o text r) i)
    one-run (kinds.ran o e r) (kinds.goal_fault f e' l i) = absurd (loads-goal-fault f (both o text r) i)
    one-run (kinds.ran o e r) (kinds.control_fault n e' l i) = absurd (ran-control-fault o text n r i)
    one-run (kinds.module_fault f e l i) (kinds.ran o e' r) = absurd (loads-module-fault f (both o text' r) i)
    one-run (kinds.module_fault f e l i) (kinds.module_fault g e' l' j) = same-module-faults f g e e' l l' i j
    one-run (kinds.module_fault f e l i) (kinds.goal_fault g e' l' j) = absurd (module-and-goal-fault f g i j)
    one-run (kinds.module_fault f e l i) (kinds.control_fault n e' l' j) = absurd (loads-module-fault f j.load i)
    one-run (kinds.goal_fault f e l i) (kinds.ran o e' r) = absurd (loads-goal-fault f (both o text' r) i)
    one-run (kinds.goal_fault f e l i) (kinds.module_fault g e' l' j) = absurd (module-and-goal-fault g f j i)
    one-run (kinds.goal_fault f e l i) (kinds.goal_fault g e' l' j) = same-goal-faults f g e e' l l' i j
    one-run (kinds.goal_fault f e l i) (kinds.control_fault n e' l' j) = absurd (loads-goal-fault f j.load i)
    one-run (kinds.control_fault n e l i) (kinds.ran o e' r) = absurd (ran-control-fault o text' n r i)
    one-run (kinds.control_fault n e l i) (kinds.module_fault g e' l' j) = absurd (loads-module-fault g i.load j)
    one-run (kinds.control_fault n e l i) (kinds.goal_fault g e' l' j) = absurd (loads-goal-fault g i.load j)
    one-run (kinds.control_fault n e l i) (kinds.control_fault k e' l' j) = same-control-faults n k e e' l l' i j

pub one-answer : (o : Order) (file : Bytes) (s s' : Status) (text text' : Bytes) → (s ≡ status.NoMemory → ⊥) → (s' ≡ status.NoMemory → ⊥)
    → AnswersOrder o file s text → AnswersOrder o file s' text' → Same s s' text text'
one-answer (Run name goal limits control) file s s' text text' enough enough' a a' =
    one-run file s s' text text' limits control goal (run-answer limits control file goal s text a enough)
    (run-answer limits control file goal s' text' a' enough')
one-answer (Show name) file s s' text text' enough enough' a a' =
    one-show file s s' text text' (show-answer file s text a enough) (show-answer file s' text' a' enough')
