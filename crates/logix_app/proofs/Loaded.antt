-- What the texts of a module and a goal are, and what is answered to them.
use Rattle.std.proofs.Common.{◌≡◌, ◌≤◌, ℕ, List, length, ap, sym, ◌∙◌, subst, refl, arith, Option, Ok, Err}
use Rattle.std.specs.Prelude.{Result, IfOk}
use Rattle.fcp_model.specs.declared.memory.NoMemory.{NoMemory}
use Rattle.fcp_model.specs.declared.fault.Refused.{Refused}
use Rattle.fcp_model.specs.declared.fault.Refused.TheVariants as refused
use Rattle.fcp_model.specs.declared.source.Module.{Module}
use Rattle.fcp_model.specs.declared.source.GoalText.{GoalText}
use Rattle.fcp_model.specs.declared.run.Limits.{Limits}
use Rattle.fcp_text.specs.SourceClauses.{module_text}
use Rattle.fcp_model.specs.NameList.{reserved_names}
use Rattle.fcp_model.specs.Spelling.{Bytes}
use Rattle.fcp_loader.specs.Faults.{faults_of, goal_faults_of}
use Rattle.fcp_loader.specs.Loading.{Loads, LoadsGoal}
use Rattle.fcp_reader.specs.Sources.{IsModule, IsGoal, ReadsModule, ReadsGoal}
use Rattle.goal_layout.specs.Goals.{MayBeLaid}
use Rattle.layable_goals.specs.Laws.{AGoalOfATextMayBeLaid}
use Rattle.reading_laws.proofs.ReadAgain.{canonical_texts}
use Rattle.logix_app.specs.declared.answer.Answer.{Answer}
use Rattle.logix_app.specs.Answers.{IsShownAs, AnswersRun, AnswersShow}
use Rattle.logix_app.specs.Loading.{IsLoadedModule, in_module, AreLoaded}
use Rattle.logix_app.specs.Loading as loading
use Rattle.logix_app.specs.Parts.{text_of, IsOfSomeText, LoadsText, IsLoadedGoal, LoadsGoalText, TellsModule, TellsGoal}

-- a module that was read is loaded
pub loads-text : (before : List Bytes) (file : Bytes) (after : List Bytes) (m : Module) (r : Result Module Refused)
    → before ≡ reserved_names → ReadsModule before file after (Ok m) → Loads m r → LoadsText file after r
loads-text before file after m (Ok l) e read load = record {
  is_module = subst (λ x. IsModule reserved_names file x) (sym load.same) (subst (λ x. IsModule x file m) e read.0);
  faultless = ap faults_of load.same ∙ load.faultless;
  strings = read.1 ∙ ap (λ x. Rattle.fcp_reader.specs.Sources.names_behind_module x file) e;
}
loads-text before file after m (Err (refused.Fault f)) e read load = in_module m (subst (λ x. IsModule x file m) e read.0) load
loads-text before file after m (Err (refused.NoMemory n)) e read load = tt

-- a module that was not read
pub refuses-text : (before : List Bytes) (file : Bytes) (after : List Bytes) (r : Refused) → before ≡ reserved_names
    → ReadsModule before file after (Err r) → LoadsText file after (Err r)
refuses-text before file after (refused.Fault f) e read =
    loading.in_text (subst (λ x. Rattle.fcp_reader.specs.Sources.IsModuleFault x file f) e read)
refuses-text before file after (refused.NoMemory n) e read = tt

-- a goal that was read is loaded
pub loads-goal : (m : Module) (before : List Bytes) (goal : Bytes) (after : List Bytes) (g : GoalText)
    (r : Result (GoalText × List ℕ) Refused) → ReadsGoal before goal after (Ok g) → LoadsGoal m g r → LoadsGoalText m before goal after r
loads-goal m before goal after g (Ok l) read load = record {
  is_goal = subst (IsGoal before goal) (sym load.same) read.0;
  faultless = ap (goal_faults_of m) load.same ∙ load.faultless;
  strings = read.1;
}
loads-goal m before goal after g (Err (refused.Fault f)) read load = loading.in_goal g read.0 load
loads-goal m before goal after g (Err (refused.NoMemory n)) read load = tt

-- a goal that was not read
pub refuses-goal : (m : Module) (before : List Bytes) (goal : Bytes) (after : List Bytes) (r : Refused)
    → ReadsGoal before goal after (Err r) → LoadsGoalText m before goal after (Err r)
refuses-goal m before goal after (refused.Fault f) read = loading.in_text read
refuses-goal m before goal after (refused.NoMemory n) read = tt

-- a goal that was loaded for a loaded module
pub both-loaded : (file goal : Bytes) (m : Module) (before : List Bytes) (g : GoalText) (names : List Bytes) → IsLoadedModule file m before
    → IsLoadedGoal m before goal g names → AreLoaded file goal m g names
both-loaded file goal m before g names l t =
    record { before = before; loaded = l; is_goal = t.is_goal; faultless = t.faultless; strings = t.strings }

-- the canonical text is the answer
pub shown : (file : Bytes) (m : Module) (names : List Bytes) → IsLoadedModule file m names → IsShownAs file (module_text names m)
shown file m names l = record {
  m = m;
  names = names;
  loaded = l;
  canonical = refl;
  reads_back = canonical_texts file m names l.is_module l.faultless l.strings;
}

-- a module that was loaded from a text that is not too long
pub of-some-text : (file : Bytes) (m : Module) (names : List Bytes) → length file ≤ 1048576 → IsLoadedModule file m names
    → IsOfSomeText m names
of-some-text file m names short loaded = record { file = file; short = short; loaded = loaded }

-- a goal that was read and loaded for a module of a text may be laid
pub laid-goal : (m : Module) (before : List Bytes) (goal : Bytes) (after : List Bytes) (g : GoalText)
    (r : Result (GoalText × List ℕ) Refused) → AGoalOfATextMayBeLaid → IsOfSomeText m before → ReadsGoal before goal after (Ok g)
    → LoadsGoal m g r
    → IfOk r (MayBeLaid m)
laid-goal m before goal after g (Ok l) law of read load =
    law reserved_names of.file m before goal g l of.loaded.is_module (omega (arith, of.short)) read.0 load
laid-goal m before goal after g (Err e) law of read load = tt

-- the answers where a module or a goal was refused
pub refused-run : (limits : Limits) (control : Option Bytes) (file goal : Bytes) (names : List Bytes) (r : Refused)
    (a : Result Answer NoMemory)
    → LoadsText file names (Err r)
    → IfOk a (TellsModule r) → IfOk a (λ x. AnswersRun limits control file goal x.status (text_of x.output))
refused-run limits control file goal names (refused.Fault f) (Ok a) l t =
    subst (λ s. AnswersRun limits control file goal s (text_of a.output)) (sym t.0) (t.1, l)
refused-run limits control file goal names (refused.NoMemory n) (Ok a) l t = absurd t
refused-run limits control file goal names r (Err e) l t = tt

pub refused-show : (file : Bytes) (names : List Bytes) (r : Refused) (a : Result Answer NoMemory) → LoadsText file names (Err r)
    → IfOk a (TellsModule r) → IfOk a (λ x. AnswersShow file x.status (text_of x.output))
refused-show file names (refused.Fault f) (Ok a) l t = subst (λ s. AnswersShow file s (text_of a.output)) (sym t.0) (t.1, l)
refused-show file names (refused.NoMemory n) (Ok a) l t = absurd t
refused-show file names r (Err e) l t = tt

pub refused-goal : (limits : Limits) (control : Option Bytes) (file goal : Bytes) (m : Module) (before names : List Bytes) (r : Refused)
    (a : Result Answer NoMemory)
    → IsLoadedModule file m before → LoadsGoalText m before goal names (Err r) → IfOk a (TellsGoal r)
    → IfOk a (λ x. AnswersRun limits control file goal x.status (text_of x.output))
refused-goal limits control file goal m before names (refused.Fault f) (Ok a) l first t =
    subst (λ s. AnswersRun limits control file goal s (text_of a.output)) (sym t.0)
    (t.1, record { m = m; before = before; loaded = l; first = first })
refused-goal limits control file goal m before names (refused.NoMemory n) (Ok a) l first t = absurd t
refused-goal limits control file goal m before names r (Err e) l first t = tt
