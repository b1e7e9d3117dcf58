-- Texts are one module and one goal, or have one first fault.
use Rattle.std.proofs.Common.{◌≡◌, List, [], Some, ap, sym, ◌∙◌, subst}
use Rattle.fcp_model.specs.declared.fault.Fault.{Fault}
use Rattle.fcp_model.specs.declared.source.Module.{Module}
use Rattle.fcp_model.specs.declared.source.GoalText.{GoalText}
use Rattle.fcp_model.specs.NameList.{reserved_names}
use Rattle.fcp_model.specs.Spelling.{Bytes}
use Rattle.fcp_loader.specs.Faults.{faults_of, goal_faults_of}
use Rattle.fcp_loader.specs.Firsts.{first_of}
use Rattle.fcp_reader.specs.Sources.{IsGoal, names_behind_goal}
use Rattle.fcp_reader.proofs.TextLaws.{one-module, one-goal, no-module-fault, no-goal-fault, one_fault_law}
use Rattle.logix_app.specs.Loading.{IsLoadedModule, IsFirstFault, in_text, in_module, AreLoaded, IsFirstGoalFaultFor, IsFirstGoalFault}
use Rattle.logix_app.specs.Loading as loading

-- what a file and a goal are
pub record Texts : Type 0 where
  pub m : Module
  pub g : GoalText
  pub names : List Bytes

-- what they are, as one
abbrev pub texts : Module → GoalText → List Bytes → Texts
texts m g names = record { m = m; g = g; names = names }

no-first : (fs : List Fault) (f : Fault) → fs ≡ [] → first_of fs ≡ Some f → ⊥
no-first fs f e h = let g : first_of [] ≡ Some f = sym (ap first_of e) ∙ h in cc

one-some : {X : Type 0} (x y : X) → Some x ≡ Some y → x ≡ y
one-some x y e = cc

-- a file is one module
pub one-loaded : (file : Bytes) (m n : Module) (names others : List Bytes) → IsLoadedModule file m names → IsLoadedModule file n others
    → (m ≡ n) × (names ≡ others)
one-loaded file m n names others a b = (one-module reserved_names file m n a.is_module b.is_module, a.strings ∙ sym b.strings)

-- a module without a fault has no first one
pub no-fault : (file : Bytes) (m : Module) (names : List Bytes) (f : Fault) → IsLoadedModule file m names → IsFirstFault file f → ⊥
no-fault file m names f l (in_text t) = no-module-fault reserved_names file m f l.is_module t
no-fault file m names f l (in_module n is first) =
    no-first (faults_of n) f (ap faults_of (one-module reserved_names file n m is l.is_module) ∙ l.faultless) first

-- a file has one first fault
pub one-first-fault : (file : Bytes) (f g : Fault) → IsFirstFault file f → IsFirstFault file g → f ≡ g
one-first-fault file f g (in_text s) (in_text t) = one_fault_law.0 reserved_names file f g s t
one-first-fault file f g (in_text s) (in_module m is first) = absurd (no-module-fault reserved_names file m f is s)
one-first-fault file f g (in_module m is first) (in_text t) = absurd (no-module-fault reserved_names file m g is t)
one-first-fault file f g (in_module m is first) (in_module n js second) =
    one-some f g (sym first ∙ ap (λ x. first_of (faults_of x)) (one-module reserved_names file m n is js) ∙ second)

-- a file and a goal are one module and one goal
pub one-texts : (file goal : Bytes) (m n : Module) (g h : GoalText) (names others : List Bytes) → AreLoaded file goal m g names
    → AreLoaded file goal n h others → texts m g names ≡ texts n h others
one-texts file goal m n g h names others a b =
    let l = one-loaded file m n a.before b.before a.loaded b.loaded in
    let i : g ≡ h = one-goal b.before goal g h (subst (λ x. IsGoal x goal g) l.1 a.is_goal) b.is_goal in
    let s : names ≡ others = a.strings ∙ ap (λ x. names_behind_goal x goal) l.1 ∙ sym b.strings in
    ap (λ x. texts x g names) l.0 ∙ ap (λ x. texts n x names) i ∙ ap (texts n h) s

-- a goal without a fault has no first one
no-goal-fault-for : (m : Module) (before : List Bytes) (goal : Bytes) (g : GoalText) (f : Fault) → IsGoal before goal g
    → goal_faults_of m g ≡ [] → IsFirstGoalFaultFor m before goal f → ⊥
no-goal-fault-for m before goal g f is e (loading.in_text t) = no-goal-fault before goal g f is t
no-goal-fault-for m before goal g f is e (loading.in_goal h js first) =
    no-first (goal_faults_of m h) f (ap (goal_faults_of m) (one-goal before goal h g js is) ∙ e) first

pub no-first-goal-fault : (file goal : Bytes) (m : Module) (g : GoalText) (names : List Bytes) (f : Fault) → AreLoaded file goal m g names
    → IsFirstGoalFault file goal f → ⊥
no-first-goal-fault file goal m g names f l n =
    let e = one-loaded file n.m m n.before l.before n.loaded l.loaded in
    no-goal-fault-for m l.before goal g f l.is_goal l.faultless
    (subst (λ x. IsFirstGoalFaultFor m x goal f) e.1 (subst (λ x. IsFirstGoalFaultFor x n.before goal f) e.0 n.first))

one-goal-fault-for : (m : Module) (before : List Bytes) (goal : Bytes) (f g : Fault) → IsFirstGoalFaultFor m before goal f
    → IsFirstGoalFaultFor m before goal g → f ≡ g
one-goal-fault-for m before goal f g (loading.in_text s) (loading.in_text t) = one_fault_law.1 before goal f g s t
one-goal-fault-for m before goal f g (loading.in_text s) (loading.in_goal h is first) = absurd (no-goal-fault before goal h f is s)
one-goal-fault-for m before goal f g (loading.in_goal h is first) (loading.in_text t) = absurd (no-goal-fault before goal h g is t)
one-goal-fault-for m before goal f g (loading.in_goal h is first) (loading.in_goal k js second) =
    one-some f g (sym first ∙ ap (λ x. first_of (goal_faults_of m x)) (one-goal before goal h k is js) ∙ second)

-- a goal has one first fault for a file
pub one-first-goal-fault : (file goal : Bytes) (f g : Fault) → IsFirstGoalFault file goal f → IsFirstGoalFault file goal g → f ≡ g
one-first-goal-fault file goal f g a b =
    let e = one-loaded file a.m b.m a.before b.before a.loaded b.loaded in
    one-goal-fault-for b.m b.before goal f g
    (subst (λ x. IsFirstGoalFaultFor b.m x goal f) e.1 (subst (λ x. IsFirstGoalFaultFor x a.before goal f) e.0 a.first)) b.first
