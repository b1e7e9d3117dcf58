-- The event of a next entry, by what makes it: a process for which a decision is made, or a control.
use Rattle.std.proofs.Common.{◌≡◌, ℕ, Bool, true, false, cond, Option, Some, None, refl, sym, ap, ◌∙◌, subst}
use Rattle.std.specs.Prelude.{option_map, ◌&&◌}
use Rattle.std.proofs.lemmas.Bool.{true≢false, eqb-true, and_parts, and_from, eq-eqb}
use Rattle.fcp_model.specs.declared.run.Proc.{Proc}
use Rattle.fcp_model.specs.declared.run.Entry.{Entry}
use Rattle.fcp_model.specs.declared.run.Entry.TheVariants.{Commit, Hang, Fail, Snapshot, Suspend, Resume, Abort}
use Rattle.fcp_model.specs.declared.run.Act.{Act}
use Rattle.fcp_model.specs.declared.run.Act.TheVariants as act
use Rattle.fcp_model.specs.Programs.{Program}
use Rattle.fcp_model.specs.Decisions.{Decision, commits, decides_fail, waits_on, decide}
use Rattle.fcp_model.specs.States.{ready, Process, State, Mode, is_open, is_held, is_failed, is_aborted, is_ready, is_running, process_named}
use Rattle.fcp_model.specs.Events.{Event, event_of, control_event}
use Rattle.fcp_model.specs.Bounds.{act_entry}
use Rattle.fcp_model.specs.OneWorker.{mode_after}
use Rattle.fcp_model.specs.Runs.{allows, is_ready_in, IsDecidedFor, IsDecided, entry_decided, is_same_move, move_on, move, agreed, control, next}
use Rattle.fcp_laws.proofs.ProcessNames.{same_process, same_itself, name_found}
use Rattle.fcp_laws.proofs.SoundSchedules.{is_ready-true}
use Rattle.transition_laws.specs.Laws.{IsNext}

-- a Ready process of an open run, for which a decision is made
pub record IsMover (n : ℕ) (m : Program) (s : State) (p : Process) (d : Decision) : Type 0 where
  pub named : process_named s.processes p.name ≡ Some p
  pub at_ready : p.status ≡ ready
  pub opened : s.mode ≡ is_open
  pub decided : decide n m s.bound p.goal ≡ Some d

-- a fact of next entries, by what makes them
pub record Holds (n : ℕ) (m : Program) (s : State) (P : Entry → Event → Type 0) : Type 0 where
  pub at_move : (p : Process) (d : Decision) → IsMover n m s p d → P (event_of m s p d).entry (event_of m s p d)
  pub at_control : (a : Act) → allows s (act_entry a) ≡ true → P (act_entry a) (control_event s (act_entry a) (mode_after a s.mode))

same_move : (e x : Entry) → is_same_move e x ≡ true → x ≡ e
same_move (Commit p k) (Commit q j) h =
    let both = and_parts _ _ h in
    let names : p ≡ q = same_process p q both.0 in
    let numbers : k ≡ j = eqb-true _ _ both.1 in
    cc
same_move (Hang p) (Hang q) h = ap Hang (sym (same_process p q h))
same_move (Fail p) (Fail q) h = ap Fail (sym (same_process p q h))
same_move _ _ h = absurd (true≢false (sym h))

move_itself : (m : Program) (s : State) (p : Process) (d : Decision) →
    is_same_move (event_of m s p d).entry (event_of m s p d).entry ≡ true
move_itself m s p (commits k bs rs) = and_from _ _ (same_itself p.name) (eq-eqb k k refl)
move_itself m s p (waits_on rs) = same_itself p.name
move_itself m s p (decides_fail rs) = same_itself p.name

open_of : (mode : Mode) → is_running mode ≡ true → mode ≡ is_open
open_of is_open h = refl
open_of is_held h = absurd (true≢false (sym h))
open_of is_failed h = absurd (true≢false (sym h))
open_of is_aborted h = absurd (true≢false (sym h))

module _ (n : ℕ) (m : Program) (s : State) (P : Entry → Event → Type 0) (h : Holds n m s P) where
  by_move : (name : Proc) (e : Entry) (ev : Event) → agreed e (move n m s name) ≡ Some ev → P e ev
  by_move name e ev i = at_process (process_named s.processes name) refl i
    where
      at_entry : (p : Process) (d : Decision) → IsMover n m s p d → (b : Bool) → is_same_move e (event_of m s p d).entry ≡ b →
          cond b (Some (event_of m s p d)) None ≡ Some ev → P e ev
      at_entry p d g false f j = absurd cc
      at_entry p d g true f j =
          let made : event_of m s p d ≡ ev = cc in
          subst (λ x. P e x) made (subst (λ x. P x (event_of m s p d)) (same_move e (event_of m s p d).entry f) (h.at_move p d g))

      at_decision : (p : Process) → process_named s.processes name ≡ Some p → (is_running s.mode && is_ready p.status) ≡ true →
          (o : Option Decision) → decide n m s.bound p.goal ≡ o →
          agreed e (option_map (event_of m s p) o) ≡ Some ev → P e ev
      at_decision p f g None k j = absurd cc
      at_decision p f g (Some d) k j =
          let both = and_parts _ _ g in
          at_entry p d
          (record {
            named = subst (λ x. process_named s.processes x ≡ Some p) (sym (name_found s.processes name p f)) f;
            at_ready = is_ready-true p.status both.1;
            opened = open_of s.mode both.0;
            decided = k;
          })
          (is_same_move e (event_of m s p d).entry) refl j

      at_running : (p : Process) → process_named s.processes name ≡ Some p → (b : Bool) → (is_running s.mode && is_ready p.status) ≡ b →
          agreed e (cond b (option_map (event_of m s p) (decide n m s.bound p.goal)) None) ≡ Some ev → P e ev
      at_running p f false g j = absurd cc
      at_running p f true g j = at_decision p f g (decide n m s.bound p.goal) refl j

      at_process : (o : Option Process) → process_named s.processes name ≡ o → agreed e (move_on n m s o) ≡ Some ev → P e ev
      at_process None f j = absurd cc
      at_process (Some p) f j = at_running p f (is_running s.mode && is_ready p.status) refl j

  by_control : (a : Act) (allowed : Bool) → allows s (act_entry a) ≡ allowed → (ev : Event) →
      control s (act_entry a) allowed (mode_after a s.mode) ≡ Some ev → P (act_entry a) ev
  by_control a false f ev i = absurd cc
  by_control a true f ev i =
      let made : control_event s (act_entry a) (mode_after a s.mode) ≡ ev = cc in
      subst (λ x. P (act_entry a) x) made (h.at_control a f)

  pub by_next : (e : Entry) (ev : Event) → next n m s e ≡ Some ev → P e ev
  by_next (Commit p k) ev i = by_move p (Commit p k) ev i
  by_next (Hang p) ev i = by_move p (Hang p) ev i
  by_next (Fail p) ev i = by_move p (Fail p) ev i
  by_next Snapshot ev i = by_control act.Snapshot _ refl ev i
  by_next Suspend ev i = by_control act.Suspend _ refl ev i
  by_next Resume ev i = by_control act.Resume _ refl ev i
  by_next Abort ev i = by_control act.Abort _ refl ev i

-- the entry of an event, and where it begins
pub event_of_entry : (m : Program) (s : State) (e : Entry) (ev : Event) → IsNext m s e ev → (ev.entry ≡ e) × (ev.before ≡ s)
event_of_entry m s e ev (n, i) =
    by_next n m s (λ e' ev'. (ev'.entry ≡ e') × (ev'.before ≡ s))
    (record { at_move = λ p d g. (refl, before d p); at_control = λ a f. (refl, refl) }) e ev i
  where
    before : (d : Decision) (p : Process) → (event_of m s p d).before ≡ s
    before (commits k bs rs) p = refl
    before (waits_on rs) p = refl
    before (decides_fail rs) p = refl

-- a next entry is allowed and decided
ready_there : (n : ℕ) (m : Program) (s : State) (p : Process) (d : Decision) → IsMover n m s p d →
    (is_running s.mode && is_ready_in s.processes p.name) ≡ true
ready_there n m s p d g =
    and_from _ _ (ap is_running g.opened)
    (ap (λ (o : Option Process). elim o [ None ↦ false | Some q ↦ is_ready q.status ]) g.named ∙ ap is_ready g.at_ready)

decided_for : (n : ℕ) (m : Program) (s : State) (p : Process) (d : Decision) → IsMover n m s p d →
    IsDecidedFor m s p.name (entry_decided p.name d)
decided_for n m s p d g = record { process = p; named = g.named; decision = d; decides = (n, g.decided); agrees = refl }

mover_allowed : (n : ℕ) (m : Program) (s : State) (p : Process) (d : Decision) → IsMover n m s p d →
    (allows s (event_of m s p d).entry ≡ true) × IsDecided m s (event_of m s p d).entry
mover_allowed n m s p (commits k bs rs) g = (ready_there n m s p _ g, decided_for n m s p (commits k bs rs) g)
mover_allowed n m s p (waits_on rs) g = (ready_there n m s p _ g, decided_for n m s p (waits_on rs) g)
mover_allowed n m s p (decides_fail rs) g = (ready_there n m s p _ g, decided_for n m s p (decides_fail rs) g)

control_decided : (m : Program) (s : State) (a : Act) → IsDecided m s (act_entry a)
control_decided m s act.Snapshot = tt
control_decided m s act.Suspend = tt
control_decided m s act.Resume = tt
control_decided m s act.Abort = tt

pub allowed_and_decided : (m : Program) (s : State) (e : Entry) (ev : Event) → IsNext m s e ev → (allows s e ≡ true) × IsDecided m s e
allowed_and_decided m s e ev (n, i) =
    by_next n m s (λ e' ev'. (allows s e' ≡ true) × IsDecided m s e')
    (record { at_move = λ p d g. mover_allowed n m s p d g; at_control = λ a f. (f, control_decided m s a) }) e ev i

-- an allowed and decided entry is a next one
entry_of_decision : (m : Program) (s : State) (p : Process) (d : Decision) → (event_of m s p d).entry ≡ entry_decided p.name d
entry_of_decision m s p (commits k bs rs) = refl
entry_of_decision m s p (waits_on rs) = refl
entry_of_decision m s p (decides_fail rs) = refl

pub move_there : (m : Program) (s : State) (name : Proc) (e : Entry) → (is_running s.mode && is_ready_in s.processes name) ≡ true →
    (h : IsDecidedFor m s name e) → agreed e (move h.decides.0 m s name) ≡ Some (event_of m s h.process h.decision)
move_there m s name e allowed h =
    ap (λ o. agreed e (move_on n m s o)) h.named
    ∙ (ap (λ b. agreed e (cond b (option_map (event_of m s p) (decide n m s.bound p.goal)) None)) runs
    ∙ (ap (λ o. agreed e (option_map (event_of m s p) o)) h.decides.1
    ∙ ap (λ b. cond b (Some (event_of m s p h.decision)) None) agrees))
  where
    n : ℕ
    n = h.decides.0

    p : Process
    p = h.process

    runs : (is_running s.mode && is_ready p.status) ≡ true
    runs = sym (ap (λ (o : Option Process). is_running s.mode && elim o [ None ↦ false | Some q ↦ is_ready q.status ]) h.named) ∙ allowed

    is_e : (event_of m s p h.decision).entry ≡ e
    is_e = entry_of_decision m s p h.decision ∙ (ap (λ x. entry_decided x h.decision) (name_found s.processes name p h.named) ∙ h.agrees)

    agrees : is_same_move e (event_of m s p h.decision).entry ≡ true
    agrees = subst (λ x. is_same_move x (event_of m s p h.decision).entry ≡ true) is_e (move_itself m s p h.decision)

control_there : (m : Program) (s : State) (a : Act) → allows s (act_entry a) ≡ true →
    next 0 m s (act_entry a) ≡ Some (control_event s (act_entry a) (mode_after a s.mode))
control_there m s act.Snapshot f = ap (λ b. control s Snapshot b s.mode) f
control_there m s act.Suspend f = ap (λ b. control s Suspend b is_held) f
control_there m s act.Resume f = ap (λ b. control s Resume b is_open) f
control_there m s act.Abort f = ap (λ b. control s Abort b is_aborted) f

pub next_there : (m : Program) (s : State) (e : Entry) → (allows s e ≡ true) × IsDecided m s e → (ev : Event) × IsNext m s e ev
next_there m s (Commit p k) h = (_, (h.1.decides.0, move_there m s p (Commit p k) h.0 h.1))
next_there m s (Hang p) h = (_, (h.1.decides.0, move_there m s p (Hang p) h.0 h.1))
next_there m s (Fail p) h = (_, (h.1.decides.0, move_there m s p (Fail p) h.0 h.1))
next_there m s Snapshot h = (_, (0, control_there m s act.Snapshot h.0))
next_there m s Suspend h = (_, (0, control_there m s act.Suspend h.0))
next_there m s Resume h = (_, (0, control_there m s act.Resume h.0))
next_there m s Abort h = (_, (0, control_there m s act.Abort h.0))
