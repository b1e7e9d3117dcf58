-- The last configuration of a run, by its outcome.
use Rattle.std.proofs.Common.{◌≡◌, ℕ, Bool, true, false, List, [], ◌∷◌, ◌++◌, Some, refl, sym, ap, ◌∙◌, subst}
use Rattle.std.specs.Prelude.{MatchBool, ◌||◌, nat_le, ◌-◌}
use Rattle.std.specs.List.{list_all, list_any}
use Rattle.std.proofs.lemmas.Bool.{true≢false, and_parts, and_from}
use Rattle.fcp_model.specs.declared.run.Limits.{Limits}
use Rattle.fcp_model.specs.declared.run.Entry.{Entry}
use Rattle.fcp_model.specs.declared.run.Act.{Act}
use Rattle.fcp_model.specs.declared.run.Act.TheVariants as act
use Rattle.fcp_model.specs.declared.run.Outcome.{Outcome}
use Rattle.fcp_model.specs.declared.run.Outcome.TheVariants.{Failed, Aborted, Held, Terminated, Suspended, Budget, Full}
use Rattle.fcp_model.specs.Places.{Variable}
use Rattle.fcp_model.specs.Terms.{Bindings}
use Rattle.fcp_model.specs.Programs.{Goal, Program}
use Rattle.fcp_model.specs.Decisions.{Decision, commits, decides_fail, waits_on}
use Rattle.fcp_model.specs.States.{Status, ready, waiting, finished, Process, State, Mode, is_open, is_held, is_failed, is_aborted, is_ready, is_finished}
use Rattle.fcp_model.specs.Events.{Event, event_of}
use Rattle.fcp_model.specs.Bounds.{act_entry, commits_in, moves_in}
use Rattle.fcp_model.specs.OneWorker.{mode_after}
use Rattle.fcp_model.specs.Runs.{allows, next, replay, IsRun, last_state, entries_of, cells_of}
use Rattle.fcp_model.specs.Outcomes.{AllTooLarge, EndsOpen, EndsAt, Ends}
use Rattle.fcp_model.specs.LawfulStates.{Each, StandsRight, IsOrdered, IsLawfulState}
use Rattle.transition_laws.specs.Transitions.{live_goals, configuration, Fails, IsDeadlock}
use Rattle.transition_laws.proofs.NextEvents.{IsMover, by_next}
use Rattle.transition_laws.proofs.Tries.{DecidesWait, waits_not_reduces, waits_not_fails}
use Rattle.transition_laws.proofs.LiveGoals.{with_goal, live_cons}
use Rattle.transition_laws.proofs.OneEntry.{move_is}
use Rattle.transition_laws.proofs.OrderedEvents.{ordered_after}
use Rattle.transition_laws.proofs.WholeRuns.{first_event, none_allowed}

-- where all processes are finished, and only there, no goal is left
pub none_left : (ps : List Process) → list_all (λ p. is_finished p.status) ps ≡ true → live_goals ps ≡ []
none_left [] h = refl
none_left (p ∷ ps) h =
    let both = and_parts _ _ h in
    live_cons p ps ∙ (ap (λ b. with_goal b p.goal (live_goals ps)) both.0 ∙ none_left ps both.1)

all_finished : (ps : List Process) → live_goals ps ≡ [] → list_all (λ p. is_finished p.status) ps ≡ true
all_finished [] h = refl
all_finished (p ∷ ps) h = go (is_finished p.status) refl (all_finished ps) (sym (live_cons p ps) ∙ h)
  where
    go : (b : Bool) → is_finished p.status ≡ b → (live_goals ps ≡ [] → list_all (λ q. is_finished q.status) ps ≡ true) →
        with_goal b p.goal (live_goals ps) ≡ [] → list_all (λ q. is_finished q.status) (p ∷ ps) ≡ true
    go true e rec i = and_from _ _ e (rec i)
    go false e rec i = absurd cc

-- what an outcome says of the state in which it is read: which alternative of an open run's end it may be
record IsEnd (s : State) (o : Outcome) : Type 0 where
  terminated : o ≡ Terminated → list_all (λ p. is_finished p.status) s.processes ≡ true
  suspended : o ≡ Suspended →
      (list_all (λ p. is_finished p.status) s.processes ≡ false) × (list_any (λ p. is_ready p.status) s.processes ≡ false)
  failed : o ≡ Failed → s.mode ≡ is_failed

module _ (m : Program) (s : State) (limits : Limits) (commits moves : ℕ) (o : Outcome) where
  abbrev all_done : Bool
  all_done = list_all (λ p. is_finished p.status) s.processes

  abbrev one_ready : Bool
  one_ready = list_any (λ p. is_ready p.status) s.processes

  -- an outcome that is none of the three
  another : (o' : Outcome) → o ≡ o' → (o' ≡ Terminated → ⊥) → (o' ≡ Suspended → ⊥) → (o' ≡ Failed → ⊥) → IsEnd s o
  another o' e t u f =
      record { terminated = λ i. absurd (t (sym e ∙ i)); suspended = λ i. absurd (u (sym e ∙ i)); failed = λ i. absurd (f (sym e ∙ i)) }

  at_limits : (b : Bool) (X : Type 0) → MatchBool b (o ≡ Budget) ((o ≡ Full) × X) → IsEnd s o
  at_limits true X i = another Budget i (λ e. cc) (λ e. cc) (λ e. cc)
  at_limits false X i = another Full i.0 (λ e. cc) (λ e. cc) (λ e. cc)

  at_ready : all_done ≡ false → (b : Bool) → one_ready ≡ b → (c : Bool) (X : Type 0) →
      MatchBool b (MatchBool c (o ≡ Budget) ((o ≡ Full) × X)) (o ≡ Suspended) → IsEnd s o
  at_ready d true r c X i = at_limits c X i
  at_ready d false r c X i =
      record {
        terminated = λ e. absurd (let j : Terminated ≡ Suspended = sym e ∙ i in cc);
        suspended = λ e. (d, r);
        failed = λ e. absurd
            (let j : Failed ≡ Suspended = sym e ∙ i in cc);
      }

  at_done : (b : Bool) → all_done ≡ b → (c : Bool) (X : Type 0) →
      MatchBool b (o ≡ Terminated) (MatchBool one_ready (MatchBool c (o ≡ Budget) ((o ≡ Full) × X)) (o ≡ Suspended)) → IsEnd s o
  at_done true d c X i =
      record {
        terminated = λ e. d;
        suspended = λ e. absurd (let j : Suspended ≡ Terminated = sym e ∙ i in cc);
        failed = λ e. absurd
            (let j : Failed ≡ Terminated = sym e ∙ i in cc);
      }
  at_done false d c X i = at_ready d one_ready refl c X i

  -- the end by the mode
  abbrev EndsIn : ℕ → Mode → Type 0
  EndsIn left mode = elim mode [
    | is_failed ↦ o ≡ Failed
    | is_aborted ↦ o ≡ Aborted
    | is_held ↦ o ≡ Held
    | is_open ↦ EndsOpen m s limits commits moves left o
  ]

  at_mode : (mode : Mode) → s.mode ≡ mode → (left : ℕ) → EndsIn left mode → IsEnd s o
  at_mode is_failed f left i =
      record {
        terminated = λ e. absurd (let j : Terminated ≡ Failed = sym e ∙ i in cc);
        suspended = λ e. absurd
            (let j : Suspended ≡ Failed = sym e ∙ i in cc);
        failed = λ e. f;
      }
  at_mode is_aborted f left i = another Aborted i (λ e. cc) (λ e. cc) (λ e. cc)
  at_mode is_held f left i = another Held i (λ e. cc) (λ e. cc) (λ e. cc)
  at_mode is_open f left i =
      at_done all_done refl (nat_le limits.commits commits || nat_le limits.moves moves) (AllTooLarge m s left s.processes) i

  is_end : (cells : ℕ) → EndsAt m s limits commits moves cells o → IsEnd s o
  is_end cells h = at_mode s.mode refl (limits.cells - cells) h

pub terminated_done : (m : Program) (limits : Limits) (s : State) (evs : List Event) → Ends m limits s evs Terminated →
    (configuration (last_state s evs)).goals ≡ []
terminated_done m limits s evs h =
    let e : IsEnd (last_state s evs) Terminated =
    is_end m (last_state s evs) limits (commits_in (entries_of evs)) (moves_in (entries_of evs)) Terminated (cells_of evs) h in
    none_left (last_state s evs).processes (e.terminated refl)

-- a wait is decided for each of the goals
abbrev AllWait : Program → Bindings → List (Goal Variable) → Type 0
AllWait m s [] = Unit {0}
AllWait m s (g ∷ gs) = DecidesWait m s g × AllWait m s gs

all_wait : (m : Program) (s : Bindings) (ps : List Process) → Each (λ p. StandsRight m s p p.status) ps →
    list_any (λ p. is_ready p.status) ps ≡ false → AllWait m s (live_goals ps)
all_wait m s [] h r = tt
all_wait m s (p ∷ ps) h r = subst (AllWait m s) (sym (live_cons p ps)) (go p.status h.0 r (all_wait m s ps h.1))
  where
    go : (st : Status) → StandsRight m s p st → (is_ready st || list_any (λ q. is_ready q.status) ps) ≡ false →
        (list_any (λ q. is_ready q.status) ps ≡ false → AllWait m s (live_goals ps)) →
        AllWait m s (with_goal (is_finished st) p.goal (live_goals ps))
    go ready w i rec = absurd (true≢false i)
    go (waiting vs) w i rec = ((w.reads, w.decides), rec i)
    go finished w i rec = rec i

waits_there : (m : Program) (s : Bindings) (gs front : List (Goal Variable)) (g : Goal Variable) (back : List (Goal Variable)) →
    AllWait m s gs → gs ≡ front ++ g ∷ back → DecidesWait m s g
waits_there m s gs front g back h e = go front (subst (AllWait m s) e h)
  where
    go : (front : List (Goal Variable)) → AllWait m s (front ++ g ∷ back) → DecidesWait m s g
    go [] i = i.0
    go (f ∷ fs) i = go fs i.1

pub is_deadlock : (m : Program) (s : State) → IsLawfulState m s → list_all (λ p. is_finished p.status) s.processes ≡ false →
    list_any (λ p. is_ready p.status) s.processes ≡ false → IsDeadlock m (configuration s)
is_deadlock m s h f r = record {
  goals_left = λ e. true≢false (sym (all_finished s.processes e) ∙ f);
  no_reduction = λ n after d.
      waits_not_reduces m s.bound d.goal (waits_there m s.bound (live_goals s.processes) d.front d.goal d.back waits d.goals_before)
      d.clause d.bindings d.body d.reduction;
  no_failure = λ d.
      waits_not_fails m s.bound d.goal (waits_there m s.bound (live_goals s.processes) d.front d.goal d.back waits d.goals) d.failure;
}
  where
    waits : AllWait m s.bound (live_goals s.processes)
    waits = all_wait m s.bound s.processes h.waits r

pub suspended_deadlock : (m : Program) (limits : Limits) (s : State) (evs : List Event) → IsLawfulState m (last_state s evs) →
    Ends m limits s evs Suspended → IsDeadlock m (configuration (last_state s evs))
suspended_deadlock m limits s evs h i =
    let e : IsEnd (last_state s evs) Suspended =
    is_end m (last_state s evs) limits (commits_in (entries_of evs)) (moves_in (entries_of evs)) Suspended (cells_of evs) i in
    let both = e.suspended refl in
    is_deadlock m (last_state s evs) h both.0 both.1

-- a state whose mode is failed is left by a fail alone
module _ (n : ℕ) (m : Program) (s : State) (ordered : IsOrdered s) where
  failing_move : (p : Process) (d : Decision) → IsMover n m s p d → (event_of m s p d).after.mode ≡ is_failed →
      Fails m (configuration (event_of m s p d).after)
  failing_move p (commits k bs rs) g f = absurd (let o : is_open ≡ is_failed = sym g.opened ∙ f in cc)
  failing_move p (waits_on rs) g f = absurd (let o : is_open ≡ is_failed = sym g.opened ∙ f in cc)
  failing_move p (decides_fail rs) g f = (move_is n m s ordered p (decides_fail rs) g).failure

  failing_control : (a : Act) → allows s (act_entry a) ≡ true → mode_after a s.mode ≡ is_failed → ⊥
  failing_control act.Snapshot h f = none_allowed s act.Snapshot f h
  failing_control act.Suspend h f = cc
  failing_control act.Resume h f = cc
  failing_control act.Abort h f = cc

  failing_event : (e : Entry) (ev : Event) → next n m s e ≡ Some ev → ev.after.mode ≡ is_failed → Fails m (configuration ev.after)
  failing_event e ev i =
      by_next n m s (λ e' ev'. ev'.after.mode ≡ is_failed → Fails m (configuration ev'.after))
      (record { at_move = λ p d g. failing_move p d g; at_control = λ a h f. absurd (failing_control a h f) }) e ev i

failing_run : (n : ℕ) (m : Program) (log : List Entry) (s : State) (evs : List Event) → IsOrdered s →
    (s.mode ≡ is_failed → Fails m (configuration s)) → replay n m s log ≡ Some evs →
    (last_state s evs).mode ≡ is_failed → Fails m (configuration (last_state s evs))
failing_run n m [] s evs h p i =
    let none : [] ≡ evs = cc in subst (λ xs. (last_state s xs).mode ≡ is_failed → Fails m (configuration (last_state s xs))) none p
failing_run n m (e ∷ es) s evs h p i =
    let f = first_event n m s e es evs i in
    subst (λ xs. (last_state s xs).mode ≡ is_failed → Fails m (configuration (last_state s xs))) f.split
    (failing_run n m es f.event.after f.rest (ordered_after n m s e f.event h f.first) (failing_event n m s h e f.event f.first) f.later)

pub failed_fails : (m : Program) (limits : Limits) (s : State) (log : List Entry) (evs : List Event) → IsOrdered s → s.mode ≡ is_open →
    IsRun m s log evs → Ends m limits s evs Failed → Fails m (configuration (last_state s evs))
failed_fails m limits s log evs h o (n, i) j =
    let e : IsEnd (last_state s evs) Failed =
    is_end m (last_state s evs) limits (commits_in (entries_of evs)) (moves_in (entries_of evs)) Failed (cells_of evs) j in
    failing_run n m log s evs h (λ f. absurd (let x : is_open ≡ is_failed = sym o ∙ f in cc)) i (e.failed refl)
