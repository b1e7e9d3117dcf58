-- Whole runs: their reductions, and that a fail is last.
use Rattle.std.proofs.Common.{◌≡◌, ℕ, suc, Bool, true, false, cond, List, [], ◌∷◌, ◌++◌, Option, Some, None, refl, sym, ap, subst}
use Rattle.std.specs.Prelude.{option_map, option_and_then}
use Rattle.std.proofs.lemmas.Bool.{true≢false}
use Rattle.fcp_model.specs.declared.run.Proc.{Proc}
use Rattle.fcp_model.specs.declared.run.Entry.{Entry}
use Rattle.fcp_model.specs.declared.run.Entry.TheVariants.{Commit, Hang, Fail, Snapshot, Suspend, Resume, Abort}
use Rattle.fcp_model.specs.declared.run.Act.{Act}
use Rattle.fcp_model.specs.declared.run.Act.TheVariants as act
use Rattle.fcp_model.specs.Programs.{Program}
use Rattle.fcp_model.specs.Decisions.{Decision, commits, decides_fail, waits_on}
use Rattle.fcp_model.specs.States.{Process, State, Mode, is_open, is_held, is_failed, is_aborted}
use Rattle.fcp_model.specs.Events.{Event, event_of}
use Rattle.fcp_model.specs.Bounds.{is_commit, is_fail, act_entry}
use Rattle.fcp_model.specs.Runs.{allows, next, replay, last_state}
use Rattle.fcp_model.specs.LawfulStates.{IsOrdered}
use Rattle.transition_laws.specs.Transitions.{Configuration, configuration, Reduces, commits_of, Computes}
use Rattle.transition_laws.specs.Laws.{IsTransition}
use Rattle.transition_laws.proofs.NextEvents.{by_next, event_of_entry}
use Rattle.transition_laws.proofs.OneEntry.{is_transition}
use Rattle.transition_laws.proofs.OrderedEvents.{ordered_after}

-- the first event of a run, and the run after it
pub record IsFirst (n : ℕ) (m : Program) (s : State) (e : Entry) (es : List Entry) (evs : List Event) : Type 0 where
  pub event : Event
  pub rest : List Event
  pub first : next n m s e ≡ Some event
  pub later : replay n m event.after es ≡ Some rest
  pub split : event ∷ rest ≡ evs

pub first_event : (n : ℕ) (m : Program) (s : State) (e : Entry) (es : List Entry) (evs : List Event) → replay n m s (e ∷ es) ≡ Some evs →
    IsFirst n m s e es evs
first_event n m s e es evs i = at_next (next n m s e) refl i
  where
    at_rest : (ev : Event) → next n m s e ≡ Some ev → (o : Option (List Event)) → replay n m ev.after es ≡ o →
        option_map (λ evs'. ev ∷ evs') o ≡ Some evs → IsFirst n m s e es evs
    at_rest ev f None g j = absurd cc
    at_rest ev f (Some rest) g j = record { event = ev; rest = rest; first = f; later = g; split = (cc) }

    at_next : (o : Option Event) → next n m s e ≡ o →
        option_and_then (λ ev. option_map (λ evs'. ev ∷ evs') (replay n m ev.after es)) o ≡ Some evs → IsFirst n m s e es evs
    at_next None f j = absurd cc
    at_next (Some ev) f j = at_rest ev f (replay n m ev.after es) refl j

-- what an entry does, by whether it is a commit
abbrev StepBy : Bool → Program → State → State → Type 0
StepBy true m s after = Reduces m (suc s.entries) (configuration s) (configuration after)
StepBy false m s after = configuration after ≡ configuration s

step_of : (m : Program) (s : State) (e : Entry) (ev : Event) → IsTransition m s e ev → StepBy (is_commit e) m s ev.after
step_of m s (Commit p k) ev h = h.reduction
step_of m s (Hang p) ev h = h.stays
step_of m s (Fail p) ev h = h.stays
step_of m s Snapshot ev h = h
step_of m s Suspend ev h = h
step_of m s Resume ev h = h
step_of m s Abort ev h = h

one_step : (m : Program) (s : State) (ev : Event) (evs : List Event) (to : Configuration) → ev.before ≡ s → (b : Bool) →
    StepBy b m s ev.after → Computes m (configuration ev.after) (commits_of evs) to →
    Computes m (configuration s) (cond b (ev ∷ commits_of evs) (commits_of evs)) to
one_step m s ev evs to e true h rest =
    (ap configuration e, subst (λ (x : State). Reduces m (suc x.entries) (configuration s) (configuration ev.after)) (sym e) h, rest)
one_step m s ev evs to e false h rest = subst (λ c. Computes m c (commits_of evs) to) h rest

pub computes : (n : ℕ) (m : Program) (log : List Entry) (s : State) (evs : List Event) → IsOrdered s → replay n m s log ≡ Some evs →
    Computes m (configuration s) (commits_of evs) (configuration (last_state s evs))
computes n m [] s evs h i =
    let none : [] ≡ evs = cc in subst (λ xs. Computes m (configuration s) (commits_of xs) (configuration (last_state s xs))) none refl
computes n m (e ∷ es) s evs h i =
    let f = first_event n m s e es evs i in
    let own = event_of_entry m s e f.event (n, f.first) in
    let rest = computes n m es f.event.after f.rest (ordered_after n m s e f.event h f.first) f.later in
    let step : StepBy (is_commit f.event.entry) m s f.event.after =
    subst (λ x. StepBy (is_commit x) m s f.event.after) (sym own.0) (step_of m s e f.event (is_transition n m s e f.event h f.first)) in
    subst (λ xs. Computes m (configuration s) (commits_of xs) (configuration (last_state s xs))) f.split
    (one_step m s f.event f.rest (configuration (last_state f.event.after f.rest)) own.1 (is_commit f.event.entry) step rest)

-- nothing is allowed after a fail
control_fails_not : (a : Act) → is_fail (act_entry a) ≡ true → ⊥
control_fails_not act.Snapshot h = true≢false (sym h)
control_fails_not act.Suspend h = true≢false (sym h)
control_fails_not act.Resume h = true≢false (sym h)
control_fails_not act.Abort h = true≢false (sym h)

move_fails : (m : Program) (s : State) (p : Process) (d : Decision) → is_fail (event_of m s p d).entry ≡ true →
    (event_of m s p d).after.mode ≡ is_failed
move_fails m s p (commits k bs rs) h = absurd (true≢false (sym h))
move_fails m s p (waits_on rs) h = absurd (true≢false (sym h))
move_fails m s p (decides_fail rs) h = refl

fail_fails : (n : ℕ) (m : Program) (s : State) (e : Entry) (ev : Event) → next n m s e ≡ Some ev → is_fail e ≡ true →
    ev.after.mode ≡ is_failed
fail_fails n m s e ev i =
    by_next n m s (λ e' ev'. is_fail e' ≡ true → ev'.after.mode ≡ is_failed)
    (record { at_move = λ p d g. move_fails m s p d; at_control = λ a f h. absurd (control_fails_not a h) }) e ev i

pub none_allowed : (s : State) (a : Act) → s.mode ≡ is_failed → allows s (act_entry a) ≡ true → ⊥
none_allowed s a f h = go a s.mode f h
  where
    go : (a : Act) (mode : Mode) → mode ≡ is_failed → allows (record s { mode = mode }) (act_entry a) ≡ true → ⊥
    go a is_open e i = cc
    go a is_held e i = cc
    go a is_aborted e i = cc
    go act.Snapshot is_failed e i = true≢false (sym i)
    go act.Suspend is_failed e i = true≢false (sym i)
    go act.Resume is_failed e i = true≢false (sym i)
    go act.Abort is_failed e i = true≢false (sym i)

none_after_fail : (n : ℕ) (m : Program) (s : State) (e : Entry) (ev : Event) → next n m s e ≡ Some ev → s.mode ≡ is_failed → ⊥
none_after_fail n m s e ev i =
    by_next n m s (λ e' ev'. s.mode ≡ is_failed → ⊥)
    (record { at_move = λ p d g f. let o : s.mode ≡ is_open = g.opened in cc; at_control = λ a h f. none_allowed s a f h }) e ev i

pub fail_is_last : (n : ℕ) (m : Program) (p : Proc) (before after : List Entry) (s : State) (evs : List Event) →
    replay n m s (before ++ Fail p ∷ after) ≡ Some evs → after ≡ []
fail_is_last n m p [] [] s evs i = refl
fail_is_last n m p [] (e ∷ es) s evs i =
    let f = first_event n m s (Fail p) (e ∷ es) evs i in
    let g = first_event n m f.event.after e es f.rest f.later in
    absurd (none_after_fail n m f.event.after e g.event g.first (fail_fails n m s (Fail p) f.event f.first refl))
fail_is_last n m p (b ∷ bs) after s evs i =
    let f = first_event n m s b (bs ++ Fail p ∷ after) evs i in
    fail_is_last n m p bs after f.event.after f.rest f.later
