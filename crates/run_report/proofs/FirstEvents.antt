-- The events of a log, one after another.
use Rattle.std.proofs.Common.{◌≡◌, ℕ, zero, suc, List, [], ◌∷◌, length, take, Option, Some, None, refl, sym, ap, ◌∙◌}
use Rattle.std.specs.Prelude.{option_map, option_and_then}
use Rattle.std.proofs.lemmas.Option.{same_Some}
use Rattle.fcp_model.specs.declared.run.Entry.{Entry}
use Rattle.fcp_model.specs.Programs.{Program}
use Rattle.fcp_model.specs.States.{State}
use Rattle.fcp_model.specs.Events.{Event}
use Rattle.fcp_model.specs.Runs.{next, replay, IsRun}

-- The first entry has an event, and the others have the rest.
pub record IsTaken (n : ℕ) (m : Program) (s : State) (e : Entry) (es : List Entry) (evs : List Event) : Type 0 where
  pub event : Event
  pub rest : List Event
  pub is : evs ≡ event ∷ rest
  pub first : next n m s e ≡ Some event
  pub behind : replay n m event.after es ≡ Some rest

pub first_taken : (n : ℕ) (m : Program) (s : State) (e : Entry) (es : List Entry) (evs : List Event) → replay n m s (e ∷ es) ≡ Some evs
    → IsTaken n m s e es evs
first_taken n m s e es evs h = by_event (next n m s e) refl h
  where
    by_rest : (ev : Event) → next n m s e ≡ Some ev → (o : Option (List Event)) → replay n m ev.after es ≡ o
        → option_map (λ xs. ev ∷ xs) o ≡ Some evs → IsTaken n m s e es evs
    by_rest ev f None i k = cc
    by_rest ev f (Some xs) i k = record { event = ev; rest = xs; is = cc; first = f; behind = i }

    by_event : (o : Option Event) → next n m s e ≡ o
        → option_and_then (λ ev. option_map (λ xs. ev ∷ xs) (replay n m ev.after es)) o ≡ Some evs → IsTaken n m s e es evs
    by_event None f k = cc
    by_event (Some ev) f k = by_rest ev f (replay n m ev.after es) refl k

-- one entry alone
pub one_taken : (n : ℕ) (m : Program) (s : State) (e : Entry) (ev : Event) → next n m s e ≡ Some ev → IsRun m s (e ∷ []) (ev ∷ [])
one_taken n m s e ev h = (n, ap (option_and_then (λ x. option_map (λ xs. x ∷ xs) (replay n m x.after []))) h)

first_run : (n : ℕ) (m : Program) (s : State) (log : List Entry) (evs : List Event) (k : ℕ) → replay n m s log ≡ Some evs
    → replay n m s (take k log) ≡ Some (take k evs)
first_run n m s log evs zero h = refl
first_run n m s [] evs (suc k) h = ap (λ (o : Option (List Event)). option_map (λ xs. take (suc k) xs) o) h
first_run n m s (e ∷ es) evs (suc k) h =
    let t = first_taken n m s e es evs h in
    ap (option_and_then (λ ev. option_map (λ xs. ev ∷ xs) (replay n m ev.after (take k es)))) t.first
    ∙ (ap (option_map (λ xs. t.event ∷ xs)) (first_run n m t.event.after es t.rest k t.behind)
    ∙ ap (λ xs. Some (take (suc k) xs)) (sym t.is))

-- the first entries of a log have the first events
pub run_of_first : (m : Program) (s : State) (log : List Entry) (evs : List Event) (k : ℕ) → IsRun m s log evs
    → IsRun m s (take k log) (take k evs)
run_of_first m s log evs k (n, h) = (n, first_run n m s log evs k h)

pub length_of_run : (n : ℕ) (m : Program) (s : State) (log : List Entry) (evs : List Event) → replay n m s log ≡ Some evs
    → length evs ≡ length log
length_of_run n m s [] evs h = ap length (sym (same_Some [] evs h))
length_of_run n m s (e ∷ es) evs h =
    let t = first_taken n m s e es evs h in
    ap length t.is ∙ ap suc (length_of_run n m t.event.after es t.rest t.behind)
