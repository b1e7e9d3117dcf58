-- Every state that a run comes to is lawful, so no wake is lost.
use Rattle.std.proofs.Common.{◌≡◌, ℕ, List, [], ◌∷◌, Option, Some, None, refl, subst}
use Rattle.std.specs.Prelude.{option_map, option_and_then}
use Rattle.fcp_model.specs.declared.run.Place.{Place}
use Rattle.fcp_model.specs.declared.run.Entry.{Entry}
use Rattle.fcp_model.specs.Programs.{Program}
use Rattle.fcp_model.specs.States.{waiting, State, start}
use Rattle.fcp_model.specs.Events.{Event}
use Rattle.fcp_model.specs.Runs.{next, replay, last_state}
use Rattle.fcp_model.specs.ClosedPrograms.{IsClosed}
use Rattle.fcp_model.specs.LawfulStates.{WaitsOn, StandsRight, IsLawfulState}
use Rattle.fcp_laws.proofs.ProcessNames.{each_so}
use Rattle.state_laws.specs.Laws.{EveryStateIsLawful, NoWakeIsLost}
use Rattle.state_laws.proofs.StartStates.{a_start_is_lawful}
use Rattle.state_laws.proofs.StatesAfterEntries.{an_entry_keeps_states_lawful}

module _ (n : ℕ) (m : Program) (closed : IsClosed m) where
  replay_keeps : (s : State) (log : List Entry) (evs : List Event) → IsLawfulState m s → replay n m s log ≡ Some evs
      → IsLawfulState m (last_state s evs)
  replay_keeps s [] evs h e = let same : [] ≡ evs = cc in subst (λ xs. IsLawfulState m (last_state s xs)) same h
  replay_keeps s (en ∷ log) evs h e = first (next n m s en) refl (λ ev xs i j. replay_keeps ev.after log xs i j) e
    where
      first : (o : Option Event) → next n m s en ≡ o
          → ((ev : Event) (xs : List Event) → IsLawfulState m ev.after → replay n m ev.after log ≡ Some xs
          → IsLawfulState m (last_state ev.after xs))
          → option_and_then (λ ev. option_map (λ xs. ev ∷ xs) (replay n m ev.after log)) o ≡ Some evs → IsLawfulState m (last_state s evs)
      first None f rec i = absurd cc
      first (Some ev) f rec i = rest (replay n m ev.after log) refl i
        where
          rest : (r : Option (List Event)) → replay n m ev.after log ≡ r
              → option_map {U = List Event} (λ (xs : List Event). ev ∷ xs) r ≡ Some evs → IsLawfulState m (last_state s evs)
          rest None g j = absurd cc
          rest (Some xs) g j =
              let same : ev ∷ xs ≡ evs = cc in
              subst (λ ys. IsLawfulState m (last_state s ys)) same (rec ev xs (an_entry_keeps_states_lawful n m s en ev closed h f) g)

pub every_state_is_lawful : EveryStateIsLawful
every_state_is_lawful m vars gs log evs closed over (n, e) =
    replay_keeps n m closed (start vars gs) log evs (a_start_is_lawful m vars gs over) e

pub no_wake_is_lost : NoWakeIsLost
no_wake_is_lost m vars gs log evs closed over run =
    each_so (λ p. StandsRight m last.bound p p.status) (λ p. (ps : List Place) → p.status ≡ waiting ps → WaitsOn m last.bound p.goal ps)
    (λ p h ps e. subst (StandsRight m last.bound p) e h) last.processes (every_state_is_lawful m vars gs log evs closed over run).waits
  where
    last : State
    last = last_state (start vars gs) evs
