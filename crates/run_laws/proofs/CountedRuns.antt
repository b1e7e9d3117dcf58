-- The counts before the first entry, and the outcome by the counts.
use Rattle.std.proofs.Common.{◌≡◌, ℕ, suc, ◌+◌, ◌*◌, ◌≤◌, Bool, true, false, cond, not, List, [], ◌∷◌, length, map, refl, sym, ap, ap₂, ◌∙◌, subst, arith}
use Rattle.std.specs.Prelude.{filter, nat_le, nat_eq, ◌||◌}
use Rattle.std.specs.List.{list_any}
use Rattle.std.proofs.lemmas.Bool.Decides.{nat_tests}
use Rattle.fcp_model.specs.declared.run.Outcome.{Outcome}
use Rattle.fcp_model.specs.declared.run.Outcome.TheVariants.{Failed, Aborted, Held, Terminated, Suspended, Budget, Full}
use Rattle.fcp_model.specs.Places.{Variable, place, placed}
use Rattle.fcp_model.specs.Programs.{Goal, rename_goal}
use Rattle.fcp_model.specs.States.{Process, State, Mode, is_open, is_held, is_failed, is_aborted, is_ready, start, processes_of}
use Rattle.fcp_model.specs.LawfulStates.{IsOrdered}
use Rattle.fcp_model.specs.Events.{Event}
use Rattle.fcp_model.specs.OneWorker.{Schedule, begin}
use Rattle.fcp_laws.specs.Endings.{outcome_at}
use Rattle.fcp_laws.specs.WaitingProcesses.{is_waiting, waiting_of}
use Rattle.fcp_laws.proofs.Leading.{led_nowhere}
use Rattle.fcp_laws.proofs.SoundSchedules.{start_ordered}
use Rattle.heap_words.specs.Heaps.{IsHeap, inside_at}
use Rattle.word_states.specs.Standing.{Book, StandsFor, PlaceAt}
use Rattle.word_states.specs.Going.{AllAt}
use Rattle.run_laws.specs.Running.{Setting, Counts, StandsAt, first_counts, open_outcome_by, outcome_by}

none_waiting : (n k : ℕ) (gs : List (Goal Variable)) → waiting_of (processes_of n k gs) ≡ []
none_waiting n k [] = refl
none_waiting n k (g ∷ gs) = none_waiting n (suc k) gs

-- where a run begins
pub begins : (r : Setting) (gs : List (Goal ℕ)) (ws queue : List ℕ) (book : Book) → r.from ≡ start r.vars gs → IsHeap ws
    → StandsFor book (inside_at ws) r.from → AllAt book r.from queue (filter (λ p. is_ready p.status) r.from.processes)
    → ((k : ℕ) → 1 ≤ k → k ≤ r.vars → PlaceAt book (place 0 k) (2 * k))
    → StandsAt r ws queue (first_counts r.limits r.controls) [] (begin r.from r.controls) book
begins r gs ws queue book first heap stands queued places = record {
  ordered = subst IsOrdered (sym first) (start_ordered r.vars gs);
  leads = led_nowhere r.program r.limits (begin r.from r.controls);
  heap = heap;
  stands = stands;
  queued = queued;
  variables = places;
  mode = ap (λ (s : State). s.mode) first;
  controls = refl;
  entries = ap (λ (s : State). s.entries) first;
  moved = refl;
  passed = refl;
  asleep = ap (λ (s : State). length (waiting_of s.processes)) first
      ∙ ap length (none_waiting 0 1 (map (rename_goal (placed 0)) gs));
  commits = omega arith;
  moves = omega arith;
  cells = omega arith;
}

not_zero : (n : ℕ) → nat_eq (suc n) 0 ≡ false
not_zero n = grind (arith, nat_tests)

-- whether a process waits
any_waits : (ps : List Process) → list_any (λ p. is_waiting p.status) ps ≡ not (nat_eq (length (waiting_of ps)) 0)
any_waits [] = refl
any_waits (p ∷ ps) = go (is_waiting p.status) (any_waits ps)
  where
    go : (b : Bool) → list_any (λ x. is_waiting x.status) ps ≡ not (nat_eq (length (waiting_of ps)) 0)
        → (b || list_any (λ x. is_waiting x.status) ps) ≡ not (nat_eq (length (cond b (p ∷ waiting_of ps) (waiting_of ps))) 0)
    go true e = sym (ap not (not_zero (length (waiting_of ps))))
    go false e = e

by_sleep : (b : Bool) → cond (not b) Suspended Terminated ≡ cond b Terminated Suspended
by_sleep true = refl
by_sleep false = refl

left_none : (used left most : ℕ) → used + left ≡ most → nat_le most used ≡ nat_eq left 0
left_none used left most h = grind (arith, nat_tests)

module _ (r : Setting) (ws queue : List ℕ) (c : Counts) (evs : List Event) (at : Schedule) (book : Book)
    (here : StandsAt r ws queue c evs at book) where
  abbrev by_queue : List Process → Outcome
  by_queue qs = elim qs as (λ x. Outcome) [
    | [] ↦ cond (list_any (λ p. is_waiting p.status) at.state.processes) Suspended Terminated
    | p ∷ rest ↦ cond (nat_le r.limits.commits at.commits || nat_le r.limits.moves at.moves) Budget Full
  ]

  by_address : (as' : List ℕ) (qs : List Process) → AllAt book at.state as' qs → by_queue qs ≡ open_outcome_by as' c
  by_address [] [] h =
      ap (λ (b : Bool). cond b Suspended Terminated) (any_waits at.state.processes ∙ ap (λ (n : ℕ). not (nat_eq n 0)) here.asleep)
      ∙ by_sleep (nat_eq c.asleep 0)
  by_address [] (y ∷ ys) h = absurd h
  by_address (a ∷ as') [] h = absurd h
  by_address (a ∷ as') (y ∷ ys) h =
      ap₂ (λ (x y : Bool). cond (x || y) Budget Full) (left_none at.commits c.commits r.limits.commits here.commits)
      (left_none at.moves c.moves r.limits.moves here.moves)

  -- by the mode, and that of an open run by its queue
  abbrev by_mode : Mode → Outcome → Outcome
  by_mode mode o = elim mode as (λ x. Outcome) [
    | is_failed ↦ Failed
    | is_aborted ↦ Aborted
    | is_held ↦ Held
    | is_open ↦ o
  ]

  pub outcome_is : outcome_at r.limits at ≡ outcome_by queue c
  outcome_is =
      ap (λ (mode : Mode). by_mode mode (by_queue at.queue)) here.mode ∙ ap (by_mode c.mode) (by_address queue at.queue here.queued)
