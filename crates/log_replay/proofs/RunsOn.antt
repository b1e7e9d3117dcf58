-- A run with one more event.
use Rattle.std.proofs.Common.{◌≡◌, ℕ, ◌+◌, List, [], ◌∷◌, ◌++◌, length, length-append, Option, Some, None, refl, ap, ◌∙◌, subst, arith}
use Rattle.std.specs.Prelude.{option_map, option_and_then}
use Rattle.std.proofs.lemmas.List.Sums.{sum_by-append}
use Rattle.fcp_model.specs.declared.run.Entry.{Entry}
use Rattle.fcp_model.specs.Programs.{Program}
use Rattle.fcp_model.specs.States.{State}
use Rattle.fcp_model.specs.Events.{Event}
use Rattle.fcp_model.specs.Runs.{next, replay, IsRun, entries_of, last_state, cells_of}
use Rattle.fcp_model.proofs.MoreSteps.{at_least}
use Rattle.fcp_laws.proofs.DeterminedRuns.{replay_more}
use Rattle.log_replay.specs.Replays.{IsNext}

-- the first event of a log, and the rest
taken : (ev : Event) (x : Event) (evs : List Event) (o : Option (List Event)) → option_map (λ ys. ev ∷ ys) o ≡ Some (x ∷ evs)
    → (ev ≡ x) × (o ≡ Some evs)
taken ev x evs None h = cc
taken ev x evs (Some ys) h = (cc, cc)

step_back : (n : ℕ) (m : Program) (s : State) (x : Event) (evs : List Event) → replay n m s (entries_of (x ∷ evs)) ≡ Some (x ∷ evs)
    → (next n m s x.entry ≡ Some x) × (replay n m x.after (entries_of evs) ≡ Some evs)
step_back n m s x evs h = go (next n m s x.entry) refl h
  where
    go : (o : Option Event) → next n m s x.entry ≡ o
        → option_and_then (λ ev. option_map (λ ys. ev ∷ ys) (replay n m ev.after (entries_of evs))) o ≡ Some (x ∷ evs)
        → (next n m s x.entry ≡ Some x) × (replay n m x.after (entries_of evs) ≡ Some evs)
    go None e i = cc
    go (Some y) e i =
        let t = taken y x evs (replay n m y.after (entries_of evs)) i in
        (e ∙ ap Some t.0, subst (λ (z : Event). replay n m z.after (entries_of evs) ≡ Some evs) t.0 t.1)

step_on : (n : ℕ) (m : Program) (s : State) (x : Event) (es : List Entry) (evs : List Event) → next n m s x.entry ≡ Some x
    → replay n m x.after es ≡ Some evs → replay n m s (x.entry ∷ es) ≡ Some (x ∷ evs)
step_on n m s x es evs e f =
    ap (option_and_then (λ ev. option_map (λ ys. ev ∷ ys) (replay n m ev.after es))) e ∙ ap (option_map (λ ys. x ∷ ys)) f

longer : (n : ℕ) (m : Program) (s : State) (evs : List Event) (ev : Event) → replay n m s (entries_of evs) ≡ Some evs
    → replay n m (last_state s evs) (ev.entry ∷ []) ≡ Some (ev ∷ [])
    → replay n m s (entries_of (evs ++ ev ∷ [])) ≡ Some (evs ++ ev ∷ [])
longer n m s [] ev h e = e
longer n m s (x ∷ evs) ev h e =
    let b = step_back n m s x evs h in
    step_on n m s x (entries_of (evs ++ ev ∷ [])) (evs ++ ev ∷ []) b.0 (longer n m x.after evs ev b.1 e)

pub run_on : (m : Program) (s : State) (evs : List Event) (ev : Event) → IsRun m s (entries_of evs) evs
    → IsNext m (last_state s evs) ev.entry ev → IsRun m s (entries_of (evs ++ ev ∷ [])) (evs ++ ev ∷ [])
run_on m s evs ev (a, h) (b, e) =
    let h' : replay (a + b) m s (entries_of evs) ≡ Some evs =
    at_least (λ n. replay n m s (entries_of evs)) (replay_more m (entries_of evs) s) a (a + b) (omega arith) evs h in
    let e' : replay (a + b) m (last_state s evs) (ev.entry ∷ []) ≡ Some (ev ∷ []) =
    at_least (λ n. replay n m (last_state s evs) (ev.entry ∷ [])) (replay_more m (ev.entry ∷ []) (last_state s evs)) b (a + b)
    (omega arith) (ev ∷ []) (step_on b m (last_state s evs) ev [] [] e refl) in
    (a + b, longer (a + b) m s evs ev h' e')

pub last_on : (s : State) (evs : List Event) (ev : Event) → last_state s (evs ++ ev ∷ []) ≡ ev.after
last_on s [] ev = refl
last_on s (x ∷ evs) ev = last_on x.after evs ev

pub cells_on : (evs : List Event) (ev : Event) → cells_of (evs ++ ev ∷ []) ≡ cells_of evs + ev.cells
cells_on evs ev =
    let one : cells_of (ev ∷ []) ≡ ev.cells = omega arith in
    sum_by-append (λ (x : Event). x.cells) evs (ev ∷ []) ∙ ap (λ (n : ℕ). cells_of evs + n) one

pub length_on : (evs : List Event) (ev : Event) → length (evs ++ ev ∷ []) ≡ length evs + 1
length_on evs ev = length-append evs (ev ∷ [])
