-- How a run ends.
use Rattle.std.specs.Prelude.{◌≡◌, ℕ, ◌-◌, ◌<◌, ◌||◌, nat_le, List, [], ◌∷◌, MatchBool}
use Rattle.std.specs.List.{list_all, list_any}
use Rattle.fcp_model.specs.declared.run.Limits.{Limits}
use Rattle.fcp_model.specs.declared.run.Outcome.{Outcome}
use Rattle.fcp_model.specs.declared.run.Outcome.TheVariants.{Failed, Aborted, Held, Terminated, Suspended, Budget, Full}
use Rattle.fcp_model.specs.Programs.{Program}
use Rattle.fcp_model.specs.Decisions.{Decision, Decides}
use Rattle.fcp_model.specs.States.{Process, Status, ready, waiting, finished, State, is_open, is_held, is_failed, is_aborted, is_ready, is_finished}
use Rattle.fcp_model.specs.Cells.{cells}
use Rattle.fcp_model.specs.Events.{Event}
use Rattle.fcp_model.specs.Runs.{last_state, entries_of, cells_of}
use Rattle.fcp_model.specs.Bounds.{commits_in, moves_in}

-- a Ready process's entry would have more cells than are left
abbrev pub IsTooLarge : Program → State → ℕ → Process → Status → Type 0
IsTooLarge m s left p ready = (d : Decision) × Decides m s.bound p.goal d × (left < cells m p.goal d)
IsTooLarge m s left p (waiting ps) = Unit {0}
IsTooLarge m s left p finished = Unit {0}

-- that holds of each Ready one among some processes
abbrev pub AllTooLarge : Program → State → ℕ → List Process → Type 0
AllTooLarge m s left [] = Unit {0}
AllTooLarge m s left (p ∷ ps) = IsTooLarge m s left p p.status × AllTooLarge m s left ps

-- the outcome of a run that is open after so many commits and moves, with so many cells left: the first that applies of
-- terminated (no process is live), suspended (none is Ready), budget (a limit is reached), full
abbrev pub EndsOpen : Program → State → Limits → ℕ → ℕ → ℕ → Outcome → Type 0
EndsOpen m s limits commits moves left o =
    MatchBool (list_all (λ p. is_finished p.status) s.processes) (o ≡ Terminated)
    (MatchBool (list_any (λ p. is_ready p.status) s.processes)
    (MatchBool (nat_le limits.commits commits || nat_le limits.moves moves) (o ≡ Budget)
    ((o ≡ Full) × AllTooLarge m s left s.processes))
    (o ≡ Suspended))

-- the outcome of a state after so many commits, moves and cells
abbrev pub EndsAt : Program → State → Limits → ℕ → ℕ → ℕ → Outcome → Type 0
EndsAt m s limits commits moves cells o = elim s.mode [
  | is_failed ↦ o ≡ Failed
  | is_aborted ↦ o ≡ Aborted
  | is_held ↦ o ≡ Held
  | is_open ↦ EndsOpen m s limits commits moves (limits.cells - cells) o
]

-- the outcome of the run with these events from a state
abbrev pub Ends : Program → Limits → State → List Event → Outcome → Type 0
Ends m limits s evs o = EndsAt m (last_state s evs) limits (commits_in (entries_of evs)) (moves_in (entries_of evs)) (cells_of evs) o
