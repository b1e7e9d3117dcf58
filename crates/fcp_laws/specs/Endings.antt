-- The outcome of a run of one worker, by where it ends.
use Rattle.std.specs.Prelude.{◌||◌, nat_le, [], ◌∷◌, if◌then◌else◌}
use Rattle.std.specs.List.{list_any}
use Rattle.fcp_model.specs.declared.run.Limits.{Limits}
use Rattle.fcp_model.specs.declared.run.Outcome.{Outcome}
use Rattle.fcp_model.specs.declared.run.Outcome.TheVariants.{Failed, Aborted, Held, Terminated, Suspended, Budget, Full}
use Rattle.fcp_model.specs.States.{is_open, is_held, is_failed, is_aborted}
use Rattle.fcp_laws.specs.WaitingProcesses.{is_waiting}
use Rattle.fcp_model.specs.OneWorker.{Schedule}

-- an open run: with an empty queue it is suspended where a process waits and terminated where none does; else the
-- commits or the moves are at their limit, or each process of the queue went to the back
abbrev pub open_outcome : Limits → Schedule → Outcome
open_outcome limits at = elim at.queue [
  | [] ↦ if list_any (λ p. is_waiting p.status) at.state.processes then Suspended else Terminated
  | p ∷ rest ↦ if nat_le limits.commits at.commits || nat_le limits.moves at.moves then Budget else Full
]

-- the outcome that is read off the last schedule of a run of one worker
abbrev pub outcome_at : Limits → Schedule → Outcome
outcome_at limits at = elim at.state.mode [
  | is_failed ↦ Failed
  | is_aborted ↦ Aborted
  | is_held ↦ Held
  | is_open ↦ open_outcome limits at
]
