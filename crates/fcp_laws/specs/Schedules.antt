-- What holds of each schedule to which a run of one worker comes.
use Rattle.std.specs.Prelude.{◌≡◌, false, List, [], ◌∷◌, Some, None}
use Rattle.fcp_model.specs.declared.run.Proc.{Proc}
use Rattle.fcp_model.specs.States.{ready, Process, State, process_named}
use Rattle.fcp_model.specs.OneWorker.{Schedule, is_over}
use Rattle.fcp_model.specs.LawfulStates.{IsOrdered}

-- no two processes have one name
abbrev pub AreApart : List Process → Type 0
AreApart [] = Unit {0}
AreApart (p ∷ ps) = (process_named ps p.name ≡ None) × AreApart ps

-- What holds of each schedule that a run comes to: the state is ordered, the queue's processes have different names, each is
-- that of the state under its name and Ready, and, where the run is not over, each Ready process is in the queue.
pub record IsSoundSchedule (at : Schedule) : Type 0 where
  pub ordered : IsOrdered at.state
  pub apart : AreApart at.queue
  pub are_ready : (name : Proc) (p : Process) → process_named at.queue name ≡ Some p
      → (process_named at.state.processes name ≡ Some p) × (p.status ≡ ready)
  pub are_queued : is_over at.state.mode ≡ false → (name : Proc) (p : Process) → process_named at.state.processes name ≡ Some p
      → p.status ≡ ready → process_named at.queue name ≡ Some p
