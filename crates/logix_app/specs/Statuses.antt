-- The numbers of the statuses with which the program ends.
use Rattle.std.specs.Prelude.{ℕ}
use Rattle.fcp_model.specs.declared.run.Outcome.{Outcome}
use Rattle.fcp_model.specs.declared.run.Outcome.TheVariants as outcome
use Rattle.logix_app.specs.declared.status.Status.{Status}
use Rattle.logix_app.specs.declared.status.Status.TheVariants.{Ended, Shown, Usage, Module, Goal, Control, Shelf, TooLong, Sink, NoMemory}

-- of a run that ended
abbrev pub outcome_number : Outcome → ℕ
outcome_number outcome.Terminated = 0
outcome_number outcome.Failed = 1
outcome_number outcome.Suspended = 8
outcome_number outcome.Budget = 9
outcome_number outcome.Full = 10
outcome_number outcome.Aborted = 11
outcome_number outcome.Held = 12

-- the exit status of the program
abbrev pub status_number : Status → ℕ
status_number (Ended o) = outcome_number o
status_number Shown = 0
status_number Usage = 2
status_number (Module f) = 3
status_number (Goal f) = 4
status_number (Control at) = 5
status_number Shelf = 6
status_number TooLong = 7
status_number Sink = 13
status_number NoMemory = 14
