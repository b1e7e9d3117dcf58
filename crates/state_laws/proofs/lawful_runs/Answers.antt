-- The laws, proved in a file of their own.
use Rattle.state_laws.proofs.StatesOfRuns.{every_state_is_lawful, no_wake_is_lost}
use Rattle.state_laws.proofs.lawful_runs.Goals as goal

pub returns : goal.returns
returns c = record { states = every_state_is_lawful; wakes = no_wake_is_lost }
