-- The laws, from their lemmas.
use Rattle.transition_laws.proofs.LastGoals.{terminated_done, failed_fails, suspended_deadlock}
use Rattle.transition_laws.proofs.last_configurations.Goals as goal

pub returns-clause-terminated : goal.returns-clause-terminated
returns-clause-terminated c = terminated_done

pub returns-clause-failed : goal.returns-clause-failed
returns-clause-failed c = failed_fails

pub returns-clause-suspended : goal.returns-clause-suspended
returns-clause-suspended c = suspended_deadlock
