-- The laws, from their lemmas.
use Rattle.program_laws.proofs.RunsOfTexts.{states_are_lawful, wakes_are_kept, processes_decide, suspended_runs_are_deadlocked}
use Rattle.program_laws.proofs.runs_of_texts_are_lawful.Goals as goal

pub returns-clause-states : goal.returns-clause-states
returns-clause-states c = states_are_lawful

pub returns-clause-wakes : goal.returns-clause-wakes
returns-clause-wakes c = wakes_are_kept

pub returns-clause-decisions : goal.returns-clause-decisions
returns-clause-decisions c = processes_decide

pub returns-clause-suspended : goal.returns-clause-suspended
returns-clause-suspended c = suspended_runs_are_deadlocked
