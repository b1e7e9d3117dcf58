-- The laws, from their lemmas.
use Rattle.program_laws.proofs.ProgramsOfTexts.{a_program_is_closed, a_goal_is_closed}
use Rattle.program_laws.proofs.texts_are_closed.Goals as goal

pub returns-clause-programs : goal.returns-clause-programs
returns-clause-programs c = a_program_is_closed

pub returns-clause-goals : goal.returns-clause-goals
returns-clause-goals c = a_goal_is_closed
