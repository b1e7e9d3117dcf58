-- The laws, from their lemmas.
use Rattle.transition_laws.proofs.OneEntry.{start_is, is_transition}
use Rattle.transition_laws.proofs.transitions.Goals as goal

pub returns-clause-start : goal.returns-clause-start
returns-clause-start c = start_is

pub returns-clause-entry : goal.returns-clause-entry
returns-clause-entry c = λ m s e ev h (n, i). is_transition n m s e ev h i
