-- The laws, from their lemmas.
use Rattle.transition_laws.proofs.CommitsOnce.{once}
use Rattle.transition_laws.proofs.WholeRuns.{computes, fail_is_last}
use Rattle.transition_laws.proofs.computations.Goals as goal

pub returns-clause-reductions : goal.returns-clause-reductions
returns-clause-reductions c = λ m s log evs h (n, i). computes n m log s evs h i

pub returns-clause-fail : goal.returns-clause-fail
returns-clause-fail c = λ m s evs p before after (n, i). fail_is_last n m p before after s evs i

pub returns-clause-commit : goal.returns-clause-commit
returns-clause-commit c = λ m s evs p k j before between after (n, i). once n m p k j before between after s evs i
