-- The laws, proved beside the definitions.
use Rattle.run_laws.proofs.CountedRuns.{begins, outcome_is}
use Rattle.run_laws.proofs.counts.Goals as goal

pub returns-clause-first : goal.returns-clause-first
returns-clause-first c = begins

pub returns-clause-outcome : goal.returns-clause-outcome
returns-clause-outcome c = outcome_is
