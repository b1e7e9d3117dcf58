-- The laws, from their lemmas.
use Rattle.fcp_laws.proofs.EndingOutcomes.{ends_so}
use Rattle.fcp_laws.proofs.LawfulRuns.{is_lawful_run}
use Rattle.fcp_laws.proofs.one_worker_runs.Goals as goal

pub returns-clause-lawful : goal.returns-clause-lawful
returns-clause-lawful c = is_lawful_run

pub returns-clause-outcome : goal.returns-clause-outcome
returns-clause-outcome c = ends_so
