-- The laws, from their lemmas.
use Rattle.fcp_laws.proofs.DeterminedRuns.{one_history, one_run}
use Rattle.fcp_laws.proofs.determined_runs.Goals as goal

pub returns-clause-history : goal.returns-clause-history
returns-clause-history c = one_history

pub returns-clause-worker : goal.returns-clause-worker
returns-clause-worker c = one_run
