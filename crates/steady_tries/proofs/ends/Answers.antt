use Rattle.steady_tries.proofs.Ending.{commit_steady, fail_between, wait_between}
use Rattle.steady_tries.proofs.ends.Goals as goal

pub returns-clause-commit : goal.returns-clause-commit
returns-clause-commit c = commit_steady

pub returns-clause-fail : goal.returns-clause-fail
returns-clause-fail c = fail_between

pub returns-clause-wait : goal.returns-clause-wait
returns-clause-wait c = wait_between
