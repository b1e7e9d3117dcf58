use Rattle.trial_laws.proofs.EndLaws.{commit_says}
use Rattle.trial_laws.proofs.WaitLaws.{fail_says, wait_says}
use Rattle.trial_laws.proofs.endings.Goals as goal

pub returns-clause-commit : goal.returns-clause-commit
returns-clause-commit c = commit_says

pub returns-clause-fail : goal.returns-clause-fail
returns-clause-fail c = fail_says

pub returns-clause-wait : goal.returns-clause-wait
returns-clause-wait c = wait_says
