use Rattle.page_layout.specs.Laying.{cuts}
use Rattle.page_layout.proofs.Sizes.{cuts_sized}
use Rattle.page_layout.proofs.Finding.{kept_found}
use Rattle.page_layout.proofs.CommitWrites.{commit_planned}
use Rattle.page_layout.proofs.HangWrites.{hang_planned}
use Rattle.page_layout.proofs.follow.plans.Goals as goal

pub returns-clause-found : goal.returns-clause-found
returns-clause-found c = kept_found

pub returns-clause-commit : goal.returns-clause-commit
returns-clause-commit c ws rooms table sizes own n p binds wakes laid size finds tops =
    commit_planned ws rooms table sizes laid (cuts sizes own) (cuts_sized sizes own size) n p binds wakes finds tops

pub returns-clause-hang : goal.returns-clause-hang
returns-clause-hang c ws rooms table n p lists laid finds tops small number =
    hang_planned ws rooms table lists laid n p finds tops small number
