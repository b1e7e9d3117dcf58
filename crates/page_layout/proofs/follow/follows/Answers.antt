use Rattle.page_layout.specs.Laying.{cuts}
use Rattle.page_layout.proofs.Sizes.{cuts_sized}
use Rattle.page_layout.proofs.CommitWrites.{commit_may}
use Rattle.page_layout.proofs.HangWrites.{hang_may}
use Rattle.page_layout.proofs.follow.follows.Goals as goal

pub returns-clause-commit : goal.returns-clause-commit
returns-clause-commit c ws rooms table sizes own n p binds wakes heap laid size named finds tops =
    commit_may ws rooms table sizes laid (cuts sizes own) (cuts_sized sizes own size) n p binds wakes finds tops heap named

pub returns-clause-hang : goal.returns-clause-hang
returns-clause-hang c ws rooms table n p lists heap laid finds tops = hang_may ws rooms table lists laid n p finds tops heap
