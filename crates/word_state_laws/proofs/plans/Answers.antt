-- The laws, proved in files of their own.
use Rattle.word_state_laws.proofs.CommitPlans.{commit_laid}
use Rattle.word_state_laws.proofs.HangPlans.{hang_laid}
use Rattle.word_state_laws.proofs.plans.Goals as goal

pub returns : goal.returns
returns c = record { commit = commit_laid; hang = hang_laid }
