-- The laws, proved in a file of their own.
use Rattle.word_moves.proofs.SafeMoves.{commit_safe, hang_safe, fail_safe}
use Rattle.word_moves.proofs.safe.Goals as goal

pub returns : goal.returns
returns c = record { commit = commit_safe; hang = hang_safe; fail = fail_safe }
