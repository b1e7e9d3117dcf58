-- The laws, proved in files of their own.
use Rattle.word_moves.proofs.CommitFits.{commit_fits}
use Rattle.word_moves.proofs.HangFits.{hang_fits, fail_fits}
use Rattle.word_moves.proofs.fits.Goals as goal

pub returns : goal.returns
returns c = record { commit = commit_fits; hang = hang_fits; fail = fail_fits }
