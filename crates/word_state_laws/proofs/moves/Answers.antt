-- The laws, proved in a file of their own.
use Rattle.word_state_laws.proofs.TriedMoves.{a_commit_goes, a_hang_goes, a_fail_goes}
use Rattle.word_state_laws.proofs.moves.Goals as goal

pub returns : goal.returns
returns c = record { commit = a_commit_goes; hang = a_hang_goes; fail = a_fail_goes }
