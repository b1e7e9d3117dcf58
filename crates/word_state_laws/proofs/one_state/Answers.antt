-- The law, proved in a file of its own.
use Rattle.word_state_laws.proofs.Alike.{a_state_is_one}
use Rattle.word_state_laws.proofs.one_state.Goals as goal

pub returns : goal.returns
returns c = a_state_is_one
