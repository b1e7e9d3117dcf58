-- The example, proved in a file of its own.
use Rattle.word_state_laws.proofs.Drawn.{an_example_stands}
use Rattle.word_state_laws.proofs.example.Goals as goal

pub returns : goal.returns
returns c = an_example_stands
