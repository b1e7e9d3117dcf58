-- The law, proved in a file of its own.
use Rattle.leading_texts.proofs.Goals.{goal_texts_alike}
use Rattle.leading_texts.proofs.goal_texts_come_alike.Goals as goal

pub returns : goal.returns
returns c = goal_texts_alike
