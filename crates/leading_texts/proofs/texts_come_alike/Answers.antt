-- The law, proved in a file of its own.
use Rattle.leading_texts.proofs.Texts.{texts_alike}
use Rattle.leading_texts.proofs.texts_come_alike.Goals as goal

pub returns : goal.returns
returns c = texts_alike
