use Rattle.command_words.proofs.Answering.{one-reading}
use Rattle.command_words.proofs.words_have_one_reading.Goals as goal

pub returns : goal.returns
returns c = one-reading
