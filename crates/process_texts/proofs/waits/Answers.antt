use Rattle.process_texts.proofs.WaitingSets.{waits_are_told}
use Rattle.process_texts.proofs.waits.Goals as goal

pub returns : goal.returns
returns c = waits_are_told
