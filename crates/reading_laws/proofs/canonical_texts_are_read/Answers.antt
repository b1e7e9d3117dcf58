-- The law.
use Rattle.reading_laws.proofs.ReadAgain.{canonical_texts}
use Rattle.reading_laws.proofs.canonical_texts_are_read.Goals as goal

pub returns : goal.returns
returns c = canonical_texts
