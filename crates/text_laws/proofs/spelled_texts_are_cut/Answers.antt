-- The laws, by induction over the pieces.
use Rattle.text_laws.proofs.Cutting.{spelled_texts}
use Rattle.text_laws.proofs.Reading.{written_is_read}
use Rattle.text_laws.proofs.spelled_texts_are_cut.Goals as goal

pub returns-clause-cut : goal.returns-clause-cut
returns-clause-cut c = spelled_texts

pub returns-clause-read : goal.returns-clause-read
returns-clause-read c = written_is_read
