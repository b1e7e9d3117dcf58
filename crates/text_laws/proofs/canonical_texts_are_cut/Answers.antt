-- The laws: the texts are those of the pieces, and the pieces fit.
use Rattle.text_laws.proofs.CanonicalTexts.{term_texts_are_cut, module_texts_are_cut, module_texts_are_read}
use Rattle.text_laws.proofs.canonical_texts_are_cut.Goals as goal

pub returns-clause-terms : goal.returns-clause-terms
returns-clause-terms c = term_texts_are_cut

pub returns-clause-modules : goal.returns-clause-modules
returns-clause-modules c = module_texts_are_cut

pub returns-clause-modules_read : goal.returns-clause-modules_read
returns-clause-modules_read c = module_texts_are_read
