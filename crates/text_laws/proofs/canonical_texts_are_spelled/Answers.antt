-- The laws, from their lemmas.
use Rattle.text_laws.proofs.CanonicalTexts.{terms_fit, modules_fit}
use Rattle.text_laws.proofs.SpelledTerms.{term-spells}
use Rattle.text_laws.proofs.SpelledModules.{module-spells}
use Rattle.text_laws.proofs.canonical_texts_are_spelled.Goals as goal

pub returns-clause-terms : goal.returns-clause-terms
returns-clause-terms c = term-spells

pub returns-clause-modules : goal.returns-clause-modules
returns-clause-modules c = module-spells

pub returns-clause-terms_fit : goal.returns-clause-terms_fit
returns-clause-terms_fit c = terms_fit

pub returns-clause-modules_fit : goal.returns-clause-modules_fit
returns-clause-modules_fit c = modules_fit
