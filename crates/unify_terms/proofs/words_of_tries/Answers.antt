-- The laws, proved in files of their own.
use Rattle.unify_terms.proofs.PlacesOfTries.{a_state_is_seen, a_try_is_named}
use Rattle.unify_terms.proofs.TermsOfWords.{all_is_seen, all_is_said}
use Rattle.unify_terms.proofs.words_of_tries.Goals as goal

pub returns : goal.returns
returns c = record { state = a_state_is_seen; tries = a_try_is_named; seen = all_is_seen; said = all_is_said }
