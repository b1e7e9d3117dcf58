use Rattle.steady_tries.proofs.Opening.{pair_opened_steady, no_pair_stands, no_pair_steady, tuple_opened_steady, no_tuple_stands}
use Rattle.steady_tries.proofs.Opening.{no_tuple_steady}
use Rattle.steady_tries.proofs.opens.Goals as goal

pub returns-clause-pair : goal.returns-clause-pair
returns-clause-pair c = pair_opened_steady

pub returns-clause-no_term : goal.returns-clause-no_term
returns-clause-no_term c = no_pair_stands

pub returns-clause-no_pair : goal.returns-clause-no_pair
returns-clause-no_pair c = no_pair_steady

pub returns-clause-tuple : goal.returns-clause-tuple
returns-clause-tuple c = tuple_opened_steady

pub returns-clause-no_terms : goal.returns-clause-no_terms
returns-clause-no_terms c = no_tuple_stands

pub returns-clause-no_tuple : goal.returns-clause-no_tuple
returns-clause-no_tuple c = no_tuple_steady
