use Rattle.trial_laws.proofs.OpenLaws.{pair_opens, pair_stays, tuple_opens, tuple_stays}
use Rattle.trial_laws.proofs.opens.Goals as goal

pub returns-clause-pair : goal.returns-clause-pair
returns-clause-pair c = pair_opens

pub returns-clause-no_pair : goal.returns-clause-no_pair
returns-clause-no_pair c = pair_stays

pub returns-clause-tuple : goal.returns-clause-tuple
returns-clause-tuple c = tuple_opens

pub returns-clause-no_tuple : goal.returns-clause-no_tuple
returns-clause-no_tuple c = tuple_stays
