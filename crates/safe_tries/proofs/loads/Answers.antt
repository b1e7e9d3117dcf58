use Rattle.safe_tries.proofs.KeptMore.{safe_more}
use Rattle.safe_tries.proofs.OpenedValues.{safe_pair_opened, safe_tuple_opened}
use Rattle.safe_tries.proofs.Unifications.{safe_unified, unification_reads}
use Rattle.safe_tries.proofs.Cuts.{safe_cut}
use Rattle.safe_tries.proofs.loads.Goals as goal

pub returns-clause-more : goal.returns-clause-more
returns-clause-more c = safe_more

pub returns-clause-pair : goal.returns-clause-pair
returns-clause-pair c = safe_pair_opened

pub returns-clause-tuple : goal.returns-clause-tuple
returns-clause-tuple c = safe_tuple_opened

pub returns-clause-unified : goal.returns-clause-unified
returns-clause-unified c = safe_unified

pub returns-clause-reads : goal.returns-clause-reads
returns-clause-reads c = unification_reads

pub returns-clause-cut : goal.returns-clause-cut
returns-clause-cut c = safe_cut
