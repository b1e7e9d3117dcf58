use Rattle.stored_tries.proofs.Calling.{after_call, after_loads, after_first_loads}
use Rattle.stored_tries.proofs.after_beside.Goals as goal

pub returns-clause-beside : goal.returns-clause-beside
returns-clause-beside g c = after_call g.met.W.Words.laws

pub returns-clause-alone : goal.returns-clause-alone
returns-clause-alone g c = after_loads g.met.W.Words.laws

pub returns-clause-first_ : goal.returns-clause-first_
returns-clause-first_ g c = after_first_loads g.met.W.Words.laws
