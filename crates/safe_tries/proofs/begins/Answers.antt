use Rattle.safe_tries.proofs.Filling.{safe_first}
use Rattle.safe_tries.proofs.Starting.{safe_reset, safe_try}
use Rattle.safe_tries.proofs.begins.Goals as goal

pub returns-clause-first_ : goal.returns-clause-first_
returns-clause-first_ c = safe_first

pub returns-clause-reset : goal.returns-clause-reset
returns-clause-reset c = safe_reset

pub returns-clause-begins : goal.returns-clause-begins
returns-clause-begins c = safe_try
