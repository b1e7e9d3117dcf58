-- The laws, proved beside the definitions.
use Rattle.run_laws.proofs.Steps.{fails_there, ended}
use Rattle.run_laws.proofs.ends.Goals as goal

pub returns-clause-fail : goal.returns-clause-fail
returns-clause-fail c = λ r ws rest p c evs at book v w' q here f g e. fails_there r ws rest p c evs at book v here f w' g q e

pub returns-clause-end : goal.returns-clause-end
returns-clause-end c = ended
