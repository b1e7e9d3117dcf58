use Rattle.stored_tries.proofs.Agreeing.{tried_agree, seen_agree}
use Rattle.stored_tries.proofs.tried_agrees.Goals as goal

pub returns-clause-tried : goal.returns-clause-tried
returns-clause-tried c = tried_agree

pub returns-clause-seen : goal.returns-clause-seen
returns-clause-seen c = seen_agree
