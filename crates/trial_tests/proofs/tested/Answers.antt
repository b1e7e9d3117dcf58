use Rattle.trial_tests.proofs.Ends.{tested_so}
use Rattle.trial_tests.proofs.tested.Goals as goal

pub returns : goal.returns
returns c = tested_so
