use Rattle.std.proofs.Common.{rules}
use Rattle.head_code.proofs.ArgumentLoops.{small_argument}
use Rattle.head_code.proofs.arguments.argument.Goals as goal

pub returns-clause-code : goal.returns-clause-code
returns-clause-code c = small_argument _ _ _ _ _ _ (search rules) c.in_ok-last.ensures.code
