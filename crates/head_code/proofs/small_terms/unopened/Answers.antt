use Rattle.std.proofs.Common.{rules}
use Rattle.head_code.proofs.SmallLoops.{unopened_emitted}
use Rattle.head_code.proofs.small_terms.unopened.Goals as goal

pub returns-clause-code : goal.returns-clause-code
returns-clause-code c =
    unopened_emitted _ _ _ _ _ _ _ (search rules) c.in_ok-to.ensures c.in_ok-emit.ensures c.in_ok-ask.ensures c.patch.ensures.instrs
    c.patch.ensures.smalls c.patch.ensures.steps
