use Rattle.head_code.proofs.ArgumentLoops.{head_step}
use Rattle.head_code.proofs.arguments.head.Goals as goal

pub loop-term-preserved : goal.loop-term-preserved
loop-term-preserved c =
    head_step _ _ _ _ _ _ _ _ _ _ _ _ c.loop-term-test.true c.term-item.is c.in_ok-at.ensures c.in_ok-met.ensures.met
    c.in_ok-met.ensures.code c.loop-term.invariant
