use Rattle.std.proofs.Common.{[], take, refl}
use Rattle.logix_edge.proofs.Written.{front-rest, more-written, front-written, keeps-nothing, nothing-taken}
use Rattle.logix_edge.proofs.streams.write_whole.Goals as goal

pub loop-rest-preserved : goal.loop-rest-preserved
loop-rest-preserved g c = more-written _ _ _ _ _ _ _ c.loop-rest.invariant (front-rest c.in-Ok.count c.loop-rest.rest.now)
    c.in-Ok.ensures.bytes

-- a write took nothing
pub returns-in_default : goal.returns-in_default
returns-in_default g c = front-written _ _ _ _ _ (take c.in-Ok.count c.loop-rest.rest.now) c.loop-rest.invariant
    (nothing-taken c.in-Ok.count c.loop-rest.rest.now c.if-count-gt0.false) c.in-Ok.ensures.bytes

-- a write failed
pub returns-in_default-2 : goal.returns-in_default-2
returns-in_default-2 g c = front-written _ _ _ _ _ [] c.loop-rest.invariant refl (keeps-nothing _ _ c.in_default.ensures.bytes)
