use Rattle.fcp_model.proofs.Doubling.{doubled_more}
use Rattle.fcp_model.proofs.spelling.push_doubled.Goals as goal

pub loop-byte-preserved : goal.loop-byte-preserved
loop-byte-preserved c = doubled_more _ _ _ _ _ c.loop-byte-test.true c.loop-byte.invariant c.in_ok-push_quoted.ensures
