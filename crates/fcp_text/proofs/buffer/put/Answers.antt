use Rattle.fcp_text.proofs.Progress.{unflushed, after_flush}
use Rattle.fcp_text.proofs.buffer.put.Goals as goal

pub returns-in_err-flush : goal.returns-in_err-flush
returns-in_err-flush g c = unflushed _ _ _ c.from_residual.ensures.0 c.in_err-flush.ensures.written

pub returns : goal.returns
returns g c = after_flush _ _ _ _ _ c.in_ok-flush.ensures.empty c.in_ok-flush.ensures.written c.put_whole.ensures
