use Rattle.fcp_text.proofs.Progress.{flushed}
use Rattle.fcp_text.proofs.writers.write_term.Goals as goal

pub returns : goal.returns
returns g c = flushed _ _ _ c.new-buffer.ensures c.in_ok-write_term.ensures c.flush.ensures.written
