use Rattle.fcp_text.proofs.Progress.{begin, go_on, stop, end}
use Rattle.fcp_text.proofs.write_bytes.write_variable.Goals as goal

pub returns-in_err-put : goal.returns-in_err-put
returns-in_err-put g c = stop _ _ _ c.from_residual.ensures.0 c.in_err-put.ensures _ begin

pub returns : goal.returns
returns g c = end _ _ _ _ (go_on c.in_ok-put.ensures begin) c.write_count.ensures
