use Rattle.fcp_text.proofs.Progress.{begin, go_on, stop, end}
use Rattle.fcp_text.proofs.write_bytes.write_read_only.Goals as goal

pub returns-in_err-put : goal.returns-in_err-put
returns-in_err-put g c = stop _ _ _ c.from_residual.ensures.0 c.in_err-put.ensures _ begin

pub returns-in_err-write_count : goal.returns-in_err-write_count
returns-in_err-write_count g c =
    stop _ _ _ c.from_residual-in_err-write_count.ensures.0 c.in_err-write_count.ensures _ (go_on c.in_ok-put.ensures begin)

pub returns : goal.returns
returns g c = end _ _ _ _ (go_on c.in_ok-write_count.ensures (go_on c.in_ok-put.ensures begin)) c.put-2.ensures
