use Rattle.fcp_text.proofs.Progress.{begin, go_on, stop, end}
use Rattle.fcp_text.proofs.write_clauses.write_export.Goals as goal

pub returns-in_err-write_string : goal.returns-in_err-write_string
returns-in_err-write_string g c = stop _ _ _ c.from_residual.ensures.0 c.in_err-write_string.ensures _ begin

pub returns-in_err-put : goal.returns-in_err-put
returns-in_err-put g c = stop _ _ _ c.from_residual-in_err-put.ensures.0 c.in_err-put.ensures _ (go_on c.in_ok-write_string.ensures begin)

pub returns : goal.returns
returns g c = end _ _ _ _ (go_on c.in_ok-put.ensures (go_on c.in_ok-write_string.ensures begin)) c.write_count.ensures
