use Rattle.fcp_text.proofs.Progress.{begin, go_on, stop, end}
use Rattle.fcp_text.proofs.write_items.write_named.Goals as goal

pub returns-in_err-write_string : goal.returns-in_err-write_string
returns-in_err-write_string g c = stop _ _ _ c.from_residual.ensures.0 c.in_err-write_string.ensures _ begin

pub returns : goal.returns
returns g c = end _ _ _ _ (go_on c.in_ok-write_string.ensures begin) c.write_arguments.ensures
