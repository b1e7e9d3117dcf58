use Rattle.fcp_text.proofs.Progress.{begin, go_on, stop, end}
use Rattle.fcp_text.proofs.write_items.write_assignment.Goals as goal

pub returns-in_err-write_term : goal.returns-in_err-write_term
returns-in_err-write_term g c = stop _ _ _ c.from_residual.ensures.0 c.in_err-write_term.ensures _ begin

pub returns-in_err-put : goal.returns-in_err-put
returns-in_err-put g c = stop _ _ _ c.from_residual-in_err-put.ensures.0 c.in_err-put.ensures _ (go_on c.in_ok-write_term.ensures begin)

pub returns : goal.returns
returns g c = end _ _ _ _ (go_on c.in_ok-put.ensures (go_on c.in_ok-write_term.ensures begin)) c.write_expression.ensures
