use Rattle.std.proofs.Common.{ap, sym, ◌++◌}
use Rattle.fcp_text.specs.SourceExpressions.{expr_text}
use Rattle.fcp_text.proofs.Progress.{begin, begin_as, go_on, stop, end}
use Rattle.fcp_text.proofs.write_items.write_comparison.Goals as goal

pub returns-in_err-write_expression : goal.returns-in_err-write_expression
returns-in_err-write_expression g c = stop _ _ _ c.from_residual.ensures.0 c.in_err-write_expression.ensures _ begin

pub returns-in_err-put : goal.returns-in_err-put
returns-in_err-put g c =
    stop _ _ _ c.from_residual-in_err-put.ensures.0 c.in_err-put.ensures _
    (go_on c.in_ok-write_expression.ensures
    (begin_as (ap (λ s. expr_text c.args.names.now c.args.left.now ++ (s ++ expr_text c.args.names.now c.args.right.now))
    (sym c.comparison_sign.ensures))))

pub returns : goal.returns
returns g c =
    end _ _ _ _
    (go_on c.in_ok-put.ensures
    (go_on c.in_ok-write_expression.ensures
    (begin_as (ap (λ s. expr_text c.args.names.now c.args.left.now ++ (s ++ expr_text c.args.names.now c.args.right.now))
    (sym c.comparison_sign.ensures)))))
    c.write_expression-2.ensures
