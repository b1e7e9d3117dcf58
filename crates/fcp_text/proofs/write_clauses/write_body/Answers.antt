use Rattle.std.proofs.Common.{sym, ◌∙◌}
use Rattle.fcp_text.proofs.Progress.{begin_as, go_on, stop, end}
use Rattle.fcp_text.proofs.EmptyTexts.{body_some}
use Rattle.fcp_text.proofs.write_clauses.write_body.Goals as goal

pub returns-in_err-put : goal.returns-in_err-put
returns-in_err-put g c =
    stop _ _ _ c.from_residual.ensures.0 c.in_err-put.ensures _
    (begin_as (body_some c.args.names.now c.args.body.now (sym c.is_empty.ensures ∙ c.if-is_empty.false)))

pub returns : goal.returns
returns g c =
    end _ _ _ _ (go_on c.in_ok-put.ensures
    (begin_as (body_some c.args.names.now c.args.body.now (sym c.is_empty.ensures ∙ c.if-is_empty.false)))) c.write_items.ensures
