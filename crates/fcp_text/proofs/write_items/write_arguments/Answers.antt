use Rattle.std.proofs.Common.{sym, ◌∙◌}
use Rattle.fcp_text.proofs.Progress.{begin_as, go_on, stop, end}
use Rattle.fcp_text.proofs.EmptyTexts.{arguments_some}
use Rattle.fcp_text.proofs.write_items.write_arguments.Goals as goal

pub returns-in_err-put : goal.returns-in_err-put
returns-in_err-put g c =
    stop _ _ _ c.from_residual.ensures.0 c.in_err-put.ensures _
    (begin_as (arguments_some c.args.names.now c.args.arguments.now (sym c.is_empty.ensures ∙ c.if-is_empty.false)))

pub returns-in_err-write_parts : goal.returns-in_err-write_parts
returns-in_err-write_parts g c =
    stop _ _ _ c.from_residual-in_err-write_parts.ensures.0 c.in_err-write_parts.ensures _
    (go_on c.in_ok-put.ensures (begin_as
    (arguments_some c.args.names.now c.args.arguments.now (sym c.is_empty.ensures ∙ c.if-is_empty.false))))

pub returns : goal.returns
returns g c =
    end _ _ _ _ (go_on c.in_ok-write_parts.ensures
    (go_on c.in_ok-put.ensures (begin_as
    (arguments_some c.args.names.now c.args.arguments.now (sym c.is_empty.ensures ∙ c.if-is_empty.false))))) c.put-2.ensures
