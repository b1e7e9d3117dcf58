use Rattle.std.proofs.Common.{sym, ◌∙◌}
use Rattle.fcp_text.proofs.Progress.{begin_as, go_on, stop, end}
use Rattle.fcp_text.proofs.EmptyTexts.{guard_some}
use Rattle.fcp_text.proofs.write_clauses.write_tail.Goals as goal

pub returns-in_err-put : goal.returns-in_err-put
returns-in_err-put g c =
    stop _ _ _ c.from_residual.ensures.0 c.in_err-put.ensures _
    (begin_as (guard_some c.args.names.now c.args.guard.now c.args.body.now (sym c.is_empty.ensures ∙ c.if-is_empty.false)))

pub returns-in_err-write_items : goal.returns-in_err-write_items
returns-in_err-write_items g c =
    stop _ _ _ c.from_residual-in_err-write_items.ensures.0 c.in_err-write_items.ensures _
    (go_on c.in_ok-put.ensures (begin_as
    (guard_some c.args.names.now c.args.guard.now c.args.body.now (sym c.is_empty.ensures ∙ c.if-is_empty.false))))

pub returns-in_err-put-2 : goal.returns-in_err-put-2
returns-in_err-put-2 g c =
    stop _ _ _ c.from_residual-in_err-put-2.ensures.0 c.in_err-put-2.ensures _
    (go_on c.in_ok-write_items.ensures
    (go_on c.in_ok-put.ensures (begin_as
    (guard_some c.args.names.now c.args.guard.now c.args.body.now (sym c.is_empty.ensures ∙ c.if-is_empty.false)))))

pub returns : goal.returns
returns g c =
    end _ _ _ _ (go_on c.in_ok-put-2.ensures
    (go_on c.in_ok-write_items.ensures
    (go_on c.in_ok-put.ensures (begin_as
    (guard_some c.args.names.now c.args.guard.now c.args.body.now
    (sym c.is_empty.ensures ∙ c.if-is_empty.false)))))) c.write_items-2.ensures
