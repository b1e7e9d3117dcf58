use Rattle.std.proofs.Common.{codes, arith}
use Rattle.fcp_text.specs.SourceItems.{item_text}
use Rattle.fcp_text.proofs.Progress.{begin_as, go_on, stop, finish, moved}
use Rattle.fcp_text.proofs.PartedTexts.{parted_first, behind_step, behind_here, behind_none}
use Rattle.fcp_text.proofs.write_items.write_items.Goals as goal

pub returns-in_err-write_item : goal.returns-in_err-write_item
returns-in_err-write_item g c =
    stop _ _ _ c.from_residual.ensures.0 c.in_err-write_item.ensures _
    (begin_as (parted_first (item_text c.args.names.now) (codes ", ") c.args.items.now c.args.from c.index-items-from.result
    (omega arith) c.index-items-from.is))

pub loop-at-init : goal.loop-at-init
loop-at-init g c =
    go_on c.in_ok-write_item.ensures
    (begin_as (parted_first (item_text c.args.names.now) (codes ", ") c.args.items.now c.args.from c.index-items-from.result
    (omega arith) c.index-items-from.is))

pub returns-in_err-put : goal.returns-in_err-put
returns-in_err-put g c =
    stop _ _ _ c.from_residual-in_err-put.ensures.0 c.in_err-put.ensures _
    (moved (behind_here (item_text c.args.names.now) (codes ", ") c.args.items.now c.loop-at.at c.index-items-from.result
    (omega arith)) c.loop-at.invariant)

pub returns-in_err-write_item-2 : goal.returns-in_err-write_item-2
returns-in_err-write_item-2 g c =
    stop _ _ _ c.from_residual-in_err-write_item-2.ensures.0 c.in_err-write_item-2.ensures _
    (go_on c.in_ok-put.ensures
    (moved (behind_step (item_text c.args.names.now) (codes ", ") c.args.items.now c.loop-at.at c.index-items-at.result
    (omega arith) c.index-items-at.is) c.loop-at.invariant))

pub loop-at-preserved : goal.loop-at-preserved
loop-at-preserved g c =
    go_on c.in_ok-write_item-2.ensures (go_on c.in_ok-put.ensures
    (moved (behind_step (item_text c.args.names.now) (codes ", ") c.args.items.now c.loop-at.at c.index-items-at.result
    (omega arith) c.index-items-at.is) c.loop-at.invariant))

pub returns : goal.returns
returns g c =
    finish (moved (behind_none (item_text c.args.names.now) (codes ", ") c.args.items.now c.loop-at.at (omega arith)) c.loop-at.invariant)
