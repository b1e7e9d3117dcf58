use Rattle.std.proofs.Common.{sym}
use Rattle.suspension_lists.proofs.Hanging.{open_next}
use Rattle.suspension_lists.proofs.hang.hang_pieces.Goals as goal

pub loop-place-preserved : goal.loop-place-preserved
loop-place-preserved c =
    rw (c.in_ok-push_entry.ensures, c.loop-place.invariant, c.list_in.ensures)
    (sym (open_next c.args.process c.args.pieces.now.items c.args.places.now c.loop-place.place-index (0, 0) c.loop-place-test.true))
