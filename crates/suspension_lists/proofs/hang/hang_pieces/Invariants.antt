use Rattle.std.proofs.Common.{◌≡◌, take, ◌++◌}
use Rattle.suspension_lists.specs.Hangs.{open_entries}
use Rattle.suspension_lists.proofs.hang.hang_pieces.Given as goal

abbrev pub invariant-loop-place : goal.invariant-loop-place
invariant-loop-place l = l.pieces.items ≡ l.fn.pieces.items ++ open_entries l.process (take l.place-index l.places)
