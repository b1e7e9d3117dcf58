use Rattle.std.proofs.Common.{◌≡◌}
use Rattle.page_layout.specs.Hangs.{threes}
use Rattle.move_plans.proofs.places.put_threes.Given as goal

abbrev pub invariant-loop-i : goal.invariant-loop-i
invariant-loop-i l = l.sizes.items ≡ threes l.i
