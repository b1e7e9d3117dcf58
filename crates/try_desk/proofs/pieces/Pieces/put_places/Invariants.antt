use Rattle.std.proofs.Common.{◌≡◌, ◌++◌}
use Rattle.trial_laws.specs.Laws.{places_for}
use Rattle.try_desk.proofs.pieces.Pieces.put_places.Given as goal

abbrev pub invariant-loop-i : goal.invariant-loop-i
invariant-loop-i l = l.self ≡ l.initial.self ++ places_for l.i
