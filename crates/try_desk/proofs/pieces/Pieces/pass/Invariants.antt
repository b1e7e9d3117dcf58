use Rattle.std.proofs.Common.{◌≡◌, ◌++◌, map}
use Rattle.trial_laws.specs.NewPieces.{passed}
use Rattle.try_desk.specs.Desks.{pieces_at_hand}
use Rattle.try_desk.specs.Held.{held, held_terms}
use Rattle.try_desk.proofs.pieces.Pieces.pass.Given as goal

abbrev pub invariant-loop-i : goal.invariant-loop-i
invariant-loop-i l = l.line.items ≡ l.initial.line.items ++ map (passed (pieces_at_hand l.self l.trail.binds)) (held_terms (held l.slots) l.first l.i)
