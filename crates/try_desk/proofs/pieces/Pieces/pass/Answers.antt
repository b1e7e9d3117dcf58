use Rattle.trial_laws.specs.NewPieces.{passed}
use Rattle.try_desk.specs.Desks.{pieces_at_hand}
use Rattle.try_desk.specs.Held.{held}
use Rattle.try_desk.proofs.Passed.{passed_put}
use Rattle.try_desk.proofs.pieces.Pieces.pass.Goals as goal

pub loop-i-preserved : goal.loop-i-preserved
loop-i-preserved c =
    passed_put (passed (pieces_at_hand c.args.self.now c.args.trail.now.binds)) (held c.args.slots.now) c.args.first c.loop-i.i c.term.result
    c.passed.result c.args.line.now.items c.loop-i.line.items c.put_word.new.line.items c.loop-i.invariant c.term.ensures c.passed.ensures
    c.in_ok-put_word.ensures
