use Rattle.try_desk.proofs.Cutting.{places_put}
use Rattle.try_desk.proofs.pieces.Pieces.put_places.Goals as goal

pub loop-i-preserved : goal.loop-i-preserved
loop-i-preserved c =
    places_put c.args.self.now c.loop-i.self c.put.new.self c.loop-i.i c.loop-i.invariant c.in_ok-put.ensures.pieces
