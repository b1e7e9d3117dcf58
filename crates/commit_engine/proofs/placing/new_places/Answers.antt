use Rattle.std.proofs.Common.{refl, arith}
use Rattle.commit_engine.proofs.NewPlaces.{placed_none, placed_more, placed_all}
use Rattle.commit_engine.proofs.placing.new_places.Goals as goal

pub loop-at-init : goal.loop-at-init
loop-at-init c = placed_none c.args.read.now.kept c.args.writes.now c.args.writes.now c.new-places.result.items refl c.new-places.ensures.items

pub loop-at-preserved : goal.loop-at-preserved
loop-at-preserved c =
    placed_more c.args.read.now.kept c.args.writes.now c.loop-at.at c.index-writes-at.result c.loop-at.places.items c.put_place.new.places.items
    c.loop-at-test.true c.index-writes-at.is c.loop-at.invariant (c.in_ok-put_place.ensures c.if-not-branch.false)

pub returns : goal.returns
returns c =
    placed_all c.args.read.now.kept c.args.writes.now c.loop-at.at c.loop-at.places.items (omega arith) c.loop-at.invariant
