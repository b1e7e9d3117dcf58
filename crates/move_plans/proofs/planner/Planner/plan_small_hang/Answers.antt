use Rattle.move_plans.proofs.Planning.{hang_says}
use Rattle.move_plans.proofs.planner.Planner.plan_small_hang.Goals as goal

pub put_hang_move-requires-clause-planned : goal.put_hang_move-requires-clause-planned
put_hang_move-requires-clause-planned g c =
    (c.in_ok-laid.ensures.lays c.if-laid.true).planned c.args.name c.requires.mover

pub put_hang_move-requires-clause-rise : goal.put_hang_move-requires-clause-rise
put_hang_move-requires-clause-rise g c = (c.in_ok-laid.ensures.lays c.if-laid.true).rise

pub put_hang_move-requires-clause-places : goal.put_hang_move-requires-clause-places
put_hang_move-requires-clause-places g c = (c.in_ok-laid.ensures.lays c.if-laid.true).places

pub returns-then-laid-clause-says : goal.returns-then-laid-clause-says
returns-then-laid-clause-says g c =
    hang_says c.fits.ensures.hang c.safe.ensures.hang c.args.code.now c.args.self.now c.lay_hang.new.self c.put_hang_move.new.self
    c.args.process c.args.name c.args.left c.requires.mover c.requires.decided c.requires.enough c.in_ok-laid.ensures.loaded.grows c.in_ok-laid.ensures.hands
    (c.in_ok-laid.ensures.lays c.if-laid.true) c.in_ok-put_hang_move.ensures
