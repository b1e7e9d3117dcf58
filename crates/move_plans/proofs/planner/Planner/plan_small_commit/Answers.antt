use Rattle.move_plans.proofs.Planning.{commit_says}
use Rattle.move_plans.proofs.planner.Planner.plan_small_commit.Goals as goal

pub put_commit_move-requires-clause-planned : goal.put_commit_move-requires-clause-planned
put_commit_move-requires-clause-planned g c =
    (c.in_ok-laid.ensures.lays c.if-laid.true).planned c.args.name c.requires.mover

pub put_commit_move-requires-clause-rise : goal.put_commit_move-requires-clause-rise
put_commit_move-requires-clause-rise g c = (c.in_ok-laid.ensures.lays c.if-laid.true).rise

pub put_commit_move-requires-clause-bound : goal.put_commit_move-requires-clause-bound
put_commit_move-requires-clause-bound g c = (c.in_ok-laid.ensures.lays c.if-laid.true).bound

pub returns-then-laid-clause-says : goal.returns-then-laid-clause-says
returns-then-laid-clause-says g c =
    commit_says c.fits.ensures.commit c.safe.ensures.commit c.args.code.now c.args.self.now c.lay_commit.new.self
    c.put_commit_move.new.self c.args.process c.args.name c.args.cells c.args.left c.requires.mover c.requires.decided c.requires.cells
    c.requires.enough c.in_ok-laid.ensures.loaded.grows c.in_ok-laid.ensures.hands (c.in_ok-laid.ensures.lays c.if-laid.true)
    c.in_ok-put_commit_move.ensures.moves c.in_ok-put_commit_move.ensures.cells
