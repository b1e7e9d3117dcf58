use Rattle.word_moves.specs.Planned.{process_of}
use Rattle.move_plans.proofs.Planning.{fail_plan}
use Rattle.move_plans.proofs.planner.Planner.plan_fail.Goals as goal

pub returns-clause-says : goal.returns-clause-says
returns-clause-says c = (
  fail_plan c.fits.ensures.fail c.safe.ensures.fail c.args.code.now c.args.self.now c.put_fail.new.self c.args.process c.args.name
      c.requires.mover c.requires.reads c.requires.decided c.put_fail.ensures,
  (process_of c.args.name, c.put_fail.ensures.entry),
)
