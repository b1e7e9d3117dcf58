use Rattle.std.proofs.Common.{[]}
use Rattle.trial_machine.proofs.Loading.{loads_on}
use Rattle.move_plans.proofs.planner.Planner.plan.Goals as goal

pub returns-in_ok-planned-in-Named-clause-loaded : goal.returns-in_ok-planned-in-Named-clause-loaded
returns-in_ok-planned-in-Named-clause-loaded g c =
    loads_on g.met.W.Words.laws [] c.begin.new.self.machine.trail.kept c.plan_trial.new.self.machine.trail.kept c.args.words.now
    c.begin.new.words c.plan_trial.new.words c.begin.ensures.between c.plan_trial.ensures.between c.in_ok-trial.ensures.loaded
    c.in_ok-planned-in-Named.ensures.loaded
