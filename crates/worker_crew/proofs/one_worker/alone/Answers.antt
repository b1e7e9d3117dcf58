use Rattle.worker_crew.proofs.Measures.{goes_on}
use Rattle.worker_crew.proofs.one_worker.alone.Goals as goal

pub loop-engine-preserved : goal.loop-engine-preserved
loop-engine-preserved c =
    goes_on c.args.task.now c.loop-engine.engine c.rule.new.self c.in_ok-rule.field-0 c.in-Makes.is c.in_ok-rule.ensures
