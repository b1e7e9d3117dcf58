use Rattle.std.proofs.Common.{refl}
use Rattle.worker_crew.proofs.Ending.{run_alone, run_log}
use Rattle.worker_crew.proofs.one_worker.run_of.Goals as goal

pub returns-clause-run : goal.returns-clause-run
returns-clause-run c = λ t task ended.
    run_alone t c.args.engine c.args.outcome ended c.one_worker_runs.ensures.outcome _ c.into_log.ensures refl refl

pub returns-clause-log : goal.returns-clause-log
returns-clause-log c = λ t task ended.
    run_log t c.args.engine c.args.outcome task ended c.one_worker_runs.ensures.lawful _ c.into_log.ensures
