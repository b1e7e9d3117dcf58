use Rattle.std.proofs.Common.{[]}
use Rattle.worker_crew.specs.Reached.{IsReached}
use Rattle.worker_crew.proofs.Measures.{measure}
use Rattle.worker_crew.proofs.one_worker.alone.Given as goal

abbrev pub invariant-loop-engine : goal.invariant-loop-engine
invariant-loop-engine l = IsReached l.task [] l.engine

abbrev pub decreases-loop-engine : goal.decreases-loop-engine
decreases-loop-engine l = measure l.task l.engine
