use Rattle.std.proofs.Common.{◌≡◌, ◌++◌, take}
use Rattle.worker_crew.proofs.queues.push_all.Given as goal

abbrev pub invariant-loop-process : goal.invariant-loop-process
invariant-loop-process l = l.queue.items ≡ l.fn.queue.items ++ take l.process-index l.processes
