use Rattle.std.proofs.Common.{◌≡◌, take, map}
use Rattle.suspension_lists.specs.declared.sleepers.Sleeper.{Sleeper}
use Rattle.suspension_lists.proofs.waiting.put_processes.Given as goal

abbrev pub invariant-loop-sleeper : goal.invariant-loop-sleeper
invariant-loop-sleeper l = l.processes.items ≡ map (λ (s : Sleeper). s.process) (take l.sleeper-index l.sleepers)
