use Rattle.fcp_reader.proofs.Loops.{Kept}
use Rattle.fcp_reader.proofs.ModuleMachine.{modules}
use Rattle.fcp_reader.proofs.modules.module_of.Given as goal

abbrev pub invariant-loop-i : goal.invariant-loop-i
invariant-loop-i l = Kept modules l.terminals l.i l.state l.depth
