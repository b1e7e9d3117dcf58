use Rattle.std.proofs.Common.{length}
use Rattle.fcp_terminals.proofs.Keeping.{Kept}
use Rattle.fcp_terminals.proofs.terminals.terminals_of.Given as goal

abbrev pub invariant-loop-rest : goal.invariant-loop-rest
invariant-loop-rest l = Kept l.form l.fn.names l.text l.tokens l.names l.variables l.terminals l.rest

abbrev pub decreases-loop-rest : goal.decreases-loop-rest
decreases-loop-rest l = length l.rest
