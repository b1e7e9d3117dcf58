use Rattle.std.proofs.Common.{length}
use Rattle.logix_edge.proofs.Written.{HasWritten}
use Rattle.logix_edge.proofs.streams.write_whole.Given as goal

abbrev pub invariant-loop-rest : goal.invariant-loop-rest
invariant-loop-rest g l = HasWritten (g.W.Write.contents l.fn.to) (g.W.Write.contents l.to) l.piece l.rest

abbrev pub decreases-loop-rest : goal.decreases-loop-rest
decreases-loop-rest g l = length l.rest
