use Rattle.std.proofs.Common.{◌-◌, length}
use Rattle.fcp_text.proofs.Cuts.{Kept}
use Rattle.fcp_text.proofs.lexer.tokens_in.Given as goal

abbrev pub invariant-loop-at : goal.invariant-loop-at
invariant-loop-at l = Kept l.bytes l.found l.may_sign l.at

abbrev pub decreases-loop-at : goal.decreases-loop-at
decreases-loop-at l = length l.bytes - l.at
