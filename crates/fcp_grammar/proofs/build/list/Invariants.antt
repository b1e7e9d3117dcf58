use Rattle.std.proofs.Common.{◌≡◌, vec_len}
use Rattle.fcp_grammar.specs.Values.{listed}
use Rattle.fcp_grammar.proofs.build.list.Given as goal

abbrev pub invariant-loop-last : goal.invariant-loop-last
invariant-loop-last l = listed l.left.items l.built ≡ listed l.fn.elements l.fn.rest

abbrev pub decreases-loop-last : goal.decreases-loop-last
decreases-loop-last l = vec_len l.left
