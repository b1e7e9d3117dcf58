use Rattle.std.proofs.Common.{length, map, drop}
use Rattle.fcp_model.specs.Translation.{term_of}
use Rattle.head_code.specs.HeadCode.{head_code}
use Rattle.head_code.proofs.ArgumentLoops.{HeadLeft}
use Rattle.head_code.proofs.arguments.head.Given as goal

abbrev pub invariant-loop-term : goal.invariant-loop-term
invariant-loop-term l =
    HeadLeft l.fn.code l.code (head_code (length l.fn.code.instrs.items) 0 l.base 0 (map term_of l.args)) l.at l.base l.met
    (drop l.term-index l.args)
