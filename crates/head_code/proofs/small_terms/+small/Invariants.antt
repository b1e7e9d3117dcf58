use Rattle.std.proofs.Common.{length, drop}
use Rattle.fcp_model.specs.HeadPairs.{marks}
use Rattle.head_code.specs.TermCode.{parts_of}
use Rattle.head_code.specs.HeadCode.{gets_unmade}
use Rattle.head_code.proofs.SmallLoops.{SmallLeft}
use Rattle.head_code.proofs.small_terms.+small.Given as goal

-- the parts from here on are left
abbrev pub invariant-open_small_parts-loop-term : goal.invariant-open_small_parts-loop-term
invariant-open_small_parts-loop-term l =
    SmallLeft l.fn.code l.code (gets_unmade (length l.fn.code.instrs.items) l.slot l.next l.met (parts_of l.terms)) l.at l.next l.last
    (drop l.term-index l.terms) (marks l.met (parts_of l.terms)).met
