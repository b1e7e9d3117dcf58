use Rattle.std.proofs.Common.{rules}
use Rattle.head_code.proofs.SmallLoops.{small_pair, small_tuple, small_step}
use Rattle.head_code.proofs.small_terms.+small.Goals as goal

pub open_small-returns-in_ok-put-in-Cons-clause-code : goal.open_small-returns-in_ok-put-in-Cons-clause-code
open_small-returns-in_ok-put-in-Cons-clause-code t c =
    small_pair _ _ _ _ _ _ _ _ _ _ _ _ _ _ _ _ _ _ _ _ _ c.in-Cons.is c.get.ensures c.get-in-Cons.ensures (search rules)
    c.in_ok-right-in-Cons.ensures c.in_ok-free-in-Cons.ensures c.in_ok-first-in-Cons.ensures.met c.get_cons.ensures
    c.get_cons-in-Cons.ensures c.in_ok-emit-in-Cons.ensures
    c.in_ok-first-in-Cons.ensures.code c.in_ok-last-in-Cons.ensures.code c.in_ok-put-in-Cons.ensures.code
    c.in_ok-put-in-Cons.ensures.begin c.patch.ensures.instrs c.patch.ensures.smalls c.patch.ensures.steps

pub open_small-returns-in_ok-put-in-Tuple-clause-code : goal.open_small-returns-in_ok-put-in-Tuple-clause-code
open_small-returns-in_ok-put-in-Tuple-clause-code t c =
    small_tuple _ _ _ _ _ _ _ _ _ _ _ _ _ _ _ _ _ c.in-Tuple.is c.as_slice-in-Tuple.ensures (search rules) (search rules)
    c.in_ok-free-in-Tuple.ensures c.get_tuple.ensures c.get_tuple-in-Tuple.ensures c.in_ok-emit-in-Tuple.ensures
    c.in_ok-last-in-Tuple.ensures.code c.in_ok-put-in-Tuple.ensures.code
    c.in_ok-put-in-Tuple.ensures.begin c.patch-in-Tuple.ensures.instrs c.patch-in-Tuple.ensures.smalls c.patch-in-Tuple.ensures.steps

pub open_small_parts-loop-term-preserved : goal.open_small_parts-loop-term-preserved
open_small_parts-loop-term-preserved t c =
    small_step _ _ _ _ _ _ _ _ _ _ _ _ _ c.loop-term-test.true c.term-item.is c.in_ok-at.ensures c.in_ok-last.ensures.met
    c.in_ok-last.ensures.code c.loop-term.invariant
