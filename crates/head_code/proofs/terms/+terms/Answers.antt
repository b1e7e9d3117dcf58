use Rattle.std.proofs.Common.{rules}
use Rattle.head_code.proofs.PutLoops.{pair_put, tuple_put, tuple_behind, parts_step, rest_step, rest_end, whole_step}
use Rattle.head_code.proofs.terms.+terms.Goals as goal

pub put-returns-in_ok-emit-in-Cons-clause-code : goal.put-returns-in_ok-emit-in-Cons-clause-code
put-returns-in_ok-emit-in-Cons-clause-code t c =
    pair_put _ _ _ _ _ _ _ _ _ _ _ _ _ _ c.in-Cons.is c.get.ensures c.get-in-Cons.ensures c.in_ok-right-in-Cons.ensures
    c.in_ok-up-in-Cons.ensures c.in_ok-behind-in-Cons.ensures.next c.in_ok-behind-in-Cons.ensures.code c.in_ok-end-in-Cons.ensures.code
    c.in_ok-emit-in-Cons.ensures

pub put-returns-in_ok-emit-in-Tuple-clause-code : goal.put-returns-in_ok-emit-in-Tuple-clause-code
put-returns-in_ok-emit-in-Tuple-clause-code t c =
    tuple_put _ _ _ _ _ _ _ _ _ _ c.in-Tuple.is c.as_slice-in-Tuple.ensures
    (search rules) c.in_ok-up-in-Tuple.ensures c.in_ok-end-in-Tuple.ensures.code c.in_ok-emit-in-Tuple.ensures

pub put-returns-in_ok-emit-in-Tuple-clause-next : goal.put-returns-in_ok-emit-in-Tuple-clause-next
put-returns-in_ok-emit-in-Tuple-clause-next t c =
    tuple_behind _ _ _ _ _ _ _ c.in-Tuple.is c.as_slice-in-Tuple.ensures
    (search rules) c.in_ok-up-in-Tuple.ensures c.in_ok-end-in-Tuple.ensures.next

pub put_parts-loop-term-preserved : goal.put_parts-loop-term-preserved
put_parts-loop-term-preserved t c =
    parts_step _ _ _ _ _ _ _ _ _ _ _ _ c.loop-term-test.true c.term-item.is c.in_ok-at.ensures c.in_ok-free.ensures.next
    c.in_ok-free.ensures.code c.loop-term.invariant

pub put_rest-loop-rest-preserved : goal.put_rest-loop-rest-preserved
put_rest-loop-rest-preserved t c =
    rest_step _ _ _ _ _ _ _ _ _ _ _ _ _ _ _ _ _ _ c.in-Cons.is c.get.ensures c.get-rest.ensures c.in_ok-right.ensures c.in_ok-up.ensures
    c.in_ok-free.ensures.next c.in-Ok.ensures.items c.in_ok-free.ensures.code c.loop-rest.invariant

pub put_rest-loop-whole-init : goal.put_rest-loop-whole-init
put_rest-loop-whole-init t c =
    rest_end _ _ _ _ _ _ _ _ _ _ c.loop-rest.pairs.items c.in_ok-end.ensures.next c.in_ok-end.ensures.code c.loop-rest.invariant

pub put_rest-loop-whole-preserved : goal.put_rest-loop-whole-preserved
put_rest-loop-whole-preserved t c = (
  whole_step _ _ _ _ _ _ _ _ _ c.in-Some.ensures.items c.in_ok-up-2.ensures c.in_ok-emit.ensures c.loop-whole.invariant.0,
  c.loop-whole.invariant.1,
)
