use Rattle.std.proofs.Common.{◌+◌, ◌≤◌, true, false, arith, rules}
use Rattle.std.specs.Prelude.{slice_index_or}
use Rattle.try_desk.proofs.Counted.{one_more, counted}
use Rattle.try_desk.proofs.Sizes.{total_more, total_below}
use Rattle.try_desk.proofs.processes.processes_among.Goals as goal
use Rattle.try_desk.proofs.processes.processes_among.Goals.{then-is_ready, else-is_ready}

pub is_ready-requires : goal.is_ready-requires
is_ready-requires c =
    let more = total_more c.args.sizes.now c.loop-size.size-index c.loop-size-test.true in
    let below = total_below (c.loop-size.size-index + 1) c.args.sizes.now in
    omega (arith, more, below, c.loop-size.invariant.0, c.requires.whole)

pub overflow_add-at : goal.overflow_add-at
overflow_add-at c =
    let more = total_more c.args.sizes.now c.loop-size.size-index c.loop-size-test.true in
    let below = total_below (c.loop-size.size-index + 1) c.args.sizes.now in
    let sum : c.loop-size.at + slice_index_or c.args.sizes.now c.loop-size.size-index 0 ≤ 268435455 =
    omega (arith, more, below, c.loop-size.invariant.0, c.requires.whole, c.requires.words) in
    search (rules, sum)

pub loop-size-preserved : goal.loop-size-preserved
loop-size-preserved c =
    let more = total_more c.args.sizes.now c.loop-size.size-index c.loop-size-test.true in
    let one = one_more 4000000000 c.args.sizes.now c.args.words.now c.loop-size.size-index c.loop-size.at c.loop-size-test.true
    c.loop-size.invariant.0 in
    let few = c.loop-size.invariant.1.1 in (
      omega (arith, more, c.loop-size.invariant.0),
      elim c.if-is_ready.branch [
        | then-is_ready w ↦ (
          counted _ true _ _ _ _ one w.if-is_ready.ensures c.loop-size.invariant.1.0 w.count-is,
          omega (arith, w.count-is, few),
        )
        | else-is_ready w ↦ (
          counted _ false _ _ _ _ one w.if-is_ready.ensures c.loop-size.invariant.1.0 w.count-is,
          omega (arith, w.count-is, few),
        )
      ],
    )
