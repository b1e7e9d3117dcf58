use Rattle.std.proofs.Common.{◌≡◌, ◌+◌, ◌≤◌, take, arith, rules}
use Rattle.std.specs.Prelude.{slice_index_or}
use Rattle.try_desk.specs.Cuts.{total}
use Rattle.try_desk.proofs.Sizes.{total_more, total_below}
use Rattle.try_desk.proofs.pieces.words_behind.Goals as goal

pub overflow_add-words : goal.overflow_add-words
overflow_add-words c =
    let more : total (take (c.loop-i.i + 1) c.args.sizes.now) ≡ total (take c.loop-i.i c.args.sizes.now)
    + slice_index_or c.args.sizes.now c.loop-i.i 0 = total_more c.args.sizes.now c.loop-i.i c.loop-i-test.true in
    let below : total (take (c.loop-i.i + 1) c.args.sizes.now) ≤ total c.args.sizes.now = total_below (c.loop-i.i + 1) c.args.sizes.now in
    let sum : c.loop-i.words + slice_index_or c.args.sizes.now c.loop-i.i 0 ≤ 268435455 = omega arith in
    search (rules, sum)

pub loop-i-preserved : goal.loop-i-preserved
loop-i-preserved c = omega (arith, total_more c.args.sizes.now c.loop-i.i c.loop-i-test.true, c.loop-i.invariant)
