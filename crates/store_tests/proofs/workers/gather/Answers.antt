use Rattle.std.proofs.Common.{arith, vec_len}
use Rattle.std.proofs.lemmas.Grind.{common_steps}
use Rattle.store_tests.proofs.Moves.{one_more}
use Rattle.store_tests.proofs.workers.gather.Goals as goal

pub loop-worker-preserved : goal.loop-worker-preserved
loop-worker-preserved c =
    let i = c.loop-worker.invariant in
    let t = c.take_in.ensures in
    let len = c.in-Some.ensures.len in
    let more = one_more (vec_len c.loop-worker.workers) (vec_len c.pop.new.self) c.args.wanted (omega arith) in
    let rights = t.rights in
    let rights' = i.rights in
    let room = t.room in
    let room' = i.room in
    let few = t.few in
    let few' = i.few in
    record {
      seat = t.seat;
      rest = t.rest;
      rights = omega arith;
      room = omega arith;
      few = omega arith;
      dones = λ k d lt. grind (arith, common_steps, i.dones k d, c.in-Some.ensures.rest);
    }
