use Rattle.std.proofs.Common.{arith, List, subst, sym}
use Rattle.std.specs.List.{All}
use Rattle.std.proofs.lemmas.List.Elements.{All-push}
use Rattle.store_bench.specs.declared.workers.Worker.{Worker}
use Rattle.store_bench.specs.Workers.{IsReady}
use Rattle.store_bench.proofs.Adding.{one_fits}
use Rattle.store_bench.proofs.stores.hire_all.Goals as goal

pub loop-place-preserved : goal.loop-place-preserved
loop-place-preserved c =
    let i = c.loop-place.invariant in
    let h = c.in_ok-rest.ensures in
    let p = c.push_reserved.ensures in
    let rights = h.rights in
    let rights' = i.rights in
    let moves = h.moves in
    let moves' = i.moves in
    let fits = one_fits c.loop-place.place c.args.plan.seats c.args.rounds c.loop-place-test.true in
    let len = p.len in
    let len' = i.len in
    let capacity = p.capacity in
    let capacity' = i.capacity in
    record {
      seat = h.seat;
      rest = h.rest;
      rights = omega arith;
      moves = omega arith;
      len = omega arith;
      capacity = omega arith;
      ready = subst (λ (l : List Worker). All (λ w. IsReady c.args.store.now c.args.rounds w) l) (sym p.items)
          (All-push (λ w. IsReady c.args.store.now c.args.rounds w) c.loop-place.workers.items c.in_ok-rest.worker i.ready h.ready);
    }
