use Rattle.std.proofs.Common.{arith, List, subst, sym}
use Rattle.std.specs.List.{All}
use Rattle.std.proofs.lemmas.List.Elements.{All-push}
use Rattle.store_tests.specs.declared.workers.Worker.{Worker}
use Rattle.store_tests.specs.Workers.{IsReady}
use Rattle.store_tests.proofs.runs.hire_all.Goals as goal

pub loop-pair-preserved : goal.loop-pair-preserved
loop-pair-preserved c =
    let i = c.loop-pair.invariant in
    let h = c.in-Some.ensures in
    let p = c.push_reserved.ensures in
    let rights = h.rights in
    let rights' = i.rights in
    let room = h.room in
    let room' = i.room in
    let len = p.len in
    let len' = i.len in
    let capacity = p.capacity in
    let capacity' = i.capacity in
    record {
      seat = h.seat;
      rest = h.rest;
      rights = omega arith;
      room = omega arith;
      len = omega arith;
      capacity = omega arith;
      ready = subst (λ (l : List Worker). All (λ w. IsReady c.args.store.now c.args.wanted w) l) (sym p.items)
          (All-push (λ w. IsReady c.args.store.now c.args.wanted w) c.loop-pair.workers.items c.in-Some.worker i.ready h.ready);
    }
