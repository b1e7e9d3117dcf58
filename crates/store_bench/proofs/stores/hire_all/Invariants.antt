use Rattle.std.proofs.Common.{◌≡◌, ◌+◌, ◌*◌, ◌≤◌, vec_len, vec_capacity}
use Rattle.std.specs.List.{All}
use Rattle.word_commit.specs.Shows.{IsSeatOf, view_of}
use Rattle.store_bench.specs.Spells.{IsAtRest}
use Rattle.store_bench.specs.Workers.{IsReady}
use Rattle.store_bench.proofs.stores.hire_all.Given as goal

abbrev pub invariant-loop-place : goal.invariant-loop-place
invariant-loop-place l = record {
  seat : IsSeatOf l.store l.seat;
  rest : IsAtRest (view_of l.seat);
  rights : (view_of l.seat).purse.rights + l.place ≡ (view_of l.initial.seat).purse.rights;
  moves : l.plan.seats * l.rounds ≤ (view_of l.seat).purse.moves + l.place * l.rounds;
  len : vec_len l.workers ≡ l.place;
  capacity : l.plan.seats ≤ vec_capacity l.workers;
  ready : All (λ w. IsReady l.store l.rounds w) l.workers.items;
}
