use Rattle.std.proofs.Common.{◌≡◌, ◌+◌, ◌≤◌, length, vec_len, vec_capacity}
use Rattle.std.specs.List.{All}
use Rattle.word_commit.specs.Shows.{IsSeatOf, view_of, spare_of}
use Rattle.store_tests.specs.Transfers.{IsAtRest}
use Rattle.store_tests.specs.Workers.{IsReady}
use Rattle.store_tests.proofs.runs.hire_all.Given as goal

abbrev pub invariant-loop-pair : goal.invariant-loop-pair
invariant-loop-pair l = record {
  seat : IsSeatOf l.store l.seat;
  rest : IsAtRest (view_of l.seat);
  rights : (view_of l.seat).purse.rights + l.pair-index ≡ (view_of l.initial.seat).purse.rights;
  room : spare_of l.seat ≡ spare_of l.initial.seat;
  len : vec_len l.workers ≡ l.pair-index;
  capacity : length l.plan ≤ vec_capacity l.workers;
  ready : All (λ w. IsReady l.store l.wanted w) l.workers.items;
}
