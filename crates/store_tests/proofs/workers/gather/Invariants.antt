use Rattle.std.proofs.Common.{◌≡◌, ◌+◌, ◌*◌, ◌≤◌, vec_len}
use Rattle.std.specs.List.{All}
use Rattle.word_commit.specs.Shows.{IsSeatOf, view_of, spare_of}
use Rattle.store_tests.specs.Transfers.{IsAtRest}
use Rattle.store_tests.specs.Workers.{IsDone}
use Rattle.store_tests.proofs.workers.gather.Given as goal

abbrev pub invariant-loop-worker : goal.invariant-loop-worker
invariant-loop-worker l = record {
  seat : IsSeatOf l.store l.seat;
  rest : IsAtRest (view_of l.seat);
  rights : (view_of l.seat).purse.rights + vec_len l.workers ≡ (view_of l.initial.seat).purse.rights + vec_len l.initial.workers;
  room : spare_of l.seat + l.tally.done ≡ spare_of l.initial.seat;
  few : l.tally.done + l.tally.busy + vec_len l.workers * l.wanted ≤ vec_len l.initial.workers * l.wanted;
  dones : All (λ w. IsDone l.store l.wanted w) l.workers.items;
}

abbrev pub decreases-loop-worker : goal.decreases-loop-worker
decreases-loop-worker l = goal.left-loop-worker l
