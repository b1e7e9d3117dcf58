use Rattle.word_commit.specs.Shows.{IsSeatOf, view_of, spare_of, given_of}
use Rattle.store_bench.specs.Spells.{Spends, Counter}
use Rattle.store_bench.proofs.spells.count_held.Given as goal

abbrev pub invariant-loop-done : goal.invariant-loop-done
invariant-loop-done l = record {
  seat : IsSeatOf l.store l.seat;
  counter : Counter (given_of l.store) (view_of l.seat) l.page l.top l.word;
  spends : Spends (view_of l.initial.seat) (view_of l.seat) (spare_of l.initial.seat) (spare_of l.seat) l._done;
}
