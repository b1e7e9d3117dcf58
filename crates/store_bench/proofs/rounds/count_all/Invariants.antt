use Rattle.std.proofs.Common.{◌≤◌, ◌+◌}
use Rattle.word_commit.specs.Shows.{IsSeatOf, view_of, spare_of}
use Rattle.store_bench.specs.Spells.{IsAtRest}
use Rattle.store_bench.proofs.rounds.count_all.Given as goal

abbrev pub invariant-loop-turn : goal.invariant-loop-turn
invariant-loop-turn l = record {
  seat : IsSeatOf l.store l.seat;
  rest : IsAtRest (view_of l.seat);
  room : l.rounds ≤ spare_of l.seat + l.done;
  funds : l.rounds ≤ (view_of l.seat).purse.moves + l.done;
  few : l.done ≤ l.rounds;
}
