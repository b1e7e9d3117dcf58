use Rattle.word_commit.specs.Shows.{IsSeatOf, view_of}
use Rattle.store_bench.specs.Spells.{IsAtRest}
use Rattle.store_bench.proofs.rounds.hold_all.Given as goal

abbrev pub invariant-loop-turn : goal.invariant-loop-turn
invariant-loop-turn l = record {
  seat : IsSeatOf l.store l.seat;
  rest : IsAtRest (view_of l.seat);
}
