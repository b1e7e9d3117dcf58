use Rattle.std.proofs.Common.{◌≡◌, ◌+◌, ◌≤◌}
use Rattle.word_commit.specs.Shows.{IsSeatOf, view_of, spare_of}
use Rattle.word_commit.specs.Views.{all_rights}
use Rattle.store_tests.specs.Transfers.{IsAtRest, Spends}
use Rattle.store_tests.proofs.spending.spend.Given as goal

abbrev pub invariant-loop-turn : goal.invariant-loop-turn
invariant-loop-turn l = record {
  seat : IsSeatOf l.store l.seat;
  rest : IsAtRest (view_of l.seat);
  spends : Spends (view_of l.initial.seat) (view_of l.seat) (spare_of l.initial.seat) (spare_of l.seat) l.done;
  few : l.done + l.busy ≤ l._turn;
  alone : (view_of l.initial.seat).purse.rights ≡ all_rights → l.busy ≡ 0;
}
