use Rattle.std.proofs.Common.{drop}
use Rattle.commit_engine.proofs.SecondLooks.{SeenBefore}
use Rattle.commit_engine.proofs.looking.look_again.Given as goal

abbrev pub invariant-loop-at : goal.invariant-loop-at
invariant-loop-at g l = record {
  is_later : g.H.Words.later l.fn.hall l.hall;
  seen : SeenBefore (g.H.Hall.stands) l.hall l.reads (drop l.at l.reads);
}
