use Rattle.std.proofs.Common.{◌≡◌, ◌++◌, ◌+◌, ◌-◌, ◌≤◌}
use Rattle.heap_words.specs.Trails.{KeepsLoads, Says}
use Rattle.ro_unify.specs.Occurs.{stack, Each}
use Rattle.ro_unify.specs.Alike.{pairs_after, Both}
use Rattle.ro_unify.proofs.alike.push_pairs_after.Given as goal

abbrev pub invariant-loop-left : goal.invariant-loop-left
invariant-loop-left g l = record {
  loaded : KeepsLoads g.W.Words.sound g.W.Words.had g.W.Words.leads g.W.Words.later g.W.Words.gave l.fn.trail.kept l.fn.trail.binds
      l.fn.words l.trail.kept l.trail.binds l.words;
  binds : l.trail.binds ≡ l.fn.trail.binds;
  reads : l.trail.reads.items ≡ l.fn.trail.reads.items;
  left : l.left ≤ l.count;
  work : Says (g.W.Words.own l.words) l.trail.kept
      (λ m. stack l.work.items ≡ pairs_after m (l.at + l.left) (l.to + l.left) (l.count - l.left) ++ stack l.fn.work.items);
  leads : Each (Both (g.W.Words.leads l.fn.words)) (stack l.fn.work.items) → Each (Both (g.W.Words.leads l.words)) (stack l.work.items);
}

abbrev pub decreases-loop-left : goal.decreases-loop-left
decreases-loop-left g l = l.left
