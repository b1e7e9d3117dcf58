use Rattle.std.proofs.Common.{◌≡◌, ◌++◌, ◌+◌, ◌-◌, ◌≤◌, ◌<◌, ℕ}
use Rattle.heap_words.specs.Trails.{KeepsLoads, Says}
use Rattle.ro_unify.specs.Walks.{IsSeen}
use Rattle.ro_unify.specs.Occurs.{stack, words_after, Each}
use Rattle.ro_unify.proofs.occurrence.push_after.Given as goal

abbrev pub invariant-loop-left : goal.invariant-loop-left
invariant-loop-left g l = record {
  loaded : KeepsLoads g.W.Words.sound g.W.Words.had g.W.Words.leads g.W.Words.later g.W.Words.gave l.fn.trail.kept l.fn.trail.binds
      l.fn.words l.trail.kept l.trail.binds l.words;
  binds : l.trail.binds ≡ l.fn.trail.binds;
  reads : l.trail.reads.items ≡ l.fn.trail.reads.items;
  seen : (b : ℕ) → l.at + l.left < b → b ≤ l.at + l.count → IsSeen l.trail.kept (g.W.Words.own l.words) b;
  left : l.left ≤ l.count;
  work : Says (g.W.Words.own l.words) l.trail.kept
      (λ m. stack l.work.items ≡ words_after m (l.at + l.left) (l.count - l.left) ++ stack l.fn.work.items);
  leads : Each (g.W.Words.leads l.fn.words) (stack l.fn.work.items) → Each (g.W.Words.leads l.words) (stack l.work.items);
}

abbrev pub decreases-loop-left : goal.decreases-loop-left
decreases-loop-left g l = l.left
