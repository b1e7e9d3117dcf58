use Rattle.heap_words.specs.Trails.{KeepsLoads, Says}
use Rattle.ro_unify.specs.Walks.{Tame, pairs_left}
use Rattle.ro_unify.specs.Occurs.{stack, Each}
use Rattle.ro_unify.specs.Alike.{Both}
use Rattle.ro_unify.specs.Unify.{Unifies, Ended}
use Rattle.ro_unify.proofs.unification.unify_all.Given as goal

abbrev pub invariant-pairs : goal.invariant-pairs
invariant-pairs g l = record {
  loaded : KeepsLoads g.W.Words.sound g.W.Words.had g.W.Words.leads g.W.Words.later g.W.Words.gave l.fn.trail.kept l.fn.trail.binds
      l.fn.words l.trail.kept l.trail.binds l.words;
  tame : Tame l.trail.binds l.trail.kept (g.W.Words.own l.words) (g.W.Words.addresses l.words);
  leads : Each (Both (g.W.Words.leads l.words)) (stack l.work.items);
  comes : (e : Ended) → Says (g.W.Words.own l.words) l.trail.kept (λ m. Unifies m l.trail.binds l.trail.reads.items (stack l.work.items) e
      → Unifies m l.fn.trail.binds l.fn.trail.reads.items (stack l.fn.work.items) e);
}

abbrev pub decreases-pairs : goal.decreases-pairs
decreases-pairs g l = pairs_left (g.W.Words.addresses l.words) l.trail.binds l.trail.kept (g.W.Words.own l.words) (stack l.work.items)
