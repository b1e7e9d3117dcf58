use Rattle.std.proofs.Common.{◌≡◌, ℕ, List}
use Rattle.heap_words.specs.Trails.{KeepsLoads, Says}
use Rattle.ro_unify.specs.Walks.{Tame, pairs_left}
use Rattle.ro_unify.specs.Occurs.{stack, Each}
use Rattle.ro_unify.specs.Alike.{Both}
use Rattle.guard_tests.specs.declared.equality.Tested.{Tested}
use Rattle.guard_tests.specs.Equality.{Equals}
use Rattle.guard_tests.proofs.equality.compare_all.Given as goal

abbrev pub invariant-pairs : goal.invariant-pairs
invariant-pairs g l = record {
  loaded : KeepsLoads g.W.Words.sound g.W.Words.had g.W.Words.leads g.W.Words.later g.W.Words.gave l.fn.trail.kept l.fn.trail.binds
      l.fn.words l.trail.kept l.trail.binds l.words;
  binds : l.trail.binds ≡ l.fn.trail.binds;
  tame : Tame l.trail.binds l.trail.kept (g.W.Words.own l.words) (g.W.Words.addresses l.words);
  leads : Each (Both (g.W.Words.leads l.words)) (stack l.work.items);
  comes : (t : Tested) (rs : List ℕ) → Says (g.W.Words.own l.words) l.trail.kept
      (λ m. Equals l.fn.trail.binds m l.trail.reads.items (stack l.work.items) t rs
      → Equals l.fn.trail.binds m l.fn.trail.reads.items (stack l.fn.work.items) t rs);
}

abbrev pub decreases-pairs : goal.decreases-pairs
decreases-pairs g l = pairs_left (g.W.Words.addresses l.words) l.trail.binds l.trail.kept (g.W.Words.own l.words) (stack l.work.items)
