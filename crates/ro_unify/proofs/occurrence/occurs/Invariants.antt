use Rattle.std.proofs.Common.{◌≡◌, [], ◌∷◌}
use Rattle.heap_words.specs.Trails.{KeepsLoads, Says}
use Rattle.ro_unify.specs.Walks.{Tame, seen_memory, words_left}
use Rattle.ro_unify.specs.Value.{IsOpen}
use Rattle.ro_unify.proofs.Walkings.{Walking}
use Rattle.ro_unify.specs.Occurs.{stack, Each, Found, Occurs}
use Rattle.ro_unify.proofs.occurrence.occurs.Given as goal

abbrev pub invariant-walk : goal.invariant-walk
invariant-walk g l = record {
  loaded : KeepsLoads g.W.Words.sound g.W.Words.had g.W.Words.leads g.W.Words.later g.W.Words.gave l.fn.trail.kept l.fn.trail.binds
      l.fn.words l.trail.kept l.trail.binds l.words;
  binds : l.trail.binds ≡ l.fn.trail.binds;
  tame : Tame l.trail.binds l.trail.kept (g.W.Words.own l.words) (g.W.Words.addresses l.words);
  unbound : IsOpen l.trail.binds (seen_memory l.trail.kept (g.W.Words.own l.words)) l.place;
  walking : Walking l.trail.binds l.trail.kept (g.W.Words.own l.words) l.place l.word (stack l.work.items);
  leads : Each (g.W.Words.leads l.words) (stack l.work.items);
  comes : (f : Found) → Says (g.W.Words.own l.words) l.trail.kept
      (λ m. Occurs l.fn.trail.binds m l.place (stack l.work.items) l.trail.reads.items f
      → Occurs l.fn.trail.binds m l.place (l.word ∷ []) l.fn.trail.reads.items f);
}

abbrev pub decreases-walk : goal.decreases-walk
decreases-walk g l = words_left (g.W.Words.addresses l.words) l.trail.binds l.trail.kept (g.W.Words.own l.words) (stack l.work.items)
