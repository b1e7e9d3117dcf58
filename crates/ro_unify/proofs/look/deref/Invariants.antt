use Rattle.std.proofs.Common.{◌≡◌, false, [], ◌∷◌}
use Rattle.heap_words.specs.Trails.{KeepsLoads, Says}
use Rattle.ro_unify.specs.Walks.{Tame, words_left}
use Rattle.ro_unify.specs.Value.{Values}
use Rattle.ro_unify.specs.declared.look.Look.{Look}
use Rattle.ro_unify.proofs.look.deref.Given as goal

abbrev pub invariant-chain : goal.invariant-chain
invariant-chain g l = record {
  loaded : KeepsLoads g.W.Words.sound g.W.Words.had g.W.Words.leads g.W.Words.later g.W.Words.gave l.fn.trail.kept l.fn.trail.binds
      l.fn.words l.trail.kept l.trail.binds l.words;
  binds : l.trail.binds ≡ l.fn.trail.binds;
  reads : l.trail.reads.items ≡ l.fn.trail.reads.items;
  tame : Tame l.trail.binds l.trail.kept (g.W.Words.own l.words) (g.W.Words.addresses l.words);
  leads : g.W.Words.leads l.words l.at;
  value : (v : Look) → Says (g.W.Words.own l.words) l.trail.kept (λ m. Values l.fn.trail.binds m l.only l.at v
      → Values l.fn.trail.binds m false l.word v);
}

abbrev pub decreases-chain : goal.decreases-chain
decreases-chain g l = words_left (g.W.Words.addresses l.words) l.trail.binds l.trail.kept (g.W.Words.own l.words) (l.at ∷ [])
