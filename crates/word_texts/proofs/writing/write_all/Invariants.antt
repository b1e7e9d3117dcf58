use Rattle.std.proofs.Common.{◌≡◌, List, ℕ}
use Rattle.heap_words.specs.Trails.{KeepsLoads, Says}
use Rattle.ro_unify.specs.Walks.{Tame}
use Rattle.ro_unify.specs.Occurs.{stack, Each}
use Rattle.word_texts.specs.declared.items.Item.{Item}
use Rattle.word_texts.specs.Turns.{Leads, Writes, Appends}
use Rattle.word_texts.proofs.Falling.{work}
use Rattle.word_texts.proofs.writing.write_all.Given as goal

abbrev pub invariant-items : goal.invariant-items
invariant-items g l = record {
  loaded : KeepsLoads g.W.Words.sound g.W.Words.had g.W.Words.leads g.W.Words.later g.W.Words.gave l.fn.trail.kept l.fn.trail.binds
      l.fn.words l.trail.kept l.trail.binds l.words;
  binds : l.trail.binds ≡ l.fn.trail.binds;
  reads : l.trail.reads.items ≡ l.fn.trail.reads.items;
  tame : Tame l.trail.binds l.trail.kept (g.W.Words.own l.words) (g.W.Words.addresses l.words);
  leads : Each (Leads (g.W.Words.knows l.words) (g.W.Words.leads l.words)) (stack l.lists.items.items);
  appended : Appends l.fn.out.items l.out.items;
  comes : (k : ℕ) (is : List Item) (new : List ℕ) → Says (g.W.Words.own l.words) l.trail.kept
      (λ m. Writes l.fn.trail.binds m l.fn.names l.left (stack l.lists.items.items) l.out.items k is new
      → Writes l.fn.trail.binds m l.fn.names l.nodes (stack l.fn.lists.items.items) l.fn.out.items k is new);
}

abbrev pub decreases-items : goal.decreases-items
decreases-items g l = work l.left (stack l.lists.items.items)
