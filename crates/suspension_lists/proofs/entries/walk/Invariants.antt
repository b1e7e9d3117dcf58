use Rattle.std.proofs.Common.{◌≡◌}
use Rattle.heap_words.specs.Trails.{word_at, KeepsLoads}
use Rattle.suspension_lists.specs.declared.entries.Entry.{Entry}
use Rattle.suspension_lists.specs.Entries.{LeadsTo, MayLead, Path, IsOneOf}
use Rattle.suspension_lists.proofs.Walking.{lacks}
use Rattle.suspension_lists.proofs.entries.walk.Given as goal

abbrev pub invariant-list : goal.invariant-list
invariant-list g l = record {
  loaded : KeepsLoads g.W.Words.sound g.W.Words.had g.W.Words.leads g.W.Words.later g.W.Words.gave l.fn.trail.kept l.fn.trail.binds
      l.fn.words l.trail.kept l.trail.binds l.words;
  binds : l.trail.binds ≡ l.fn.trail.binds;
  reads : l.trail.reads.items ≡ l.fn.trail.reads.items;
  leads : MayLead (g.W.Words.leads l.words) l.at;
  path : Path (word_at l.trail.kept) l.first l.entries.items l.at;
  known : (a : Entry) → IsOneOf a l.entries.items → LeadsTo (g.W.Words.leads l.words) a.at;
}

abbrev pub decreases-list : goal.decreases-list
decreases-list g l = lacks l.entries.items (g.W.Words.addresses l.words)
