use Rattle.std.proofs.Common.{◌≡◌, take}
use Rattle.heap_words.specs.Trails.{word_at, KeepsLoads}
use Rattle.suspension_lists.specs.Sleepers.{Adds}
use Rattle.suspension_lists.proofs.sleepers.put_sleepers.Given as goal

abbrev pub invariant-loop-entry : goal.invariant-loop-entry
invariant-loop-entry g l = record {
  loaded : KeepsLoads g.W.Words.sound g.W.Words.had g.W.Words.leads g.W.Words.later g.W.Words.gave l.fn.trail.kept l.fn.trail.binds
      l.fn.words l.trail.kept l.trail.binds l.words;
  binds : l.trail.binds ≡ l.fn.trail.binds;
  reads : l.trail.reads.items ≡ l.fn.trail.reads.items;
  adds : Adds (word_at l.trail.kept) (take l.entry-index l.entries) l.fn.sleepers.items l.sleepers.items;
}
