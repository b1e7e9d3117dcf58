use Rattle.std.proofs.Common.{◌≡◌, take}
use Rattle.heap_words.specs.Trails.{word_at, KeepsLoads}
use Rattle.suspension_lists.specs.Sleepers.{AreWaiting}
use Rattle.suspension_lists.proofs.waiting.Sleepers.gather.Given as goal

abbrev pub invariant-loop-place : goal.invariant-loop-place
invariant-loop-place g l = record {
  loaded : KeepsLoads g.W.Words.sound g.W.Words.had g.W.Words.leads g.W.Words.later g.W.Words.gave l.fn.trail.kept l.fn.trail.binds
      l.fn.words l.trail.kept l.trail.binds l.words;
  binds : l.trail.binds ≡ l.fn.trail.binds;
  reads : l.trail.reads.items ≡ l.fn.trail.reads.items;
  waiting : AreWaiting (word_at l.trail.kept) (take l.place-index l.places) l.self.list.items;
}
