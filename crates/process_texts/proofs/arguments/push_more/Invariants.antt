use Rattle.std.proofs.Common.{◌≡◌}
use Rattle.heap_words.specs.Trails.{KeepsLoads}
use Rattle.process_texts.proofs.ArgumentTexts.{MoreSoFar}
use Rattle.process_texts.proofs.arguments.push_more.Given as goal

abbrev pub invariant-loop-at : goal.invariant-loop-at
invariant-loop-at g l = record {
  loaded : KeepsLoads g.W.Words.sound g.W.Words.had g.W.Words.leads g.W.Words.later g.W.Words.gave l.fn.trail.kept l.fn.trail.binds
      l.fn.words l.trail.kept l.trail.binds l.words;
  binds : l.trail.binds ≡ l.fn.trail.binds;
  text : MoreSoFar l.trail.kept l.names l.first l.count l.at l.fn.out.items l.out.items;
}
