use Rattle.std.proofs.Common.{◌≡◌}
use Rattle.heap_words.specs.Trails.{KeepsLoads}
use Rattle.entry_lines.proofs.SoFar.{BoundSoFar}
use Rattle.entry_lines.proofs.commits.push_all_bound.Given as goal

abbrev pub invariant-loop-place : goal.invariant-loop-place
invariant-loop-place g l = record {
  loaded : KeepsLoads g.W.Words.sound g.W.Words.had g.W.Words.leads g.W.Words.later g.W.Words.gave l.fn.trail.kept l.fn.trail.binds
      l.fn.words l.trail.kept l.trail.binds l.words;
  binds : l.trail.binds ≡ l.fn.trail.binds;
  text : BoundSoFar l.trail.kept l.names l.places l.place-index l.fn.out.items l.out.items;
}
