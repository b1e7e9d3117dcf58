use Rattle.std.proofs.Common.{◌≡◌}
use Rattle.heap_words.specs.Trails.{KeepsLoads}
use Rattle.entry_lines.proofs.SoFar.{ProcessesSoFar}
use Rattle.entry_lines.proofs.commits.push_process_names.Given as goal

abbrev pub invariant-loop-process : goal.invariant-loop-process
invariant-loop-process g l = record {
  loaded : KeepsLoads g.W.Words.sound g.W.Words.had g.W.Words.leads g.W.Words.later g.W.Words.gave l.fn.trail.kept l.fn.trail.binds
      l.fn.words l.trail.kept l.trail.binds l.words;
  binds : l.trail.binds ≡ l.fn.trail.binds;
  text : ProcessesSoFar l.trail.kept l.processes l.process-index l.fn.out.items l.out.items;
}
