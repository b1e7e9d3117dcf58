use Rattle.std.proofs.Common.{◌≡◌, []}
use Rattle.heap_words.specs.Trails.{KeepsLoads}
use Rattle.entry_lines.proofs.SoFar.{VariablesSoFar}
use Rattle.entry_lines.proofs.lines.push_variable_lines.Given as goal

abbrev pub invariant-loop-at : goal.invariant-loop-at
invariant-loop-at g l = record {
  loaded : KeepsLoads g.W.Words.sound g.W.Words.had g.W.Words.leads g.W.Words.later g.W.Words.gave [] [] l.fn.words l.trail.kept
      l.trail.binds l.words;
  binds : l.trail.binds ≡ [];
  text : VariablesSoFar l.trail.kept l.names l.variables l.at l.fn.out.items l.out.items;
}
