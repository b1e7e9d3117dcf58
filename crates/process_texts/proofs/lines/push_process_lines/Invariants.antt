use Rattle.std.proofs.Common.{map}
use Rattle.fcp_model.specs.Translation.{program_of}
use Rattle.process_texts.proofs.ManyLines.{LinesSoFar}
use Rattle.process_texts.proofs.lines.push_process_lines.Given as goal

abbrev pub invariant-loop-at : goal.invariant-loop-at
invariant-loop-at g l = record {
  sound : g.W.Words.sound l.words;
  between : g.W.Words.later l.fn.words l.words;
  text : LinesSoFar l.names (program_of l.loaded) (g.W.Words.gave l.fn.words l.words) l.processes (map (λ v. v.items) l.waits) l.at
      l.fn.out.items l.out.items;
}
