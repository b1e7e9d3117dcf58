use Rattle.heap_words.specs.Trails.{Holds}
use Rattle.word_bench.proofs.tries.look_all.Given as goal

abbrev pub invariant-loop-k : goal.invariant-loop-k
invariant-loop-k g l = record {
  between : g.W.Words.later l.fn.words l.words;
  holds : Holds g.W.Words.had g.W.Words.leads l.trail.kept l.trail.binds l.words;
}
