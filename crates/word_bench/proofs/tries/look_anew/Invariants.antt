use Rattle.word_bench.proofs.tries.look_anew.Given as goal

abbrev pub invariant-loop : goal.invariant-loop
invariant-loop g l = g.W.Words.later l.fn.words l.words
