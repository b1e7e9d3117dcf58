use Rattle.trial_bench.proofs.trials.decide_again.Given as goal

abbrev pub invariant-loop : goal.invariant-loop
invariant-loop g l = g.W.Words.later l.fn.words l.words
