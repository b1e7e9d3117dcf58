use Rattle.std.proofs.Common.{◌≡◌, ℕ, ◌+◌, ◌<◌, true}
use Rattle.heap_words.specs.Heaps as heaps
use Rattle.word_bench.proofs.laid.are_inside.Given as goal

abbrev pub invariant-loop-k : goal.invariant-loop-k
invariant-loop-k l = (j : ℕ) → j < l.k → heaps.is_inside l.words (l.first + j) ≡ true
