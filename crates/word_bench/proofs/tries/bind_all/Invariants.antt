use Rattle.std.proofs.Common.{◌≡◌, ℕ, ◌+◌, ◌≤◌, None}
use Rattle.heap_words.specs.Trails.{word_at}
use Rattle.word_bench.proofs.tries.bind_all.Given as goal

abbrev pub invariant-loop-k : goal.invariant-loop-k
invariant-loop-k l = (a : ℕ) → l.first + l.k ≤ a → word_at l.trail.binds a ≡ None
