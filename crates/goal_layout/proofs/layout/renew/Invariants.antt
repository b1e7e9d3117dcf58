use Rattle.std.proofs.Common.{◌≡◌, ◌<◌, ℕ, slice_get, Some}
use Rattle.heap_words.specs.Heaps.{fresh_word}
use Rattle.goal_layout.proofs.layout.renew.Given as goal

abbrev pub invariant-loop-addr : goal.invariant-loop-addr
invariant-loop-addr l = (a : ℕ) → a < l.addr → slice_get l.words a ≡ Some (fresh_word a)
