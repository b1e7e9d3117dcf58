use Rattle.std.proofs.Common.{◌≡◌, ◌-◌, ◌+◌, ℕ, Some, length}
use Rattle.std.specs.Prelude.{slice_get}
use Rattle.heap_words.proofs.word_table.note_in.Given as goal

abbrev pub invariant-loop-noted : goal.invariant-loop-noted
invariant-loop-noted l = (a i : ℕ) → slice_get l.initial.noted.items a ≡ Some i → slice_get l.noted.items a ≡ Some i

abbrev pub decreases-loop-noted : goal.decreases-loop-noted
decreases-loop-noted l = l.index + 1 - length l.noted.items
