use Rattle.std.proofs.Common.{take}
use Rattle.word_states.specs.Planning.{moved_binds}
use Rattle.page_layout.specs.Laying.{moved_to}
use Rattle.page_layout.specs.Writing.{Puts}
use Rattle.page_layout.proofs.commit.put_binds.Given as goal

-- the writes so far
abbrev pub invariant-loop-at : goal.invariant-loop-at
invariant-loop-at l = Puts l.fn.writes.items l.writes.items (λ n. moved_binds (moved_to l.table) (take l.at l.binds))
