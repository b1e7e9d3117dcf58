use Rattle.std.proofs.Common.{take}
use Rattle.word_states.specs.Planning.{ready_words}
use Rattle.page_layout.specs.Writing.{Puts}
use Rattle.page_layout.proofs.commit.put_ready.Given as goal

-- the writes so far
abbrev pub invariant-loop-at : goal.invariant-loop-at
invariant-loop-at l = Puts l.fn.writes.items l.writes.items (λ n. ready_words (take l.at l.wakes))
