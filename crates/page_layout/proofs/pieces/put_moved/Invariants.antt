use Rattle.std.proofs.Common.{map, take}
use Rattle.word_states.specs.Words.{row}
use Rattle.word_states.specs.Layouts.{moved}
use Rattle.page_layout.specs.Laying.{moved_to}
use Rattle.page_layout.specs.Writing.{Puts}
use Rattle.page_layout.proofs.pieces.put_moved.Given as goal

-- the words so far
abbrev pub invariant-loop-at : goal.invariant-loop-at
invariant-loop-at l = Puts l.fn.writes.items l.writes.items (λ n. row l.base (map (moved (moved_to l.table)) (take l.at l.words)))
