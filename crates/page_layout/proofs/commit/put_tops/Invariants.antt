use Rattle.std.proofs.Common.{take}
use Rattle.page_layout.specs.Laying.{tops_of}
use Rattle.page_layout.specs.Writing.{Puts}
use Rattle.page_layout.proofs.commit.put_tops.Given as goal

-- the writes so far
abbrev pub invariant-loop-at : goal.invariant-loop-at
invariant-loop-at l = Puts l.fn.writes.items l.writes.items (λ n. tops_of (take l.at l.rooms))
