use Rattle.std.proofs.Common.{◌-◌, ◌≤◌, length}
use Rattle.std.specs.Io.KnownBytes.{Consumes}
use Rattle.logix_edge.proofs.streams.read_up_to.Given as goal

-- what was read is what the reader has lost, and within the limit
abbrev pub invariant-loop-count : goal.invariant-loop-count
invariant-loop-count g l = Consumes (g.R.Read.remaining l.fn.from) (g.R.Read.remaining l.from)
    l.bytes.items × (length l.bytes.items ≤ l.limit)

abbrev pub decreases-loop-count : goal.decreases-loop-count
decreases-loop-count g l = l.limit - length l.bytes.items
