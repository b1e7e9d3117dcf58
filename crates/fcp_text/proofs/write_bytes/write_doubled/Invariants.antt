use Rattle.std.proofs.Common.{length, ◌≤◌}
use Rattle.fcp_model.specs.Spelling.{doubled}
use Rattle.fcp_text.proofs.Progress.{HasRest}
use Rattle.fcp_text.proofs.write_bytes.write_doubled.Given as goal

-- what is left to write is the rest of the bytes, with each quote twice
abbrev pub invariant-loop-at : goal.invariant-loop-at
invariant-loop-at g l =
    HasRest (g.K.Sink.written l.fn.sink) (g.K.Sink.written l.sink) l.fn.buffer l.buffer (g.K.Sink.faults l.fn.sink) (g.K.Sink.faults l.sink)
    (doubled l.bytes) (doubled l.rest) × (length l.rest ≤ length l.bytes)

abbrev pub decreases-loop-at : goal.decreases-loop-at
decreases-loop-at g l = length l.rest
