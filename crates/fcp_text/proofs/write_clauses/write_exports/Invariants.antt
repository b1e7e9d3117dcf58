use Rattle.std.proofs.Common.{map, drop, codes}
use Rattle.fcp_text.specs.SourceTerms.{each_behind, parted}
use Rattle.fcp_text.specs.SourceClauses.{export_text}
use Rattle.fcp_text.proofs.Progress.{HasRest}
use Rattle.fcp_text.proofs.write_clauses.write_exports.Given as goal

-- what is left to write is the exports from here on, each behind its mark
abbrev pub invariant-loop-at : goal.invariant-loop-at
invariant-loop-at g l =
    HasRest (g.K.Sink.written l.fn.sink) (g.K.Sink.written l.sink) l.fn.buffer l.buffer (g.K.Sink.faults l.fn.sink) (g.K.Sink.faults l.sink)
    (parted (codes ",") (map (export_text l.names) (drop l.from l.exports)))
    (each_behind (codes ",") (map (export_text l.names) (drop l.at l.exports)))
