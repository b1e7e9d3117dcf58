use Rattle.std.proofs.Common.{drop}
use Rattle.fcp_text.specs.SourceClauses.{clauses_text}
use Rattle.fcp_text.proofs.Progress.{HasRest}
use Rattle.fcp_text.proofs.write_clauses.write_clauses.Given as goal

-- what is left to write is the clauses from here on
abbrev pub invariant-loop-clause : goal.invariant-loop-clause
invariant-loop-clause g l =
    HasRest (g.K.Sink.written l.fn.sink) (g.K.Sink.written l.sink) l.fn.buffer l.buffer (g.K.Sink.faults l.fn.sink) (g.K.Sink.faults l.sink)
    (clauses_text l.names l.clauses) (clauses_text l.names (drop l.clause-index l.clauses))
