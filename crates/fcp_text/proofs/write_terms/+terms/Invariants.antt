use Rattle.std.proofs.Common.{◌≤◌, map, drop, codes}
use Rattle.fcp_model.specs.declared.term.Term.{size-Term}
use Rattle.fcp_text.specs.SourceTerms.{term_text, rest_text, terms_text, each_behind}
use Rattle.fcp_text.proofs.Progress.{HasRest}
use Rattle.fcp_text.proofs.write_terms.+terms.Given as goal

-- what is left to write is the parts from here on, each behind a comma
abbrev pub invariant-write_parts-loop-at : goal.invariant-write_parts-loop-at
invariant-write_parts-loop-at g l =
    HasRest (g.K.Sink.written l.fn.sink) (g.K.Sink.written l.sink) l.fn.buffer l.buffer (g.K.Sink.faults l.fn.sink) (g.K.Sink.faults l.sink)
    (terms_text l.names (drop l.from l.parts)) (each_behind (codes ",") (map (term_text l.names) (drop l.at l.parts)))

-- what is left to write is the text of the list's rest, which is no deeper than the list
abbrev pub invariant-write_rest-loop-rest : goal.invariant-write_rest-loop-rest
invariant-write_rest-loop-rest g l =
    HasRest (g.K.Sink.written l.fn.sink) (g.K.Sink.written l.sink) l.fn.buffer l.buffer (g.K.Sink.faults l.fn.sink) (g.K.Sink.faults l.sink)
    (rest_text l.names l.list) (rest_text l.names l.rest) × (size-Term l.rest ≤ size-Term l.list)
