use Rattle.std.proofs.Common.{◌≡◌, take, map}
use Rattle.fcp_reader.proofs.sources.names_of.Given as goal

abbrev pub invariant-loop-variable : goal.invariant-loop-variable
invariant-loop-variable l = l.names ≡ map (λ x. x.name) (take l.variable-index l.variables)
