use Rattle.std.proofs.Common.{◌≡◌, take}
use Rattle.fcp_model.specs.declared.fault.Code.TheVariants.{UnknownProcedure}
use Rattle.std.specs.List.{flat_map}
use Rattle.fcp_loader.specs.Faults.{faults_at, unknown_items}
use Rattle.fcp_loader.specs.Firsts.{first_of}
use Rattle.fcp_loader.proofs.calls.unknown_in_bodies.Given as goal

-- the first of the clauses so far
abbrev pub invariant-loop-clause : goal.invariant-loop-clause
invariant-loop-clause l = l.first ≡ first_of
    (faults_at UnknownProcedure (unknown_items l.loaded (flat_map (λ c. c.body) (take l.clause-index l.clauses))))
