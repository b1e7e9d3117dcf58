use Rattle.std.proofs.Common.{◌≡◌, take}
use Rattle.fcp_model.specs.declared.fault.Code.TheVariants.{UnknownTest}
use Rattle.fcp_loader.specs.Faults.{faults_at, unknown_tests}
use Rattle.fcp_loader.specs.Firsts.{first_of}
use Rattle.fcp_loader.proofs.guards.unknown_test.Given as goal

-- the first of the clauses so far
abbrev pub invariant-loop-clause : goal.invariant-loop-clause
invariant-loop-clause l = l.first ≡ first_of (faults_at UnknownTest (unknown_tests (take l.clause-index l.clauses)))
