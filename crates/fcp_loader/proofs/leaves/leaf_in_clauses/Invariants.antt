use Rattle.std.proofs.Common.{◌≡◌, take}
use Rattle.fcp_model.specs.declared.fault.Code.TheVariants.{BadExpression}
use Rattle.fcp_loader.specs.Faults.{faults_at, leaves_of_clauses}
use Rattle.fcp_loader.specs.Firsts.{first_of}
use Rattle.fcp_loader.proofs.leaves.leaf_in_clauses.Given as goal

-- the first of the clauses so far
abbrev pub invariant-loop-clause : goal.invariant-loop-clause
invariant-loop-clause l = l.first ≡ first_of (faults_at BadExpression (leaves_of_clauses (take l.clause-index l.clauses)))
