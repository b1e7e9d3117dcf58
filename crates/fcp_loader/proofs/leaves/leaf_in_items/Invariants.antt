use Rattle.std.proofs.Common.{◌≡◌, take}
use Rattle.fcp_model.specs.declared.fault.Code.TheVariants.{BadExpression}
use Rattle.fcp_loader.specs.Faults.{faults_at}
use Rattle.fcp_loader.specs.Firsts.{first_of}
use Rattle.fcp_loader.specs.Leaves.{leaves_in}
use Rattle.fcp_loader.proofs.leaves.leaf_in_items.Given as goal

-- the first of the items so far
abbrev pub invariant-loop-item : goal.invariant-loop-item
invariant-loop-item l = l.first ≡ first_of (faults_at BadExpression (leaves_in (take l.item-index l.items)))
