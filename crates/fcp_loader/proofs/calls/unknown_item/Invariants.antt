use Rattle.std.proofs.Common.{◌≡◌, take}
use Rattle.fcp_model.specs.declared.fault.Code.TheVariants.{UnknownProcedure}
use Rattle.fcp_loader.specs.Faults.{faults_at, unknown_items}
use Rattle.fcp_loader.specs.Firsts.{first_of}
use Rattle.fcp_loader.proofs.calls.unknown_item.Given as goal

-- the first of the items so far
abbrev pub invariant-loop-item : goal.invariant-loop-item
invariant-loop-item l = l.first ≡ first_of (faults_at UnknownProcedure (unknown_items l.loaded (take l.item-index l.items)))
