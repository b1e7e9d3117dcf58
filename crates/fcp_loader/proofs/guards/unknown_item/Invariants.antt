use Rattle.std.proofs.Common.{◌≡◌, take}
use Rattle.fcp_model.specs.declared.fault.Code.TheVariants.{UnknownTest}
use Rattle.std.specs.Prelude.{not}
use Rattle.fcp_loader.specs.Faults.{faults_at, places_where}
use Rattle.fcp_loader.specs.TestItems.{is_test}
use Rattle.fcp_loader.specs.Firsts.{first_of}
use Rattle.fcp_loader.proofs.guards.unknown_item.Given as goal

-- the first of the items so far
abbrev pub invariant-loop-item : goal.invariant-loop-item
invariant-loop-item l = l.first ≡ first_of (faults_at UnknownTest (places_where (λ i. not (is_test i.call)) (take l.item-index l.items)))
