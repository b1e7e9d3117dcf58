use Rattle.std.proofs.Common.{◌≡◌, take}
use Rattle.fcp_model.specs.declared.fault.Code.TheVariants.{NotExported}
use Rattle.fcp_loader.specs.Faults.{faults_at, places_where, is_hidden}
use Rattle.fcp_loader.specs.Firsts.{first_of}
use Rattle.fcp_loader.proofs.calls.hidden_item.Given as goal

-- the first of the items so far
abbrev pub invariant-loop-item : goal.invariant-loop-item
invariant-loop-item l = l.first ≡ first_of
    (faults_at NotExported (places_where (λ i. is_hidden l.loaded i.call) (take l.item-index l.items)))
