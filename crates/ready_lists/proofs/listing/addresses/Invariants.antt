use Rattle.std.proofs.Common.{◌≡◌, take, map}
use Rattle.ready_lists.specs.declared.listing.Found.{Found}
use Rattle.ready_lists.proofs.listing.addresses.Given as goal

abbrev pub invariant-loop-one : goal.invariant-loop-one
invariant-loop-one l = l.processes.items ≡ map (λ (f : Found). f.process) (take l.one-index l.found)
