use Rattle.std.proofs.Common.{◌≡◌, take}
use Rattle.word_states.specs.Words.{addresses_of}
use Rattle.move_plans.proofs.copies.put_addresses.Given as goal

abbrev pub invariant-loop-bind : goal.invariant-loop-bind
invariant-loop-bind l = l.list.items ≡ addresses_of (take l.bind-index l.binds)
