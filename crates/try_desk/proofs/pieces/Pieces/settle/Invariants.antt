use Rattle.std.proofs.Common.{◌≡◌, take}
use Rattle.trial_laws.specs.Endings.{settled}
use Rattle.try_desk.proofs.pieces.Pieces.settle.Given as goal

abbrev pub invariant-loop-bind : goal.invariant-loop-bind
invariant-loop-bind l = l.self ≡ settled (take l.bind-index l.binds) 4000000000 l.fn.self
