use Rattle.std.proofs.Common.{◌≡◌, take}
use Rattle.trial_laws.specs.Endings.{of_store}
use Rattle.trial_machine.proofs.trial.fill_binds.Given as goal

abbrev pub invariant-loop-bind : goal.invariant-loop-bind
invariant-loop-bind l = l.line.items ≡ of_store (take l.bind-index l.binds)
