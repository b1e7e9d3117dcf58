use Rattle.trial_machine.proofs.BoundTerms.{AreTerms}
use Rattle.trial_machine.proofs.decide.are_terms.Given as goal

abbrev pub invariant-loop-bind : goal.invariant-loop-bind
invariant-loop-bind l = AreTerms l.binds l.bind-index
