use Rattle.safe_tries.specs.Loads.{AreTermWords}
use Rattle.try_desk.specs.Held.{held, held_terms}
use Rattle.trial_machine.proofs.open_tuple.hold_terms.Given as goal

abbrev pub invariant-loop-i : goal.invariant-loop-i
invariant-loop-i l = AreTermWords (held_terms (held l.slots) l.first l.i)
