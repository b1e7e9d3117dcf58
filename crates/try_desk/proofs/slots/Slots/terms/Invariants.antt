use Rattle.std.proofs.Common.{◌≡◌, ◌++◌}
use Rattle.try_desk.specs.Held.{held, held_terms}
use Rattle.try_desk.proofs.slots.Slots.terms.Given as goal

abbrev pub invariant-loop-i : goal.invariant-loop-i
invariant-loop-i l = l.line.items ≡ l.initial.line.items ++ held_terms (held l.self) l.first l.i
