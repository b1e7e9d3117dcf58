use Rattle.std.proofs.Common.{subst, List, ℕ}
use Rattle.word_states.specs.Words.{AreDistinct}
use Rattle.trial_machine.proofs.Noting.{keys_apart}
use Rattle.trial_machine.proofs.places.Places.as_slice.Goals as goal

pub returns-clause-distinct : goal.returns-clause-distinct
returns-clause-distinct c = subst (λ (z : List ℕ). AreDistinct z) c.self.view_is (keys_apart _ c.as_slice.ensures.unique)
