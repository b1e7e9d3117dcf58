use Rattle.trial_rows.specs.Turns.{picture}
use Rattle.trial_rows.specs.declared.turning.Turning.{Turning}
use Rattle.trial_rows.proofs.TurnStores.{turn_stored}
use Rattle.trial_rows.proofs.turning.decide_turning.Goals as goal

pub trial-requires-clause-stored : goal.trial-requires-clause-stored
trial-requires-clause-stored c =
    turn_stored (λ (t : Turning). picture t.words.items t.place t.bound) c.in_ok-words.words c.in_ok-words.ensures.sound
