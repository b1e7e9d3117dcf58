-- Places in order of age. Only the crate's private clauses cite this file.
use Rattle.std.specs.Prelude.{◌≡◌, true, List, [], ◌∷◌}
use Rattle.fcp_model.specs.declared.run.Place.{Place}
use Rattle.fcp_model.specs.Places.{is_older_place, is_listed}

-- each is older than those after it
abbrev pub AreByAge : List Place → Type 0
AreByAge [] = Unit {0}
AreByAge (p ∷ ps) = ((q : Place) → is_listed q ps ≡ true → is_older_place p q ≡ true) × AreByAge ps
