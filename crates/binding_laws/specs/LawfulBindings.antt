-- What holds of the bindings of every state of a run.
use Rattle.std.specs.Prelude.{◌≡◌, Some}
use Rattle.fcp_model.specs.Places.{Variable}
use Rattle.fcp_model.specs.Terms.{Term, find}
use Rattle.fcp_model.specs.States.{State}
use Rattle.fcp_model.specs.ClosedPrograms.{Over}
use Rattle.fcp_model.specs.LawfulStates.{PlacesWithin, IsPlaceIn}
use Rattle.fcp_model.specs.Ranks.{Ranked}

-- No place has an entry above the number of entries. Each variable that is bound, or that a bound term mentions, is a place
-- of the state. The bindings have no cycle.
pub record IsLawfulBindings (s : State) : Type 0 where
  pub places : PlacesWithin s.entries s.places
  pub bound : (v : Variable) (t : Term Variable) → find s.bound v ≡ Some t → IsPlaceIn s.places v × Over (IsPlaceIn s.places) t
  pub ranked : Ranked s.bound
