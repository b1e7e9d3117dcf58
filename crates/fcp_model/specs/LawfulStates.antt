-- What holds of every state of a run.
use Rattle.std.specs.Prelude.{◌≡◌, ℕ, ◌≤◌, true, List, [], ◌∷◌, Some}
use Rattle.fcp_model.specs.declared.run.Place.{Place}
use Rattle.fcp_model.specs.Places.{Variable, made, own, is_listed, is_older_process, places_among}
use Rattle.fcp_model.specs.Terms.{Term, Bindings, find}
use Rattle.fcp_model.specs.Programs.{Goal, Program}
use Rattle.fcp_model.specs.Decisions.{waits_on, Decides}
use Rattle.fcp_model.specs.States.{Status, ready, waiting, finished, Process, State}
use Rattle.fcp_model.specs.ClosedPrograms.{Over, GoalOver}
use Rattle.fcp_model.specs.Ranks.{Ranked}

-- a fact of each process
abbrev pub Each : (Process → Type 0) → List Process → Type 0
Each P [] = Unit {0}
Each P (p ∷ ps) = P p × Each P ps

-- the names rise strictly
abbrev pub NamesRise : List Process → Type 0
NamesRise [] = Unit {0}
NamesRise (p ∷ ps) = Each (λ q. is_older_process p.name q.name ≡ true) ps × NamesRise ps

-- no name has an entry above n
abbrev pub NamesWithin : ℕ → List Process → Type 0
NamesWithin n ps = Each (λ p. p.name.entry ≤ n) ps

-- a state whose processes rise in name, where no name has an entry above the number of entries
pub record IsOrdered (s : State) : Type 0 where
  pub rise : NamesRise s.processes
  pub within : NamesWithin s.entries s.processes

-- no place has an entry above n
abbrev pub PlacesWithin : ℕ → List Place → Type 0
PlacesWithin n [] = Unit {0}
PlacesWithin n (p ∷ ps) = (p.entry ≤ n) × PlacesWithin n ps

-- the variable is one of the places, and none of a clause that is tried
abbrev pub IsPlaceIn : List Place → Variable → Type 0
IsPlaceIn ps (made p) = is_listed p ps ≡ true
IsPlaceIn ps (own k) = ⊥

-- the goal has the decision to wait on exactly these places
pub record WaitsOn (m : Program) (s : Bindings) (g : Goal Variable) (ps : List Place) : Type 0 where
  pub reads : List Variable
  pub decides : Decides m s g (waits_on reads)
  pub places : places_among reads ≡ ps

-- a process that waits has the decision to wait on what it waits for
abbrev pub StandsRight : Program → Bindings → Process → Status → Type 0
StandsRight m s p (waiting ps) = WaitsOn m s p.goal ps
StandsRight m s p ready = Unit {0}
StandsRight m s p finished = Unit {0}

-- No place and no process has an entry above the number of entries, and processes are in order of name. Each variable that
-- is bound, or that a bound term or a goal mentions, is a place of the state. Bindings have no cycle. Each process that
-- waits has in this state the decision to wait on exactly the places on which it waits, so no wake was lost.
pub record IsLawfulState (m : Program) (s : State) : Type 0 where
  pub ordered : IsOrdered s
  pub places : PlacesWithin s.entries s.places
  pub bound : (v : Variable) (t : Term Variable) → find s.bound v ≡ Some t → IsPlaceIn s.places v × Over (IsPlaceIn s.places) t
  pub goals : Each (λ p. GoalOver (IsPlaceIn s.places) p.goal) s.processes
  pub ranked : Ranked s.bound
  pub waits : Each (λ p. StandsRight m s.bound p p.status) s.processes
