-- Words stand for one state at most, as far as words can tell.
use Rattle.std.specs.Prelude.{◌≡◌, ◌⊎◌, ℕ, Some, None}
use Rattle.fcp_model.specs.declared.run.Place.{Place}
use Rattle.fcp_model.specs.Places.{Variable, made, is_listed}
use Rattle.fcp_model.specs.Terms.{Term, Bindings, find}
use Rattle.fcp_model.specs.Programs.{Goal}
use Rattle.fcp_model.specs.States.{Status, ready, waiting, finished, Process, State}
use Rattle.word_states.specs.Words.{Words}
use Rattle.word_states.specs.Leading.{LeadsTo, GoalLeads}
use Rattle.word_states.specs.Standing.{Book, StandsFor, ProcessAt, PlaceAt}

-- both Ready, both finished, or waiting on the same places
abbrev pub StandAlike : Status → Status → Type 0
StandAlike ready ready = Unit {0}
StandAlike finished finished = Unit {0}
StandAlike (waiting ps) (waiting qs) = (j : Place) → is_listed j ps ≡ is_listed j qs
StandAlike _ _ = ⊥

-- a variable is unbound in both, or bound in both to terms that lead to one term
abbrev pub BoundAlike : Bindings → Bindings → Variable → Type 0
BoundAlike s t v = ((find s v ≡ None) × (find t v ≡ None))
    ⊎ ((a b c : Term Variable) × (find s v ≡ Some a) × (find t v ≡ Some b) × LeadsTo s a c × LeadsTo t b c)

-- two goals lead to one goal
abbrev pub GoalsAlike : Bindings → Bindings → Goal Variable → Goal Variable → Type 0
GoalsAlike s t g h = (k : Goal Variable) × GoalLeads s g k × GoalLeads t h k

-- Two states have the same places, and the same of them are bound; they have the same processes, which stand alike. Bound terms and goals
-- lead to the same ones, since words skip the steps of variables that are handed on. Their modes, their numbers of entries and the order
-- of places in waiting sets may differ.
pub record AreAlike (book : Book) (s t : State) : Type 0 where
  -- the places and their bindings
  pub places : s.places ≡ t.places
  pub bound : (j : Place) (a : ℕ) → PlaceAt book j a → BoundAlike s.bound t.bound (made j)
  -- the processes: names, goals, and how they stand
  pub names : (p : ℕ) (x y : Process) → ProcessAt book s p x → ProcessAt book t p y → x.name ≡ y.name
  pub goals : (p : ℕ) (x y : Process) → ProcessAt book s p x → ProcessAt book t p y → GoalsAlike s.bound t.bound x.goal y.goal
  pub statuses : (p : ℕ) (x y : Process) → ProcessAt book s p x → ProcessAt book t p y → StandAlike x.status y.status

-- two states for which the same words stand, with the same book, are alike
abbrev pub AStateIsOne : Type 0
AStateIsOne = (book : Book) (w : Words) (s t : State) → StandsFor book w s → StandsFor book w t → AreAlike book s t
