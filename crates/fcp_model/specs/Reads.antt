-- What a decision read, and maps over which it stays.
use Rattle.std.specs.Prelude.{◌≡◌, ℕ, List, [], ◌∷◌, Some, None}
use Rattle.fcp_model.specs.Places.{Variable, own}
use Rattle.fcp_model.specs.Terms.{Term, Bindings, find}
use Rattle.fcp_model.specs.Decisions.{Decision, commits, decides_fail, waits_on}

-- the variables that were read unbound for a decision, in order
abbrev pub reads_of : Decision → List Variable
reads_of (commits k bs rs) = rs
reads_of (decides_fail rs) = rs
reads_of (waits_on rs) = rs

-- none of the variables is bound
abbrev pub AreUnbound : Bindings → List Variable → Type 0
AreUnbound s [] = Unit {0}
AreUnbound s (v ∷ vs) = (find s v ≡ None) × AreUnbound s vs

-- what the first map binds, the second one binds to the same term
abbrev pub IsPart : Bindings → Bindings → Type 0
IsPart s s' = (v : Variable) (t : Term Variable) → find s v ≡ Some t → find s' v ≡ Some t

-- places alone are bound, and no variable of a clause that is tried
abbrev pub BindsPlaces : Bindings → Type 0
BindsPlaces s = (k : ℕ) → find s (own k) ≡ None
