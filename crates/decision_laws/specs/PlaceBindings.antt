-- Bindings of places to terms over places.
use Rattle.std.specs.Prelude.{◌≡◌, Some}
use Rattle.fcp_model.specs.Places.{Variable, made, own}
use Rattle.fcp_model.specs.Terms.{Term, Bindings, find}
use Rattle.fcp_model.specs.ClosedPrograms.{Over}

-- a place, and no variable of a clause that is tried
abbrev pub IsPlace : Variable → Type 0
IsPlace (made p) = Unit {0}
IsPlace (own k) = ⊥

-- a bound variable has the property P, and so has each variable of its term, which has no mark of a first occurrence
abbrev pub BindsOver : (Variable → Type 0) → Bindings → Type 0
BindsOver P s = (v : Variable) (t : Term Variable) → find s v ≡ Some t → P v × Over P t
