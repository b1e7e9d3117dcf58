-- The variables of a run, and which of two is the older.
use Rattle.std.specs.Prelude.{ℕ, Bool, true, false, ◌&&◌, ◌||◌, nat_eq, nat_lt, List, [], ◌∷◌}
use Rattle.fcp_model.specs.declared.run.Place.{Place}
use Rattle.fcp_model.specs.declared.run.Proc.{Proc}

-- `_n.k`: variable k of the clause by which entry n committed; with n = 0 it is one of the goal's
abbrev pub place : ℕ → ℕ → Place
place n k = record { entry = n; number = k }

-- `#n.k`, the k-th process that entry n made, or the goal's k-th item where n is 0
abbrev pub proc : ℕ → ℕ → Proc
proc n k = record { entry = n; number = k }

-- the same entry and the same number
abbrev pub is_same_place : Place → Place → Bool
is_same_place p q = nat_eq p.entry q.entry && nat_eq p.number q.number

-- p is the older one: the earlier entry, then the smaller number
abbrev pub is_older_place : Place → Place → Bool
is_older_place p q = nat_lt p.entry q.entry || (nat_eq p.entry q.entry && nat_lt p.number q.number)

-- the same entry and the same number
abbrev pub is_same_process : Proc → Proc → Bool
is_same_process p q = nat_eq p.entry q.entry && nat_eq p.number q.number

-- p is the older one: the earlier entry, then the smaller number
abbrev pub is_older_process : Proc → Proc → Bool
is_older_process p q = nat_lt p.entry q.entry || (nat_eq p.entry q.entry && nat_lt p.number q.number)

-- a variable during a try: a place of the state, or the tried clause's variable k, which has no place yet
pub data Variable : Type 0 where
  made : Place → Variable
  own : ℕ → Variable

-- the place `_n.k` as a variable
abbrev pub placed : ℕ → ℕ → Variable
placed n k = made (place n k)

-- the same place, or the same variable of the clause
abbrev pub is_same : Variable → Variable → Bool
is_same (made p) (made q) = is_same_place p q
is_same (own k) (own l) = nat_eq k l
is_same (made p) (own l) = false
is_same (own k) (made q) = false

-- p is the older one: a clause's variables are younger than all places, and among them the higher number is the younger
abbrev pub is_older : Variable → Variable → Bool
is_older (made p) (made q) = is_older_place p q
is_older (made p) (own l) = true
is_older (own k) (made q) = false
is_older (own k) (own l) = nat_lt k l

-- whether a place is one of a list
abbrev pub is_listed : Place → List Place → Bool
is_listed p [] = false
is_listed p (q ∷ qs) = is_same_place q p || is_listed p qs

-- a place put among places in order of age, where it is not there yet
abbrev pub inserted : Place → List Place → List Place
inserted p [] = p ∷ []
inserted p (q ∷ qs) = elim (is_same_place p q) [ true ↦ q ∷ qs | _ ↦ elim (is_older_place p q) [ true ↦ p ∷ q ∷ qs | _ ↦ q ∷ inserted p qs ] ]

-- the places among some variables, by name, each once
abbrev pub places_among : List Variable → List Place
places_among [] = []
places_among (made p ∷ vs) = inserted p (places_among vs)
places_among (own k ∷ vs) = places_among vs
