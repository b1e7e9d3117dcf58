-- The places that bindings and a goal mention, in a list.
use Rattle.std.proofs.Common.{◌≡◌, Bool, true, false, cond, List, [], ◌∷◌, ◌++◌, Some, refl, ap, sym, subst}
use Rattle.std.specs.Prelude.{◌||◌}
use Rattle.fcp_model.specs.declared.run.Place.{Place}
use Rattle.fcp_model.specs.Places.{Variable, made, own, is_same}
use Rattle.fcp_model.specs.Terms.{Term, number, string, nil, cons, tuple, var, ro, first, Terms, none, more, Bindings, find}
use Rattle.fcp_model.specs.Expressions.{Expr, leaf, op}
use Rattle.fcp_model.specs.Programs.{Goal, user, true', unifies, assigns}
use Rattle.fcp_model.specs.ClosedPrograms.{Over, PartsOver, AllOver, ExprOver, GoalOver}
use Rattle.fcp_model.specs.LawfulStates.{IsPlaceIn}
use Rattle.fcp_model.proofs.Finding.{is_same-true, is_same_refl}
use Rattle.binding_laws.proofs.OverTerms.{Over-more, AllOver-more, ExprOver-more}
use Rattle.binding_laws.proofs.PlaceLists.{listed_right, place_left}
use Rattle.decision_laws.specs.PlaceBindings.{IsPlace, BindsOver}

pub place_right : (ps qs : List Place) (v : Variable) → IsPlaceIn qs v → IsPlaceIn (ps ++ qs) v
place_right ps qs (made p) h = listed_right p ps qs h
place_right ps qs (own k) h = h

abbrev place_of : Variable → List Place
place_of (made p) = p ∷ []
place_of (own k) = []

abbrev mutual
  places_of : Term Variable → List Place
  places_of (number z) = []
  places_of (string s) = []
  places_of nil = []
  places_of (cons a b) = places_of a ++ places_of b
  places_of (tuple ts) = part_places ts
  places_of (var v) = place_of v
  places_of (ro v) = place_of v
  places_of (first k) = []

  part_places : Terms Variable → List Place
  part_places none = []
  part_places (more t ts) = places_of t ++ part_places ts

abbrev all_places : List (Term Variable) → List Place
all_places [] = []
all_places (t ∷ ts) = places_of t ++ all_places ts

abbrev expr_places : Expr Variable → List Place
expr_places (leaf t) = places_of t
expr_places (op o a b) = expr_places a ++ expr_places b

-- the places that a goal mentions
abbrev pub goal_places : Goal Variable → List Place
goal_places (user p ts) = all_places ts
goal_places true' = []
goal_places (unifies t u) = places_of t ++ places_of u
goal_places (assigns t e) = places_of t ++ expr_places e

-- the places that are bound, and those of bound terms
abbrev pub bound_places : Bindings → List Place
bound_places [] = []
bound_places (b ∷ bs) = (place_of b.0 ++ places_of b.1) ++ bound_places bs

variable_in : (v : Variable) → IsPlace v → IsPlaceIn (place_of v) v
variable_in (made p) h = ap (λ c. c || false) (is_same_refl (made p))
variable_in (own k) h = h

-- over places of a list, and so over those of a longer one
left_over : (ps qs : List Place) (t : Term Variable) → Over (IsPlaceIn ps) t → Over (IsPlaceIn (ps ++ qs)) t
left_over ps qs t h = Over-more (IsPlaceIn ps) (IsPlaceIn (ps ++ qs)) (place_left ps qs) t h

right_over : (ps qs : List Place) (t : Term Variable) → Over (IsPlaceIn qs) t → Over (IsPlaceIn (ps ++ qs)) t
right_over ps qs t h = Over-more (IsPlaceIn qs) (IsPlaceIn (ps ++ qs)) (place_right ps qs) t h

mutual
  term_over : (t : Term Variable) → Over IsPlace t → Over (IsPlaceIn (places_of t)) t
  term_over (number z) h = tt
  term_over (string s) h = tt
  term_over nil h = tt
  term_over (cons a b) h = (
    left_over (places_of a) (places_of b) a (term_over a h.0),
    right_over (places_of a) (places_of b) b (term_over b h.1),
  )
  term_over (tuple ts) h = parts_over ts h
  term_over (var v) h = variable_in v h
  term_over (ro v) h = variable_in v h
  term_over (first k) h = absurd h

  parts_over : (ts : Terms Variable) → PartsOver IsPlace ts → PartsOver (IsPlaceIn (part_places ts)) ts
  parts_over none h = tt
  parts_over (more t ts) h = (
    left_over (places_of t) (part_places ts) t (term_over t h.0),
    right_over (places_of t) (part_places ts) (tuple ts) (parts_over ts h.1),
  )

all_over : (ts : List (Term Variable)) → AllOver IsPlace ts → AllOver (IsPlaceIn (all_places ts)) ts
all_over [] h = tt
all_over (t ∷ ts) h =
    let ps : List Place = places_of t in
    let qs : List Place = all_places ts in (
      left_over ps qs t (term_over t h.0),
      AllOver-more (IsPlaceIn qs) (IsPlaceIn (ps ++ qs)) (place_right ps qs) ts (all_over ts h.1),
    )

expr_over : (e : Expr Variable) → ExprOver IsPlace e → ExprOver (IsPlaceIn (expr_places e)) e
expr_over (leaf t) h = term_over t h
expr_over (op o a b) h =
    let ps : List Place = expr_places a in
    let qs : List Place = expr_places b in (
      ExprOver-more (IsPlaceIn ps) (IsPlaceIn (ps ++ qs)) (place_left ps qs) a (expr_over a h.0),
      ExprOver-more (IsPlaceIn qs) (IsPlaceIn (ps ++ qs)) (place_right ps qs) b (expr_over b h.1),
    )

-- a goal over places is over those that it mentions
pub goal_over : (g : Goal Variable) → GoalOver IsPlace g → GoalOver (IsPlaceIn (goal_places g)) g
goal_over (user p ts) h = all_over ts h
goal_over true' h = tt
goal_over (unifies t u) h = (
  left_over (places_of t) (places_of u) t (term_over t h.0),
  right_over (places_of t) (places_of u) u (term_over u h.1),
)
goal_over (assigns t e) h =
    let ps : List Place = places_of t in
    let qs : List Place = expr_places e in (
      left_over ps qs t (term_over t h.0),
      ExprOver-more (IsPlaceIn qs) (IsPlaceIn (ps ++ qs)) (place_right ps qs) e (expr_over e h.1),
    )

-- a variable and a term over places of a list
abbrev IsBoundIn : List Place → Variable → Term Variable → Type 0
IsBoundIn ps v t = IsPlaceIn ps v × Over (IsPlaceIn ps) t

-- a bound place, and those of its term, are among those of the bindings
bound_at : (s : Bindings) (v : Variable) (t : Term Variable) → find s v ≡ Some t → IsPlace v → Over IsPlace t
    → IsBoundIn (bound_places s) v t
bound_at [] v t e h i = cc
bound_at (b ∷ bs) v t e h i = go (is_same b.0 v) refl e (λ f. bound_at bs v t f h i)
  where
    here : List Place
    here = place_of b.0 ++ places_of b.1

    found_here : b.0 ≡ v → b.1 ≡ t → IsBoundIn (here ++ bound_places bs) v t
    found_here f k =
        let x : IsPlaceIn (place_of b.0) v = subst (λ w. IsPlaceIn (place_of w) v) (sym f) (variable_in v h) in
        let y : Over (IsPlaceIn (places_of b.1)) t = subst (λ u. Over (IsPlaceIn (places_of u)) t) (sym k) (term_over t i) in (
          place_left here (bound_places bs) v (place_left (place_of b.0) (places_of b.1) v x),
          left_over here (bound_places bs) t (right_over (place_of b.0) (places_of b.1) t y),
        )

    go : (c : Bool) → is_same b.0 v ≡ c → cond c (Some b.1) (find bs v) ≡ Some t → (find bs v ≡ Some t → IsBoundIn (bound_places bs) v t)
        → IsBoundIn (here ++ bound_places bs) v t
    go true f k rec = found_here (is_same-true b.0 v f) cc
    go false f k rec = let x = rec k in (place_right here (bound_places bs) v x.0, right_over here (bound_places bs) t x.1)

-- bindings over places are over those that they mention
pub binds_over : (s : Bindings) → BindsOver IsPlace s → BindsOver (IsPlaceIn (bound_places s)) s
binds_over s h v t e = let x = h v t e in bound_at s v t e x.0 x.1
