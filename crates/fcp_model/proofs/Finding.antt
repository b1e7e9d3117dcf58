-- What is bound in one list of bindings after another, and when two variables are the same.
use Rattle.std.proofs.Common.{◌≡◌, Bool, true, false, cond, [], ◌∷◌, ◌++◌, Option, Some, None, refl, ap}
use Rattle.std.proofs.lemmas.Bool.{eqb-true, eq-eqb, and_parts, and_from}
use Rattle.fcp_model.specs.declared.run.Place.{Place}
use Rattle.fcp_model.specs.Places.{Variable, made, own, is_same_place, is_same}
use Rattle.fcp_model.specs.Terms.{Term, Bindings, find}

pub is_same_place-true : (p q : Place) → is_same_place p q ≡ true → p ≡ q
is_same_place-true p q e =
    let h = and_parts _ _ e in
    let n : p.entry ≡ q.entry = eqb-true _ _ h.0 in
    let k : p.number ≡ q.number = eqb-true _ _ h.1 in
    λ i. record { entry = n i; number = k i }

pub is_same-true : (p q : Variable) → is_same p q ≡ true → p ≡ q
is_same-true (made p) (made q) e = ap made (is_same_place-true p q e)
is_same-true (own k) (own l) e = ap own (eqb-true k l e)
is_same-true (made p) (own l) e = cc
is_same-true (own k) (made q) e = cc

pub is_same_refl : (p : Variable) → is_same p p ≡ true
is_same_refl (made p) = and_from _ _ (eq-eqb p.entry _ refl) (eq-eqb p.number _ refl)
is_same_refl (own k) = eq-eqb k _ refl

abbrev pub found_or : Option (Term Variable) → Option (Term Variable) → Option (Term Variable)
found_or None o = o
found_or (Some t) o = Some t

pub find-append : (s bs : Bindings) (q : Variable) → find (s ++ bs) q ≡ found_or (find s q) (find bs q)
find-append [] bs q = refl
find-append (b ∷ s) bs q = go (is_same b.0 q) (find-append s bs q)
  where
    go : (c : Bool) → find (s ++ bs) q ≡ found_or (find s q) (find bs q) → cond c (Some b.1) (find (s ++ bs) q) ≡ found_or (cond c (Some b.1) (find s q)) (find bs q)
    go true e = refl
    go false e = e
