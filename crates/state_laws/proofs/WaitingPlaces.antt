-- The places on which a process waits: each place that was read is one, and none of them is bound where it is not woken.
use Rattle.std.proofs.Common.{◌≡◌, Bool, true, false, List, [], ◌∷◌, Option, Some, None, refl, ap, subst}
use Rattle.std.specs.Prelude.{◌||◌, is_some}
use Rattle.fcp_model.specs.declared.run.Place.{Place}
use Rattle.fcp_model.specs.Places.{is_same_place, is_older_place, Variable, made, own, is_listed, inserted, places_among}
use Rattle.fcp_model.specs.Terms.{Term, Bindings, find}
use Rattle.fcp_model.specs.Events.{binds_one}
use Rattle.fcp_model.proofs.Finding.{is_same_place-true, is_same_refl}
use Rattle.state_laws.proofs.ReadVariables.{Every, every_so}

-- listed at the head, or behind it
listed_on : (b c : Bool) → c ≡ true → (b || c) ≡ true
listed_on true c h = refl
listed_on false c h = h

listed_head : (p : Place) (ps : List Place) → is_listed p (p ∷ ps) ≡ true
listed_head p ps = ap (λ b. b || is_listed p ps) (is_same_refl (made p))

-- the places among some variables
abbrev insert_on : Place → Place → List Place → Bool → Bool → List Place
insert_on p q qs b c = elim b [ true ↦ q ∷ qs | _ ↦ elim c [ true ↦ p ∷ q ∷ qs | _ ↦ q ∷ inserted p qs ] ]

listed_inserted : (p : Place) (qs : List Place) → is_listed p (inserted p qs) ≡ true
listed_inserted p [] = listed_head p []
listed_inserted p (q ∷ qs) = go (is_same_place p q) (is_older_place p q) refl (listed_inserted p qs)
  where
    go : (b c : Bool) → is_same_place p q ≡ b → is_listed p (inserted p qs) ≡ true → is_listed p (insert_on p q qs b c) ≡ true
    go true c e rec = subst (λ x. is_listed p (x ∷ qs) ≡ true) (is_same_place-true p q e) (listed_head p qs)
    go false true e rec = listed_head p (q ∷ qs)
    go false false e rec = listed_on _ _ rec

listed_still : (r p : Place) (qs : List Place) → is_listed r qs ≡ true → is_listed r (inserted p qs) ≡ true
listed_still r p [] h = absurd cc
listed_still r p (q ∷ qs) h = go (is_same_place p q) (is_older_place p q) (listed_still r p qs)
  where
    behind : (b : Bool) → (is_listed r qs ≡ true → is_listed r (inserted p qs) ≡ true) → (b || is_listed r qs) ≡ true
        → (b || is_listed r (inserted p qs)) ≡ true
    behind true rec i = refl
    behind false rec i = rec i

    go : (b c : Bool) → (is_listed r qs ≡ true → is_listed r (inserted p qs) ≡ true) → is_listed r (insert_on p q qs b c) ≡ true
    go true c rec = h
    go false true rec = listed_on _ _ h
    go false false rec = behind (is_same_place q r) rec h

-- each place among the variables has the property that the listed ones have
abbrev pub ListedIn : List Place → Variable → Type 0
ListedIn ps (made p) = is_listed p ps ≡ true
ListedIn ps (own k) = Unit {0}

-- none of the listed places is bound
pub none_bound : (bs : Bindings) (ps : List Place) (p : Place) → binds_one bs ps ≡ false → is_listed p ps ≡ true → find bs (made p) ≡ None
none_bound bs [] p h e = absurd cc
none_bound bs (q ∷ ps) p h e = go (find bs (made q)) refl (is_same_place q p) refl (none_bound bs ps p) h e
  where
    go : (o : Option (Term Variable)) → find bs (made q) ≡ o → (b : Bool) → is_same_place q p ≡ b
        → (binds_one bs ps ≡ false → is_listed p ps ≡ true → find bs (made p) ≡ None)
        → (is_some o || binds_one bs ps) ≡ false → (b || is_listed p ps) ≡ true → find bs (made p) ≡ None
    go (Some t) f b g rec h i = absurd cc
    go None f true g rec h i = subst (λ x. find bs (made x) ≡ None) (is_same_place-true q p g) f
    go None f false g rec h i = rec h i

-- each place that was read is among those on which a process waits
pub listed_among : (vs : List Variable) → Every (ListedIn (places_among vs)) vs
listed_among [] = tt
listed_among (made p ∷ vs) =
    let among : List Place = places_among vs in
    (listed_inserted p among, every_so (ListedIn among) (ListedIn (inserted p among)) still vs (listed_among vs))
  where
    still : (v : Variable) → ListedIn (places_among vs) v → ListedIn (inserted p (places_among vs)) v
    still (made q) h = listed_still q p (places_among vs) h
    still (own k) h = tt
listed_among (own k ∷ vs) = (tt, listed_among vs)
