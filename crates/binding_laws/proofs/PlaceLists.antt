-- Lists of places: which are listed, and up to which entry.
use Rattle.std.proofs.Common.{◌≡◌, ℕ, zero, suc, ◌+◌, ◌<◌, ◌≤◌, Bool, true, false, List}
use Rattle.std.proofs.Common.{[], ◌∷◌, ◌++◌, map, refl, subst, arith}
use Rattle.std.specs.Prelude.{nat_eq, ◌&&◌, ◌||◌}
use Rattle.std.proofs.lemmas.Bool.Decides.{nat_tests}
use Rattle.fcp_model.specs.declared.run.Place.{Place}
use Rattle.fcp_model.specs.Places.{Variable, made, own, place, is_same_place, is_listed}
use Rattle.fcp_model.specs.States.{count_up}
use Rattle.fcp_model.specs.LawfulStates.{PlacesWithin, IsPlaceIn}
use Rattle.fcp_model.proofs.Finding.{is_same_place-true}

pub listed_left : (p : Place) (ps qs : List Place) → is_listed p ps ≡ true → is_listed p (ps ++ qs) ≡ true
listed_left p [] qs e = cc
listed_left p (x ∷ ps) qs e = go (is_same_place x p) e (listed_left p ps qs)
  where
    go : (c : Bool) → (c || is_listed p ps) ≡ true → (is_listed p ps ≡ true → is_listed p (ps ++ qs) ≡ true)
        → (c || is_listed p (ps ++ qs)) ≡ true
    go true h rec = refl
    go false h rec = rec h

pub listed_right : (p : Place) (ps qs : List Place) → is_listed p qs ≡ true → is_listed p (ps ++ qs) ≡ true
listed_right p [] qs e = e
listed_right p (x ∷ ps) qs e = go (is_same_place x p) (listed_right p ps qs e)
  where
    go : (c : Bool) → is_listed p (ps ++ qs) ≡ true → (c || is_listed p (ps ++ qs)) ≡ true
    go true h = refl
    go false h = h

-- a place stays one where more are listed
pub place_left : (ps qs : List Place) (v : Variable) → IsPlaceIn ps v → IsPlaceIn (ps ++ qs) v
place_left ps qs (made p) i = listed_left p ps qs i
place_left ps qs (own k) i = i

past : (n j k : ℕ) → j ≤ k → (nat_eq n n && nat_eq j k) ≡ false → suc j ≤ k
past n j k h e = grind (arith, nat_tests)

-- the places of entry n, by their numbers from `from` on
pub numbered_listed : (n from count k : ℕ) → from ≤ k → k < from + count
    → is_listed (place n k) (map (place n) (count_up from count)) ≡ true
numbered_listed n from zero k h i = absurd (omega arith)
numbered_listed n from (suc count) k h i =
    go (nat_eq n n && nat_eq from k) refl (λ below. numbered_listed n (suc from) count k below (omega arith))
  where
    go : (c : Bool) → is_same_place (place n from) (place n k) ≡ c
        → (suc from ≤ k → is_listed (place n k) (map (place n) (count_up (suc from) count)) ≡ true)
        → (c || is_listed (place n k) (map (place n) (count_up (suc from) count))) ≡ true
    go true e rec = refl
    go false e rec = rec (past n from k h e)

pub within_append : (n : ℕ) (ps qs : List Place) → PlacesWithin n ps → PlacesWithin n qs → PlacesWithin n (ps ++ qs)
within_append n [] qs f g = g
within_append n (p ∷ ps) qs f g = (f.0, within_append n ps qs f.1 g)

pub within_above : (n m : ℕ) (ps : List Place) → n ≤ m → PlacesWithin n ps → PlacesWithin m ps
within_above n m [] h f = tt
within_above n m (p ∷ ps) h f = (omega (arith, f.0), within_above n m ps h f.1)

pub numbered_within : (n : ℕ) (ks : List ℕ) → PlacesWithin n (map (place n) ks)
numbered_within n [] = tt
numbered_within n (k ∷ ks) = (omega arith, numbered_within n ks)

pub listed_within : (n : ℕ) (ps : List Place) (p : Place) → PlacesWithin n ps → is_listed p ps ≡ true → p.entry ≤ n
listed_within n [] p f e = cc
listed_within n (x ∷ ps) p f e = go (is_same_place x p) refl e (listed_within n ps p f.1)
  where
    go : (c : Bool) → is_same_place x p ≡ c → (c || is_listed p ps) ≡ true → (is_listed p ps ≡ true → p.entry ≤ n) → p.entry ≤ n
    go true h i rec = subst (λ y. y.entry ≤ n) (is_same_place-true x p h) f.0
    go false h i rec = rec i
