-- Places in order of age: a waiting set is, a list that was sorted is, and two such lists with the same places are one.
use Rattle.std.proofs.Common.{◌≡◌, ◌⊎◌, ℕ, zero, suc, ◌<◌, Bool, true, false, List, [], ◌∷◌, length, refl, sym, ap₂, subst}
use Rattle.std.proofs.Common.{⊎_elim, inl, inr, arith, true≢false}
use Rattle.std.specs.Prelude.{nat_eq, nat_lt, Contains, slice_index_or}
use Rattle.std.specs.Cmp.{IsTotalOrder, IsEquivalence}
use Rattle.std.specs.Ordering.{nat_cmp, ordering_then, eq_by_cmp}
use Rattle.std.specs.declared.cmp.Ordering.{Ordering}
use Rattle.std.specs.declared.cmp.Ordering.TheVariants.{Less}
use Rattle.std.specs.List.{AllByRecursion}
use Rattle.std.specs.List.Sorted.{IsStrictlySortedBy}
use Rattle.std.proofs.lemmas.Bool.{or_cases, or_left, or_right}
use Rattle.std.proofs.lemmas.Cmp.{then_total, on_total, nat_cmp_total}
use Rattle.std.proofs.lemmas.Bool.Decides.{nat_tests}
use Rattle.fcp_model.specs.declared.run.Place.{Place}
use Rattle.fcp_model.specs.Places.{Variable, made, own, is_same_place, is_older_place, is_listed, inserted, places_among}
use Rattle.fcp_model.proofs.Finding.{is_same_place-true}
use Rattle.entry_lines.specs.Waits.{AreByAge}

-- ages
older_on : (p q r : Place) → is_older_place p q ≡ true → is_older_place q r ≡ true → is_older_place p r ≡ true
older_on p q r h i = grind (arith, nat_tests)

none_older : (p : Place) → is_older_place p p ≡ true → ⊥
none_older p h = grind (arith, nat_tests)

same_itself : (p : Place) → is_same_place p p ≡ true
same_itself p = grind (arith, nat_tests)

-- where p is neither q nor older, q is older
later : (p q : Place) → is_same_place p q ≡ false → is_older_place p q ≡ false → is_older_place q p ≡ true
later p q h i = grind (arith, nat_tests)

-- the first of a list is in it, and so is each of the others
pub first_listed : (p : Place) (ps : List Place) → is_listed p (p ∷ ps) ≡ true
first_listed p ps = or_left (is_same_place p p) (is_listed p ps) (same_itself p)

pub more_listed : (p j : Place) (ps : List Place) → is_listed j ps ≡ true → is_listed j (p ∷ ps) ≡ true
more_listed p j ps h = or_right (is_same_place p j) (is_listed j ps) h

pub listed_either : (p j : Place) (ps : List Place) → is_listed j (p ∷ ps) ≡ true → (p ≡ j) ⊎ (is_listed j ps ≡ true)
listed_either p j ps h =
    ⊎_elim (λ (e : is_same_place p j ≡ true). inl (is_same_place-true p j e)) (λ (i : is_listed j ps ≡ true). inr i)
    (or_cases (is_same_place p j) (is_listed j ps) h)

-- a place is put in its age
abbrev put_on : Place → Place → List Place → Bool → Bool → List Place
put_on p q qs b c = elim b [ true ↦ q ∷ qs | _ ↦ elim c [ true ↦ p ∷ q ∷ qs | _ ↦ q ∷ inserted p qs ] ]

listed_inserted : (p : Place) (qs : List Place) (r : Place) → is_listed r (inserted p qs) ≡ true → (p ≡ r) ⊎ (is_listed r qs ≡ true)
listed_inserted p [] r h = listed_either p r [] h
listed_inserted p (q ∷ qs) r h = go (is_same_place p q) (is_older_place p q) h (listed_inserted p qs r)
  where
    go : (b c : Bool) → is_listed r (put_on p q qs b c) ≡ true
        → (is_listed r (inserted p qs) ≡ true → (p ≡ r) ⊎ (is_listed r qs ≡ true)) → (p ≡ r) ⊎ (is_listed r (q ∷ qs) ≡ true)
    go true c i rec = inr i
    go false true i rec = listed_either p r (q ∷ qs) i
    go false false i rec = ⊎_elim
        (λ (e : q ≡ r). inr (subst (λ (k : Place). is_listed k (q ∷ qs) ≡ true) e (first_listed q qs)))
        (λ (k : is_listed r (inserted p qs) ≡ true).
        ⊎_elim (λ (e : p ≡ r). inl e) (λ (j : is_listed r qs ≡ true). inr (more_listed q r qs j)) (rec k)) (listed_either q r (inserted p qs) i)

inserted_by_age : (p : Place) (qs : List Place) → AreByAge qs → AreByAge (inserted p qs)
inserted_by_age p [] r = ((λ q i. absurd (true≢false (sym i))), tt)
inserted_by_age p (q ∷ qs) r = go (is_same_place p q) refl (is_older_place p q) refl (inserted_by_age p qs r.1)
  where
    go : (b : Bool) → is_same_place p q ≡ b → (c : Bool) → is_older_place p q ≡ c → AreByAge (inserted p qs) → AreByAge (put_on p q qs b c)
    go true e c f rec = r
    go false e true f rec = (
      (λ z i. ⊎_elim (λ (j : q ≡ z). subst (λ (k : Place). is_older_place p k ≡ true) j f)
          (λ (j : is_listed z qs ≡ true). older_on p q z f (r.0 z j)) (listed_either q z qs i)),
      r,
    )
    go false e false f rec = (
      (λ z i. ⊎_elim (λ (j : p ≡ z). subst (λ (k : Place). is_older_place q k ≡ true) j (later p q e f))
          (λ (j : is_listed z qs ≡ true). r.0 z j) (listed_inserted p qs z i)),
      rec,
    )

-- a waiting set is in order of age
pub among_by_age : (vs : List Variable) → AreByAge (places_among vs)
among_by_age [] = tt
among_by_age (made p ∷ vs) = inserted_by_age p (places_among vs) (among_by_age vs)
among_by_age (own k ∷ vs) = among_by_age vs

-- the places of the first list are among those of the second
abbrev AreIn : List Place → List Place → Type 0
AreIn ps qs = (j : Place) → is_listed j ps ≡ true → is_listed j qs ≡ true

-- where one list is among another and both are in order of age, and they begin with one place, so are the others
others_in : (p : Place) (ps qs : List Place) → AreByAge (p ∷ ps) → AreIn (p ∷ ps) (p ∷ qs) → AreIn ps qs
others_in p ps qs r h j i =
    ⊎_elim (λ (e : p ≡ j). absurd (none_older p (subst (λ (k : Place). is_older_place p k ≡ true) (sym e) (r.0 j i))))
    (λ (k : is_listed j qs ≡ true). k) (listed_either p j qs (h j (more_listed p j ps i)))

-- the first of each is the oldest of both
one_first : (p q : Place) (ps qs : List Place) → AreByAge (p ∷ ps) → AreByAge (q ∷ qs) → AreIn (p ∷ ps) (q ∷ qs) → AreIn (q ∷ qs) (p ∷ ps)
    → p ≡ q
one_first p q ps qs r t h i =
    ⊎_elim (λ (e : q ≡ p). sym e) (λ (a : is_listed p qs ≡ true).
    ⊎_elim (λ (e : p ≡ q). e) (λ (b : is_listed q ps ≡ true). absurd (none_older p (older_on p q p (r.0 q b) (t.0 p a))))
    (listed_either p q ps (i q (first_listed q qs)))) (listed_either q p qs (h p (first_listed p ps)))

pub one_list : (ps qs : List Place) → AreByAge ps → AreByAge qs → AreIn ps qs → AreIn qs ps → ps ≡ qs
one_list [] [] r t h i = refl
one_list [] (q ∷ qs) r t h i = absurd (true≢false (sym (i q (first_listed q qs))))
one_list (p ∷ ps) [] r t h i = absurd (true≢false (sym (h p (first_listed p ps))))
one_list (p ∷ ps) (q ∷ qs) r t h i =
    let e : p ≡ q = one_first p q ps qs r t h i in
    let t' : AreByAge (p ∷ qs) = subst (λ (k : Place). AreByAge (k ∷ qs)) (sym e) t in
    let h' : AreIn (p ∷ ps) (p ∷ qs) = subst (λ (k : Place). AreIn (p ∷ ps) (k ∷ qs)) (sym e) h in
    let i' : AreIn (p ∷ qs) (p ∷ ps) = subst (λ (k : Place). AreIn (k ∷ qs) (p ∷ ps)) (sym e) i in
    ap₂ (λ (k : Place) (l : List Place). k ∷ l) e (one_list ps qs r.1 t'.1 (others_in p ps qs r h') (others_in p qs ps t' i'))

-- the order by which places are sorted
abbrev pub order : Place → Place → Ordering
order p q = ordering_then (nat_cmp p.entry q.entry) (nat_cmp p.number q.number)

pub order_total : IsTotalOrder order
order_total = then_total (on_total (λ p. p.entry) nat_cmp_total) (on_total (λ p. p.number) nat_cmp_total)

pub ties : (p q : Place) → is_same_place p q ≡ eq_by_cmp order p q
ties p q = grind (arith, nat_tests)

pub same_equivalence : IsEquivalence is_same_place
same_equivalence = record {
  refl = λ x. grind (arith, nat_tests);
  symm = λ x y. grind (arith, nat_tests);
  congr = λ x y z h. grind (arith, nat_tests, h);
}

less_older : (p q : Place) → order p q ≡ Less → is_older_place p q ≡ true
less_older p q h = go (nat_lt p.entry q.entry) refl (nat_eq p.entry q.entry) refl
  where
    go : (l : Bool) → nat_lt p.entry q.entry ≡ l → (e : Bool) → nat_eq p.entry q.entry ≡ e → is_older_place p q ≡ true
    go true i e j = grind (arith, nat_tests, i)
    go false i true j = grind (arith, nat_tests, i, j, h)
    go false i false j = absurd (grind (arith, nat_tests, i, j, h))

-- what a list has it contains
pub listed_contains : (ps : List Place) (j : Place) → is_listed j ps ≡ true → Contains ps j
listed_contains [] j h = absurd (true≢false (sym h))
listed_contains (p ∷ ps) j h =
    ⊎_elim (λ (e : p ≡ j). (0, omega arith, e))
    (λ (i : is_listed j ps ≡ true). let r = listed_contains ps j i in (suc r.0, omega (arith, r.1), r.2)) (listed_either p j ps h)

listed_at : (ps : List Place) (j : Place) (k : ℕ) → k < length ps → slice_index_or ps k j ≡ j → is_listed j ps ≡ true
listed_at [] j k i e = absurd (omega (arith, i))
listed_at (p ∷ ps) j zero i e = subst (λ (q : Place). is_listed q (p ∷ ps) ≡ true) e (first_listed p ps)
listed_at (p ∷ ps) j (suc k) i e = more_listed p j ps (listed_at ps j k (omega (arith, i)) e)

pub contains_listed : (ps : List Place) (j : Place) → Contains ps j → is_listed j ps ≡ true
contains_listed ps j h = listed_at ps j h.0 h.1 h.2

each : (P : Place → Type 0) (ps : List Place) → AllByRecursion P ps → (j : Place) → is_listed j ps ≡ true → P j
each P [] h j i = absurd (true≢false (sym i))
each P (p ∷ ps) h j i =
    ⊎_elim (λ (e : p ≡ j). subst P e h.0) (λ (k : is_listed j ps ≡ true). each P ps h.1 j k) (listed_either p j ps i)

-- what is sorted strictly is in order of age
pub sorted_by_age : (ps : List Place) → IsStrictlySortedBy order ps → AreByAge ps
unfolding IsStrictlySortedBy
sorted_by_age [] h = tt
sorted_by_age (p ∷ ps) h = ((λ q i. less_older p q (each (λ q. order p q ≡ Less) ps h.0 q i)), sorted_by_age ps h.1)
