-- The store's places that a try bound, in order.
use Rattle.std.proofs.Common.{◌≡◌, ℕ, Bool, true, false, cond, List, [], ◌∷◌, ◌++◌, refl, sym, ap, ◌∙◌, subst, append-nil}
use Rattle.std.specs.Prelude.{nat_lt}
use Rattle.std.proofs.lemmas.Bool.{ltb-true, lt-ltb}
use Rattle.std.proofs.lemmas.List.{map-append}
use Rattle.fcp_model.specs.declared.run.Place.{Place}
use Rattle.fcp_model.specs.Places.{Variable, made, own}
use Rattle.fcp_model.specs.Terms.{Term, Bindings}
use Rattle.fcp_model.specs.Unification as endings
use Rattle.heap_words.specs.Trails.{WordList, Memory}
use Rattle.ro_unify.specs.Unify.{done}
use Rattle.word_states.specs.Words.{Words, addresses_of}
use Rattle.word_states.specs.Denoting.{Addresses, Listed}
use Rattle.word_states.specs.Pieces.{with_variables}
use Rattle.word_states.specs.Trials.{places_bound, AreAt}
use Rattle.unify_terms.specs.Denotes.{IsPlace, AreNames, BindsInOrder}
use Rattle.unify_terms.specs.WordsOfTries.{naming}
use Rattle.unify_terms.proofs.NamesOfPlaces.{place_listed}
use Rattle.trial_laws.specs.AtHand.{IsStore, of_store}
use Rattle.trial_laws.proofs.TriedPlaces.{below, old_place, low_place}

-- what is bound later stands behind
store_more : (bs xs : WordList) → of_store (bs ++ xs) ≡ of_store bs ++ of_store xs
store_more [] xs = refl
store_more (b ∷ bs) xs = go (nat_lt b.0 4000000000) (store_more bs xs)
  where
    go : (c : Bool) → of_store (bs ++ xs) ≡ of_store bs ++ of_store xs
        → cond c (b ∷ of_store (bs ++ xs)) (of_store (bs ++ xs)) ≡ cond c (b ∷ of_store bs) (of_store bs) ++ of_store xs
    go true e = ap (λ (l : WordList). b ∷ l) e
    go false e = e

bound_more : (ts us : Bindings) → places_bound (ts ++ us) ≡ places_bound ts ++ places_bound us
bound_more [] us = refl
bound_more ((made j, t) ∷ ts) us = ap (λ (l : List Place). j ∷ l) (bound_more ts us)
bound_more ((own k, t) ∷ ts) us = bound_more ts us

at_more : (vs : Addresses) (as' bs : List ℕ) (js ks : List Place) → AreAt vs as' js → AreAt vs bs ks → AreAt vs (as' ++ bs) (js ++ ks)
at_more vs [] bs [] ks h k = k
at_more vs (a ∷ as') bs (j ∷ js) ks h k = (h.0, at_more vs as' bs js ks h.1 k)
at_more vs [] bs (j ∷ js) ks h k = absurd h
at_more vs (a ∷ as') bs [] ks h k = absurd h

-- a clause's variable is no place of the store
pub own_bound : (ts : Bindings) (k : ℕ) (u : Term Variable) → places_bound (ts ++ (own k, u) ∷ []) ≡ places_bound ts
own_bound ts k u = bound_more ts ((own k, u) ∷ []) ∙ append-nil (places_bound ts)

module _ (w : Words) (vs : Addresses) (bound : Bindings) (ps : List (List ℕ)) (store : IsStore w vs bound) (m : Memory) where
  listed : (a : ℕ) (v : Variable) → IsPlace (naming (with_variables ps vs)) m a v → Listed (with_variables ps vs) v a
  listed a v h = subst (λ (z : Variable). Listed (with_variables ps vs) z a) h.1 (place_listed (with_variables ps vs) a h.0)

  -- where places have these names in order, so have those of the store among them
  names_at : (xs : WordList) (us : Bindings) → AreNames (naming (with_variables ps vs)) m xs us
      → AreAt vs (addresses_of (of_store xs)) (places_bound us)
  names_at [] [] h = tt
  names_at (x ∷ xs) ((made j, t) ∷ us) h =
      let l = old_place w vs bound ps store j x.0 (listed x.0 (made j) h.0) in
      subst (λ (c : Bool). AreAt vs (addresses_of (cond c (x ∷ of_store xs) (of_store xs))) (j ∷ places_bound us))
      (sym (lt-ltb x.0 4000000000 (below w vs bound ps store (made j) x.0 l))) (l, names_at xs us h.1)
  names_at (x ∷ xs) ((own k, t) ∷ us) h =
      subst (λ (c : Bool). AreAt vs (addresses_of (cond c (x ∷ of_store xs) (of_store xs))) (places_bound us))
      (sym (high (nat_lt x.0 4000000000) refl)) (names_at xs us h.1)
    where
      high : (c : Bool) → nat_lt x.0 4000000000 ≡ c → nat_lt x.0 4000000000 ≡ false
      high false e = e
      high true e =
          let o = low_place w vs bound ps store (own k) x.0 (listed x.0 (own k) h.0) (ltb-true x.0 4000000000 e) in
          absurd (let i : own k ≡ made o.0 = o.1 in cc)
  names_at [] (u ∷ us) h = absurd h
  names_at (x ∷ xs) [] h = absurd h

  -- a unification keeps the order
  pub still_in_order : (bs bs' : WordList) (ts ts' : Bindings) (rs : List ℕ) (qs : List Variable)
      → BindsInOrder (naming (with_variables ps vs)) m bs ts (done bs' rs) (endings.done ts' qs)
      → AreAt vs (addresses_of (of_store bs)) (places_bound ts) → AreAt vs (addresses_of (of_store bs')) (places_bound ts')
  still_in_order bs bs' ts ts' rs qs more was =
      subst (λ (l : WordList). AreAt vs (addresses_of (of_store l)) (places_bound ts')) (sym more.2)
      (subst (λ (l : Bindings). AreAt vs (addresses_of (of_store (bs ++ more.0))) (places_bound l)) (sym more.3)
      (subst (λ (l : List ℕ). AreAt vs l (places_bound (ts ++ more.1)))
      (sym (ap addresses_of (store_more bs more.0) ∙ map-append (λ (x : ℕ × ℕ). x.0) (of_store bs) (of_store more.0)))
      (subst (AreAt vs (addresses_of (of_store bs) ++ addresses_of (of_store more.0))) (sym (bound_more ts more.1))
      (at_more vs (addresses_of (of_store bs)) (addresses_of (of_store more.0)) (places_bound ts) (places_bound more.1) was
      (names_at more.0 more.1 more.4)))))
