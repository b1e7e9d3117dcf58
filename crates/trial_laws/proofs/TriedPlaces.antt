-- The places that tries read.
use Rattle.std.proofs.Common.{◌≡◌, ◌⊎◌, ℕ, suc, ◌<◌, List, [], ◌∷◌, ◌++◌, refl, subst, inl, inr, ⊎_elim, arith}
use Rattle.fcp_model.specs.declared.run.Place.{Place}
use Rattle.fcp_model.specs.Places.{Variable, made, own}
use Rattle.fcp_model.specs.Terms.{Bindings}
use Rattle.word_states.specs.Words.{Words, IsIn}
use Rattle.word_states.specs.Denoting.{Addresses, Listed}
use Rattle.word_states.specs.Pieces.{place_words, numbered, with_variables}
use Rattle.word_states.proofs.Lists.{listed_either}
use Rattle.word_states.proofs.Pieces.{variable_at, located_starts, starts_above}
use Rattle.trial_laws.specs.AtHand.{IsAmong, AreCalled, ArePlacesAmong, IsStore}
use Rattle.trial_laws.specs.Laws.{AreNoted}

among_left : (us vs : List Variable) (v : Variable) → IsAmong us v → IsAmong (us ++ vs) v
among_left [] vs v h = absurd h
among_left (u ∷ us) vs v (inl e) = inl e
among_left (u ∷ us) vs v (inr h) = inr (among_left us vs v h)

among_right : (us vs : List Variable) (v : Variable) → IsAmong vs v → IsAmong (us ++ vs) v
among_right [] vs v h = h
among_right (u ∷ us) vs v h = inr (among_right us vs v h)

among_either : (us vs : List Variable) (v : Variable) → IsAmong (us ++ vs) v → IsAmong us v ⊎ IsAmong vs v
among_either [] vs v h = inr h
among_either (u ∷ us) vs v (inl e) = inl (inl e)
among_either (u ∷ us) vs v (inr h) = ⊎_elim (λ i. inl (inr i)) (λ i. inr i) (among_either us vs v h)

-- a place among the variables has its address among the addresses, and the other way round
address_of : (us : Addresses) (rs : List ℕ) (qs : List Variable) (v : Variable) → AreCalled us rs qs → IsAmong qs v
    → (a : ℕ) × Listed us v a × IsIn a rs
address_of us [] [] v h i = absurd i
address_of us (a ∷ rs) (q ∷ qs) v h (inl e) = (a, subst (λ (z : Variable). Listed us z a) e h.0, inl refl)
address_of us (a ∷ rs) (q ∷ qs) v h (inr i) = let k = address_of us rs qs v h.1 i in (k.0, k.1, inr k.2)
address_of us [] (q ∷ qs) v h i = absurd h
address_of us (a ∷ rs) [] v h i = absurd h

name_of : (us : Addresses) (rs : List ℕ) (qs : List Variable) (a : ℕ) → AreCalled us rs qs → IsIn a rs
    → (v : Variable) × Listed us v a × IsAmong qs v
name_of us [] [] a h i = absurd i
name_of us (b ∷ rs) (q ∷ qs) a h (inl e) = (q, subst (λ (z : ℕ). Listed us q z) e h.0, inl refl)
name_of us (b ∷ rs) (q ∷ qs) a h (inr i) = let k = name_of us rs qs a h.1 i in (k.0, k.1, inr k.2)
name_of us [] (q ∷ qs) a h i = absurd h
name_of us (b ∷ rs) [] a h i = absurd h

module _ (w : Words) (vs : Addresses) (bound : Bindings) (ps : List (List ℕ)) (store : IsStore w vs bound) where
  pub below : (v : Variable) (a : ℕ) → Listed vs v a → a < 4000000000
  below v a h = let r = store.says.word v a h in store.low a r.0 r.1

  -- a place of the store is one of its places, and stands below the pieces
  pub old_place : (j : Place) (a : ℕ) → Listed (with_variables ps vs) (made j) a → Listed vs (made j) a
  old_place j a h =
      ⊎_elim (λ i. i) (λ i. absurd (let q = variable_at 1 1 4000000000 ps (made j) a i in let k : made j ≡ own q.0 = q.4 in cc))
      (listed_either vs _ (made j) a h)

  pub low_place : (v : Variable) (a : ℕ) → Listed (with_variables ps vs) v a → a < 4000000000 → (j : Place) × (v ≡ made j) × Listed vs v a
  low_place v a h l =
      ⊎_elim (λ i. let k = store.says.is_made v a i in (k.0, k.1, i)) (λ i. absurd (high i)) (listed_either vs _ v a h)
    where
      high : Listed (numbered 1 (place_words 4000000000 ps)) v a → ⊥
      high i =
          let q = variable_at 1 1 4000000000 ps v a i in
          let k = starts_above 4000000000 ps q.2 q.3 (located_starts 1 1 4000000000 ps q.0 q.1 q.2 q.3 q.5) in
          let e : a ≡ suc q.2 = q.7 in
          omega arith

  -- what one try more has read
  pub read_among : (waits waits' rs : List ℕ) (us qs : List Variable) → ArePlacesAmong vs waits us
      → AreCalled (with_variables ps vs) rs qs → AreNoted waits rs waits' → ArePlacesAmong vs waits' (us ++ qs)
  read_among waits waits' rs us qs were named noted = record {
    all = λ j h. ⊎_elim (λ i. let k = were.all j i in (k.0, k.1, (noted k.0).1 (inl k.2))) (λ i. new j i) (among_either us qs (made j) h);
    only = λ a i. ⊎_elim (λ k. let o = were.only a k in (o.0, o.1, among_left us qs (made o.0) o.2)) (λ k. read a k.0 k.1) ((noted a).0 i);
  }
    where
      new : (j : Place) → IsAmong qs (made j) → (a : ℕ) × Listed vs (made j) a × IsIn a waits'
      new j i =
          let k = address_of (with_variables ps vs) rs qs (made j) named i in
          let o = old_place j k.0 k.1 in
          (k.0, o, (noted k.0).1 (inr (k.2, below (made j) k.0 o)))

      read : (a : ℕ) → IsIn a rs → a < 4000000000 → (j : Place) × Listed vs (made j) a × IsAmong (us ++ qs) (made j)
      read a i l =
          let k = name_of (with_variables ps vs) rs qs a named i in
          let o = low_place k.0 a k.1 l in
          (o.0, subst (λ (z : Variable). Listed vs z a) o.1 o.2, among_right us qs (made o.0) (subst (IsAmong qs) o.1 k.2))
