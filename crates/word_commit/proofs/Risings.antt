-- Numbers rise in each seat that took in no other.
use Rattle.std.proofs.Common.{◌≡◌, ℕ, ◌<◌, ◌≤◌, List, [], ◌∷◌, ◌++◌, refl, subst, ⊎_elim, inl, inr, arith}
use Rattle.std.proofs.Common.{◌⊎◌}
use Rattle.word_commit.specs.declared.view.View.{View}
use Rattle.word_commit.specs.declared.view.Numbered.{Numbered}
use Rattle.word_commit.specs.Meanings.{Meaning, Among}
use Rattle.word_commit.specs.Views.{published, all_published}
use Rattle.word_commit.specs.Kept.{numbers_of}
use Rattle.word_commit.specs.Rising.{Rise, IsRising, RisingLaws}

module _ {E : Type 0} where
  among_snoc : (es : List (Numbered E)) (x : Numbered E) (k : ℕ) → Among (numbers_of (es ++ x ∷ [])) k → Among (numbers_of es) k
      ⊎ (x.number ≡ k)
  among_snoc [] x k h = ⊎_elim (λ (e : x.number ≡ k). inr e) (λ none_left. absurd none_left) h
  among_snoc (y ∷ ys) x k h = ⊎_elim (λ (e : y.number ≡ k). inl (inl e))
      (λ (t : Among (numbers_of (ys ++ x ∷ [])) k). ⊎_elim (λ (o : Among (numbers_of ys) k). inl (inr o)) (λ (e : x.number ≡ k). inr e)
      (among_snoc ys x k t)) h

  rise_snoc : (es : List (Numbered E)) (x : Numbered E) → Rise (numbers_of es) → ((k : ℕ) → Among (numbers_of es) k → k < x.number)
      → Rise (numbers_of (es ++ x ∷ []))
  rise_snoc [] x r below = ((λ k h. absurd h), tt)
  rise_snoc (y ∷ ys) x r below = (
    (λ k h. ⊎_elim (λ (o : Among (numbers_of ys) k). r.0 k o)
        (λ (e : x.number ≡ k). subst (λ (n : ℕ). y.number < n) e (below y.number (inl refl))) (among_snoc ys x k h)),
    rise_snoc ys x r.1 (λ k h. below k (inr h)),
  )

  publish_rising : (v : View E) (l : List (ℕ × ℕ)) → IsRising v → IsRising (all_published v l)
  publish_rising v [] h = h
  publish_rising v (x ∷ xs) h = publish_rising (published v x.0 x.1) xs h

pub rising_laws : {E : Type 0} (m : Meaning E) → RisingLaws m
rising_laws m = record {
  first = λ g. (tt, (λ n h. absurd h));
  second = λ v q. (tt, (λ n h. absurd h));
  share = λ v q h. h;
  load = λ v a x h. h;
  take = λ v p x h. h;
  give = λ v p h. h;
  prime = λ v a x h. h;
  publish = publish_rising;
  stamp = λ v e n above h. (
    rise_snoc v.entries record { number = n; entry = e } h.0 (λ k o. let z = h.1 k o in omega arith),
    (λ k o. ⊎_elim (λ (i : Among (numbers_of v.entries) k). let z = h.1 k i in omega arith) (λ (e : n ≡ k). omega arith)
        (among_snoc v.entries record { number = n; entry = e } k o)),
  );
  clock = λ v n le h. (h.0, (λ k o. let z = h.1 k o in omega arith));
}
