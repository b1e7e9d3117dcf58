-- Lists of places, each listed once, and how what a try read is noted.
use Rattle.std.proofs.Common.{◌≡◌, ◌⊎◌, ◌↔◌, ℕ, ◌<◌, Bool, true, false, List, [], ◌∷◌, ◌++◌, nat_eq}
use Rattle.std.proofs.Common.{if◌then◌else◌, ◌||◌, refl, sym, subst, inl, inr, ⊎_elim, true≢false, Ok, Err}
use Rattle.std.specs.Prelude.{Result, MatchResult}
use Rattle.std.proofs.lemmas.Bool.{eqb-true, eqb-false}
use Rattle.std.specs.List.{list_any, AllByRecursion, IsDistinct}
use Rattle.indexmap.specs.IndexSet.{insert_key}
use Rattle.word_states.specs.Words.{IsIn, AreDistinct}
use Rattle.trial_laws.specs.Laws.{AreNoted}

in_left : (a k : ℕ) (ks : List ℕ) → IsIn a ks → IsIn a (ks ++ k ∷ [])
in_left a k [] i = absurd i
in_left a k (r ∷ ks) (inl e) = inl e
in_left a k (r ∷ ks) (inr i) = inr (in_left a k ks i)

in_last : (k : ℕ) (ks : List ℕ) → IsIn k (ks ++ k ∷ [])
in_last k [] = inl refl
in_last k (r ∷ ks) = inr (in_last k ks)

in_either : (a k : ℕ) (ks : List ℕ) → IsIn a (ks ++ k ∷ []) → IsIn a ks ⊎ (k ≡ a)
in_either a k [] (inl e) = inr e
in_either a k [] (inr i) = absurd i
in_either a k (r ∷ ks) (inl e) = inl (inl e)
in_either a k (r ∷ ks) (inr i) = ⊎_elim (λ (t : IsIn a ks). inl (inr t)) (λ (t : k ≡ a). inr t) (in_either a k ks i)

-- a key that is found stands in the list
found : (k : ℕ) (ks : List ℕ) → list_any (nat_eq k) ks ≡ true → IsIn k ks
found k [] e = absurd (true≢false (sym e))
found k (r ∷ ks) e = go (nat_eq k r) refl e (found k ks)
  where
    go : (b : Bool) → nat_eq k r ≡ b → list_any (nat_eq k) (r ∷ ks) ≡ true → (list_any (nat_eq k) ks ≡ true → IsIn k ks) → IsIn k (r ∷ ks)
    go true f g more = inl (sym (eqb-true k r f))
    go false f g more = inr (more (subst (λ b. (b || list_any (nat_eq k) ks) ≡ true) f g))

-- a place that is inserted is there, and nothing else besides the former ones
pub inserted : (ks : List ℕ) (k a : ℕ) → IsIn a (insert_key nat_eq ks k) ↔ (IsIn a ks ⊎ (a ≡ k))
inserted ks k a = go (list_any (nat_eq k) ks) refl
  where
    go : (b : Bool) → list_any (nat_eq k) ks ≡ b → IsIn a (if b then ks else ks ++ k ∷ []) ↔ (IsIn a ks ⊎ (a ≡ k))
    go true e = (λ i. inl i, λ t. ⊎_elim (λ i. i) (λ (q : a ≡ k). subst (λ z. IsIn z ks) (sym q) (found k ks e)) t)
    go false e = (
      λ i. ⊎_elim (λ j. inl j) (λ (q : k ≡ a). inr (sym q)) (in_either a k ks i),
      λ t. ⊎_elim (λ i. in_left a k ks i) (λ (q : a ≡ k). subst (λ z. IsIn z (ks ++ k ∷ [])) (sym q) (in_last k ks)) t,
    )

not_in : (a : ℕ) (ks : List ℕ) → AllByRecursion (λ y. nat_eq a y ≡ false) ks → IsIn a ks → ⊥
not_in a [] h i = i
not_in a (b ∷ ks) h (inl e) = eqb-false a b h.0 (sym e)
not_in a (b ∷ ks) h (inr i) = not_in a ks h.1 i

-- keys of a set are apart
pub keys_apart : (ks : List ℕ) → IsDistinct nat_eq ks → AreDistinct ks
unfolding IsDistinct
keys_apart [] h = tt
keys_apart (k ∷ ks) h = (not_in k ks h.0, keys_apart ks h.1)

-- a result that is known
pub on_ok : {A E : Type 0} (r : Result A E) (x : A) (P : A → Type 0) (Q : E → Type 0) → r ≡ Ok x → P x → MatchResult r P Q
on_ok r x P Q e h = subst (λ z. MatchResult z P Q) (sym e) h

pub on_err : {A E : Type 0} (r : Result A E) (x : E) (P : A → Type 0) (Q : E → Type 0) → r ≡ Err x → Q x → MatchResult r P Q
on_err r x P Q e h = subst (λ z. MatchResult z P Q) (sym e) h

-- one place more that was read: it is the store's and is noted, or it is an own one
pub noted_low : (waits rs ws ws' : List ℕ) (x : ℕ) → AreNoted waits rs ws → x < 4000000000
    → ((a : ℕ) → IsIn a ws' ↔ (IsIn a ws ⊎ (a ≡ x))) → AreNoted waits (rs ++ x ∷ []) ws'
noted_low waits rs ws ws' x h low noted a = (
  λ i. ⊎_elim (λ j. ⊎_elim (λ k. inl k) (λ k. inr (in_left a x rs k.0, k.1)) ((h a).0 j))
      (λ (q : a ≡ x). inr (subst (λ z. IsIn z (rs ++ x ∷ [])) (sym q) (in_last x rs), subst (λ z. z < 4000000000) (sym q) low))
      ((noted a).0 i),
  λ t. (noted a).1 (⊎_elim (λ j. inl ((h a).1 (inl j)))
      (λ j. ⊎_elim (λ k. inl ((h a).1 (inr (k, j.1)))) (λ (q : x ≡ a). inr (sym q)) (in_either a x rs j.0)) t),
)

pub noted_own : (waits rs ws : List ℕ) (x : ℕ) → AreNoted waits rs ws → (x < 4000000000 → ⊥) → AreNoted waits (rs ++ x ∷ []) ws
noted_own waits rs ws x h own a = (
  λ i. ⊎_elim (λ k. inl k) (λ k. inr (in_left a x rs k.0, k.1)) ((h a).0 i),
  λ t. (h a).1 (⊎_elim (λ j. inl j)
      (λ j. ⊎_elim (λ k. inr (k, j.1)) (λ (q : x ≡ a). absurd (own (subst (λ z. z < 4000000000) (sym q) j.1))) (in_either a x rs j.0)) t),
)
