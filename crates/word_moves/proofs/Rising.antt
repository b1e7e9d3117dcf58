-- Two lists that rise strictly and have the same members are one.
use Rattle.std.proofs.Common.{◌≡◌, ◌⊎◌, ℕ, List, [], ◌∷◌, refl, sym, ap₂, subst, inl, inr}
use Rattle.word_states.specs.Words.{IsIn}

module _ (Before : ℕ → ℕ → Type 0) (apart : (a b : ℕ) → Before a b → Before b a → ⊥) where
  -- each stands before all that follow
  abbrev pub Rises : List ℕ → Type 0
  Rises [] = Unit {0}
  Rises (q ∷ qs) = ((r : ℕ) → IsIn r qs → Before q r) × Rises qs

  -- one that is the first or follows another, where it does not stand before itself
  later : (q r : ℕ) (qs : List ℕ) → Before q r → (q ≡ r) ⊎ IsIn r qs → IsIn r qs
  later q r qs before (inl e) = absurd (let same : Before r r = subst (λ (a : ℕ). Before a r) e before in apart r r same same)
  later q r qs before (inr h) = h

  pub one_list : (qs rs : List ℕ) → Rises qs → Rises rs → ((a : ℕ) → IsIn a qs → IsIn a rs) → ((a : ℕ) → IsIn a rs → IsIn a qs)
      → qs ≡ rs
  one_list [] [] rise rise' to from = refl
  one_list [] (r ∷ rs) rise rise' to from = absurd (from r (inl refl))
  one_list (q ∷ qs) [] rise rise' to from = absurd (to q (inl refl))
  one_list (q ∷ qs) (r ∷ rs) rise rise' to from = ap₂ (λ (a : ℕ) (as' : List ℕ). a ∷ as') same
      (one_list qs rs rise.1 rise'.1
      (λ a h. later r a rs (subst (λ (b : ℕ). Before b a) same (rise.0 a h)) (to a (inr h)))
      (λ a h. later q a qs (subst (λ (b : ℕ). Before b a) (sym same) (rise'.0 a h)) (from a (inr h))))
    where
      first : (r ≡ q) ⊎ IsIn q rs → (q ≡ r) ⊎ IsIn r qs → q ≡ r
      first (inl e) k = sym e
      first (inr h) (inl e) = e
      first (inr h) (inr k) = absurd (apart q r (rise.0 r k) (rise'.0 q h))

      same : q ≡ r
      same = first (to q (inl refl)) (from r (inl refl))
