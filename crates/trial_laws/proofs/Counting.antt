-- Two lists whose items belong together one by one have equally many.
use Rattle.std.proofs.Common.{◌≡◌, ◌⊎◌, suc, ◌≤◌, List, [], ◌∷◌, length, refl, sym, ap, ◌∙◌, subst, inl, inr, arith}

-- the item is one of the list
abbrev pub In : {A : Type 0} → A → List A → Type 0
In x [] = ⊥
In x (y ∷ ys) = (y ≡ x) ⊎ In x ys

-- no item stands twice
abbrev pub AreApart : {A : Type 0} → List A → Type 0
AreApart [] = Unit {0}
AreApart (x ∷ xs) = (In x xs → ⊥) × AreApart xs

-- the list without one item
without : {A : Type 0} (y : A) (ys : List A) → In y ys → List A
without y [] m = absurd m
without y (z ∷ ys) (inl e) = ys
without y (z ∷ ys) (inr m) = z ∷ without y ys m

unfoldable one_less : {A : Type 0} (y : A) (ys : List A) (m : In y ys) → length ys ≡ suc (length (without y ys m))
unfolding without
one_less y [] m = absurd m
one_less y (z ∷ ys) (inl e) = refl
one_less y (z ∷ ys) (inr m) = ap suc (one_less y ys m)

still_in : {A : Type 0} (y : A) (ys : List A) (m : In y ys) (x : A) → In x ys → (x ≡ y → ⊥) → In x (without y ys m)
unfolding without
still_in y [] m x h n = absurd m
still_in y (z ∷ ys) (inl e) x (inl f) n = absurd (n (sym f ∙ e))
still_in y (z ∷ ys) (inl e) x (inr h) n = h
still_in y (z ∷ ys) (inr m) x (inl f) n = inl f
still_in y (z ∷ ys) (inr m) x (inr h) n = inr (still_in y ys m x h n)

-- each item of the first list belongs to one of the second, and no two to the same
pub at_most : {A B : Type 0} (R : A → B → Type 0) → ((x x' : A) (y : B) → R x y → R x' y → x ≡ x') → (xs : List A) (ys : List B)
    → AreApart xs → ((x : A) → In x xs → (y : B) × R x y × In y ys) → length xs ≤ length ys
at_most R one [] ys apart all = omega arith
at_most R one (x ∷ xs) ys apart all =
    let h = all x (inl refl) in
    let less = one_less h.0 ys h.2 in
    let rest = at_most R one xs (without h.0 ys h.2) apart.1 (λ x' i. let k = all x' (inr i) in
    (k.0, k.1, still_in h.0 ys h.2 k.0 k.2 (λ e. apart.0 (subst (λ z. In z xs) (one x' x h.0 (subst (R x') e k.1) h.1) i)))) in
    omega arith
