-- Texts with marks between them, text by text.
use Rattle.std.proofs.Common.{◌≡◌, ℕ, zero, suc, ◌+◌, ◌<◌, ◌≤◌, List, [], ◌∷◌, ◌++◌, length, map, drop, get_or, ap, sym, ◌∙◌, refl, arith, add-one, drop-cons}
use Rattle.std.proofs.lemmas.List.{drop_all}
use Rattle.fcp_model.specs.Spelling.{Bytes}
use Rattle.fcp_text.specs.SourceTerms.{parted, each_behind}

module _ {A : Type 0} where
  -- within a list the value for a position past the end does not count
  same_within : (xs : List A) (i : ℕ) (d e : A) → i < length xs → get_or xs i d ≡ get_or xs i e
  same_within [] i d e h = absurd (omega arith)
  same_within (x ∷ xs) zero d e h = refl
  same_within (x ∷ xs) (suc i) d e h = same_within xs i d e (omega arith)

  pub element_is : (xs : List A) (i : ℕ) (d : A) → i < length xs → get_or xs i d ≡ get_or xs i (get_or xs i d)
  element_is xs i d h = same_within xs i d (get_or xs i d) h

  -- what is left of a list at an element
  pub drop_at : (xs : List A) (i : ℕ) (x : A) → i < length xs → x ≡ get_or xs i x → drop i xs ≡ x ∷ drop (i + 1) xs
  drop_at xs i x h e = drop-cons xs i x h ∙ ap (λ y. y ∷ drop (suc i) xs) (sym e) ∙ ap (λ n. x ∷ drop n xs) (sym (add-one i))

  -- nothing is left
  pub drop_none : (xs : List A) (i : ℕ) → length xs ≤ i → drop i xs ≡ []
  drop_none xs i h = drop_all i xs h

  module _ (f : A → Bytes) (mark : Bytes) where
    pub parted_first : (xs : List A) (i : ℕ) (x : A) → i < length xs → x ≡ get_or xs i x
        → parted mark (map f (drop i xs)) ≡ f x ++ each_behind mark (map f (drop (i + 1) xs))
    parted_first xs i x h e = ap (λ ys. parted mark (map f ys)) (drop_at xs i x h e)

    pub parted_none : (xs : List A) (i : ℕ) → length xs ≤ i → parted mark (map f (drop i xs)) ≡ []
    parted_none xs i h = ap (λ ys. parted mark (map f ys)) (drop_none xs i h)

    pub behind_step : (xs : List A) (i : ℕ) (x : A) → i < length xs → x ≡ get_or xs i x
        → each_behind mark (map f (drop i xs)) ≡ mark ++ (f x ++ each_behind mark (map f (drop (i + 1) xs)))
    behind_step xs i x h e = ap (λ ys. each_behind mark (map f ys)) (drop_at xs i x h e)

    pub behind_none : (xs : List A) (i : ℕ) → length xs ≤ i → each_behind mark (map f (drop i xs)) ≡ []
    behind_none xs i h = ap (λ ys. each_behind mark (map f ys)) (drop_none xs i h)

    -- before the element was taken; `d` stands for one past the end
    pub behind_here : (xs : List A) (i : ℕ) (d : A) → i < length xs
        → each_behind mark (map f (drop i xs)) ≡ mark ++ (f (get_or xs i d) ++ each_behind mark (map f (drop (suc i) xs)))
    behind_here xs i d h = ap (λ ys. each_behind mark (map f ys)) (drop-cons xs i d h)
