-- The size of a term when its variables are followed, and that the parts of two terms are smaller than the terms.
use Rattle.std.proofs.Common.{◌≡◌, ℕ, zero, suc, ◌+◌, ◌<◌, ◌≤◌, Bool, true, false, cond, List, [], ◌∷◌, ◌++◌, length, Option, Some, None, refl, sym, ap, ◌∙◌, subst, arith, inl, inr}
use Rattle.std.specs.Prelude.{IsSome, nat_eq}
use Rattle.std.specs.Ordering.{int_eq}
use Rattle.fcp_model.specs.Places.{Variable, own}
use Rattle.fcp_model.specs.Terms.{Term, number, string, nil, cons, tuple, var, ro, first, Terms, none, more, Bindings, find}
use Rattle.fcp_model.specs.Pair.{Pair, both_parts, alike}
use Rattle.fcp_model.specs.Ranks.{Mentions, MentionsOne, Ranked}
use Rattle.fcp_model.proofs.Rank.{IsEnough, fewer, all_enough}

-- the number of nodes of a term whose variables weigh f
abbrev mutual
  pub weigh : (Variable → ℕ) → Term Variable → ℕ
  weigh f (number z) = 1
  weigh f (string z) = 1
  weigh f nil = 1
  weigh f (cons a b) = 1 + (weigh f a + weigh f b)
  weigh f (tuple ts) = 1 + weighs f ts
  weigh f (var p) = f p
  weigh f (ro p) = f p
  weigh f (first k) = f (own k)

  pub weighs : (Variable → ℕ) → Terms Variable → ℕ
  weighs f none = 0
  weighs f (more t ts) = weigh f t + weighs f ts

-- a variable weighs one more than its term
abbrev pub size_on : (Term Variable → ℕ) → Option (Term Variable) → ℕ
size_on go None = 1
size_on go (Some t) = 1 + go t

abbrev pub leaf_size : ℕ → Bindings → Variable → ℕ
leaf_size zero s q = 1
leaf_size (suc n) s q = size_on (weigh (leaf_size n s)) (find s q)

-- the size of a term whose variables are followed
abbrev pub size : Bindings → Term Variable → ℕ
size s t = weigh (leaf_size (length s) s) t

mutual
  weigh_same : (f g : Variable → ℕ) (t : Term Variable) → ((q : Variable) → Mentions q t → f q ≡ g q) → weigh f t ≡ weigh g t
  weigh_same f g (number z) h = refl
  weigh_same f g (string z) h = refl
  weigh_same f g nil h = refl
  weigh_same f g (cons a b) h =
      ap (λ x. 1 + (x + weigh f b)) (weigh_same f g a (λ q i. h q (inl i)))
      ∙ ap (λ x. 1 + (weigh g a + x)) (weigh_same f g b (λ q i. h q (inr i)))
  weigh_same f g (tuple ts) h = ap (λ x. 1 + x) (weighs_same f g ts h)
  weigh_same f g (var p) h = h p refl
  weigh_same f g (ro p) h = h p refl
  weigh_same f g (first k) h = h (own k) refl

  weighs_same : (f g : Variable → ℕ) (ts : Terms Variable) → ((q : Variable) → MentionsOne q ts → f q ≡ g q) → weighs f ts ≡ weighs g ts
  weighs_same f g none h = refl
  weighs_same f g (more t ts) h =
      ap (λ x. x + weighs f ts) (weigh_same f g t (λ q i. h q (inl i)))
      ∙ ap (λ x. weigh g t + x) (weighs_same f g ts (λ q i. h q (inr i)))

size_steady : (s : Bindings) (r : Ranked s) (n : ℕ) (q : Variable) → IsEnough s r.rank n q → leaf_size (suc n) s q ≡ leaf_size n s q
size_steady s r zero q enough = go (find s q) refl
  where
    go : (o : Option (Term Variable)) → find s q ≡ o → size_on (weigh (leaf_size 0 s)) o ≡ 1
    go None e = refl
    go (Some t) e = absurd (let is : IsSome (find s q) = rw e refl in omega (arith, enough is))
size_steady s r (suc n) q enough =
    go (λ q' t at in_t. size_steady s r n q' (fewer s r n q q' t enough at in_t)) (find s q) refl
  where
    go : ((q' : Variable) (t : Term Variable) → find s q ≡ Some t → Mentions q' t → leaf_size (suc n) s q' ≡ leaf_size n s q')
        → (o : Option (Term Variable)) → find s q ≡ o → size_on (weigh (leaf_size (suc n) s)) o ≡ size_on (weigh (leaf_size n s)) o
    go h None e = refl
    go h (Some t) e = ap (λ x. 1 + x) (weigh_same _ _ t (λ q' i. h q' t e i))

-- a bound variable is one larger than its term
pub size_bound : (s : Bindings) (r : Ranked s) (p : Variable) (t : Term Variable) → find s p ≡ Some t
    → leaf_size (length s) s p ≡ 1 + size s t
size_bound s r p t e = sym (size_steady s r (length s) p (all_enough s r p)) ∙ ap (size_on (size s)) e

leaf_positive : (n : ℕ) (s : Bindings) (q : Variable) → 0 < leaf_size n s q
leaf_positive zero s q = omega arith
leaf_positive (suc n) s q = go (find s q)
  where
    go : (o : Option (Term Variable)) → 0 < size_on (weigh (leaf_size n s)) o
    go None = omega arith
    go (Some t) = omega arith

pub size_positive : (s : Bindings) (t : Term Variable) → 0 < size s t
size_positive s (number z) = omega arith
size_positive s (string z) = omega arith
size_positive s nil = omega arith
size_positive s (cons a b) = omega arith
size_positive s (tuple ts) = omega arith
size_positive s (var q) = leaf_positive (length s) s q
size_positive s (ro q) = leaf_positive (length s) s q
size_positive s (first k) = leaf_positive (length s) s (own k)

-- the size of all terms of some pairs
abbrev pub weight : Bindings → List Pair → ℕ
weight s [] = 0
weight s (ab ∷ ps) = size s ab.0 + size s ab.1 + weight s ps

pub weight-append : (s : Bindings) (ps qs : List Pair) → weight s (ps ++ qs) ≡ weight s ps + weight s qs
weight-append s [] qs = omega arith
weight-append s (ab ∷ ps) qs = omega (arith, weight-append s ps qs)

-- one pair more
abbrev with_pair : Pair → Option (List Pair) → Option (List Pair)
with_pair ab o = elim o [ None ↦ None | Some ps ↦ Some (ab ∷ ps) ]

module _ (s : Bindings) where
  abbrev all_sizes : Terms Variable → ℕ
  all_sizes ts = weighs (leaf_size (length s) s) ts

  both_weight : (ts us : Terms Variable) (ps : List Pair) → both_parts ts us ≡ Some ps → weight s ps ≤ all_sizes ts + all_sizes us
  both_weight none none ps e = let same : [] ≡ ps = cc in subst (λ x. weight s x ≤ 0) same (omega arith)
  both_weight none (more u us) ps e = cc
  both_weight (more t ts) none ps e = cc
  both_weight (more t ts) (more u us) ps e = go (λ qs h. both_weight ts us qs h) (both_parts ts us) refl e
    where
      go : ((qs : List Pair) → both_parts ts us ≡ Some qs → weight s qs ≤ all_sizes ts + all_sizes us) → (o : Option (List Pair))
          → both_parts ts us ≡ o
          → with_pair (t, u) o ≡ Some ps → weight s ps ≤ all_sizes (more t ts) + all_sizes (more u us)
      go rec None h e = cc
      go rec (Some qs) h e =
          let same : (t, u) ∷ qs ≡ ps = cc in
          subst (λ x. weight s x ≤ all_sizes (more t ts) + all_sizes (more u us)) same (omega (arith, rec qs h))

  -- the pairs of the parts of two terms weigh less than the two
  pub alike_weight : (t u : Term Variable) (ps : List Pair) → alike t u ≡ Some ps → weight s ps < size s t + size s u
  alike_weight (number y) (number z) ps e = go (int_eq y z) e
    where
      go : (c : Bool) → cond c (Some []) None ≡ Some ps → weight s ps < 2
      go true h = let same : [] ≡ ps = cc in subst (λ x. weight s x < 2) same (omega arith)
      go false h = cc
  alike_weight (string y) (string z) ps e = go (nat_eq y z) e
    where
      go : (c : Bool) → cond c (Some []) None ≡ Some ps → weight s ps < 2
      go true h = let same : [] ≡ ps = cc in subst (λ x. weight s x < 2) same (omega arith)
      go false h = cc
  alike_weight nil nil ps e = let same : [] ≡ ps = cc in subst (λ x. weight s x < 2) same (omega arith)
  alike_weight (cons a b) (cons c d) ps e =
      let same : (a, c) ∷ (b, d) ∷ [] ≡ ps = cc in
      subst (λ x. weight s x < size s (cons a b) + size s (cons c d)) same (omega arith)
  alike_weight (tuple ts) (tuple us) ps e = omega (arith, both_weight ts us ps e)
  alike_weight _ _ ps e = cc
