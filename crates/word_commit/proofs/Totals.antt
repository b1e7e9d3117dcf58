-- Sums over lists, after one element changed.
use Rattle.std.proofs.Common.{◌≡◌, ◌≢◌, ℕ, zero, suc, ◌+◌, ◌≤◌, List, [], ◌∷◌, ◌++◌, set, refl, sym, ap, arith}
use mathlib.Core.Option.{some, some-ne-none, some-injective}
use lib.ListN.{get_elem?}
use Rattle.word_commit.specs.Kept.{total}

module _ {V : Type 0} (f : V → ℕ) where
  pub total_set : (vs : List V) (id : ℕ) (v w : V) → get_elem? vs id ≡ some v → total f (set vs id w) + f v ≡ total f vs + f w
  total_set [] id v w e = absurd (some-ne-none v (sym e))
  total_set (x ∷ xs) zero v w e = let h : f x ≡ f v = ap f (some-injective x v e) in omega arith
  total_set (x ∷ xs) (suc id) v w e = let h = total_set xs id v w e in omega arith

  pub total_same : (vs : List V) (id : ℕ) (v w : V) → get_elem? vs id ≡ some v → f w ≡ f v → total f (set vs id w) ≡ total f vs
  total_same vs id v w at e = let t = total_set vs id v w at in omega arith

  pub total_snoc : (vs : List V) (v : V) → total f (vs ++ v ∷ []) ≡ total f vs + f v
  total_snoc [] v = omega arith
  total_snoc (x ∷ xs) v = let h = total_snoc xs v in omega arith

  total_none : (ws : List V) → ((j : ℕ) (u : V) → get_elem? ws j ≡ some u → f u ≡ 0) → total f ws ≡ 0
  total_none [] h = refl
  total_none (w ∷ ws) h = let a : f w ≡ 0 = h 0 w refl in let b = total_none ws (λ j u d. h (suc j) u d) in omega arith

  -- all the others are 0
  pub total_alone : (vs : List V) (id : ℕ) (v : V) → get_elem? vs id ≡ some v
      → ((j : ℕ) (u : V) → j ≢ id → get_elem? vs j ≡ some u → f u ≡ 0) → total f vs ≡ f v
  total_alone [] id v e none_else = absurd (some-ne-none v (sym e))
  total_alone (x ∷ xs) zero v e none_else = let h : f x ≡ f v = ap f (some-injective x v e) in let z = total_none xs
      (λ j u d. none_else (suc j) u (λ k. omega arith) d) in omega arith
  total_alone (x ∷ xs) (suc id) v e none_else = let z : f x ≡ 0 = none_else 0 x (λ k. omega arith) refl in
      let h = total_alone xs id v e (λ j u ne d. none_else (suc j) u (λ k. ne (omega arith)) d) in omega arith

  pub total_part : (vs : List V) (id : ℕ) (v : V) → get_elem? vs id ≡ some v → f v ≤ total f vs
  total_part [] id v e = absurd (some-ne-none v (sym e))
  total_part (x ∷ xs) zero v e = let h : f x ≡ f v = ap f (some-injective x v e) in omega arith
  total_part (x ∷ xs) (suc id) v e = let h = total_part xs id v e in omega arith

  pub total_two : (vs : List V) (i j : ℕ) (v u : V) → j ≢ i → get_elem? vs i ≡ some v → get_elem? vs j ≡ some u → f v + f u ≤ total f vs
  total_two [] i j v u n e d = absurd (some-ne-none v (sym e))
  total_two (x ∷ xs) zero zero v u n e d = absurd (n refl)
  total_two (x ∷ xs) zero (suc j) v u n e d = let h : f x ≡ f v = ap f (some-injective x v e) in let k = total_part xs j u d in
      omega arith
  total_two (x ∷ xs) (suc i) zero v u n e d = let h : f x ≡ f u = ap f (some-injective x u d) in let k = total_part xs i v e in
      omega arith
  total_two (x ∷ xs) (suc i) (suc j) v u n e d = let h = total_two xs i j v u (λ q. n (ap suc q)) e d in omega arith
