-- Following variables ends: as many steps as variables are bound are enough.
use Rattle.std.proofs.Common.{◌≡◌, ℕ, suc, ◌+◌, ◌<◌, ◌≤◌, Bool, true, false, cond, [], ◌∷◌, length, Some, refl, ap, arith}
use Rattle.std.specs.Prelude.{nat_lt, IsSome}
use Rattle.std.proofs.lemmas.Bool.Decides.{nat_tests}
use Rattle.fcp_model.specs.Places.{Variable, is_same}
use Rattle.fcp_model.specs.Terms.{Term, Bindings, find}
use Rattle.fcp_model.specs.Ranks.{Mentions, Ranked}
use Rattle.fcp_model.proofs.Finding.{is_same-true}

-- how many bound variables have a rank below k
abbrev pub below : (Variable → ℕ) → ℕ → Bindings → ℕ
below f k [] = 0
below f k (b ∷ bs) = cond (nat_lt (f b.0) k) 1 0 + below f k bs

one_at_most : (a k m : ℕ) → k ≤ m → cond (nat_lt a k) 1 0 ≤ cond (nat_lt a m) 1 0
one_at_most a k m h = grind (arith, nat_tests)

below_le : (f : Variable → ℕ) (k m : ℕ) (s : Bindings) → k ≤ m → below f k s ≤ below f m s
below_le f k m [] h = omega arith
below_le f k m (b ∷ bs) h = omega (arith, one_at_most (f b.0) k m h, below_le f k m bs h)

one_more : (a k m : ℕ) → a ≡ k → k < m → cond (nat_lt a k) 1 0 + 1 ≤ cond (nat_lt a m) 1 0
one_more a k m e h = grind (arith, nat_tests)

-- a bound variable is not below its own rank
below_less_at : (f : Variable → ℕ) (q : Variable) (m : ℕ) (b : Variable × Term Variable) (bs : Bindings) → f q < m → (IsSome (find bs q) → below f (f q) bs < below f m bs) → (c : Bool) → is_same b.0 q ≡ c → IsSome (cond c (Some b.1) (find bs q)) → below f (f q) (b ∷ bs) < below f m (b ∷ bs)
below_less_at f q m b bs h later true e i = omega (arith, one_more (f b.0) (f q) m (ap f (is_same-true b.0 q e)) h, below_le f (f q) m bs (omega arith))
below_less_at f q m b bs h later false e i = omega (arith, one_at_most (f b.0) (f q) m (omega arith), later i)

pub below_less : (f : Variable → ℕ) (q : Variable) (m : ℕ) (s : Bindings) → IsSome (find s q) → f q < m → below f (f q) s < below f m s
below_less f q m [] is h = cc
below_less f q m (b ∷ bs) is h = below_less_at f q m b bs h (λ i. below_less f q m bs i h) (is_same b.0 q) refl is

below-length : (f : Variable → ℕ) (k : ℕ) (s : Bindings) → below f k s ≤ length s
below-length f k [] = omega arith
below-length f k (b ∷ bs) = let o : cond (nat_lt (f b.0) k) 1 0 ≤ 1 = grind (arith, nat_tests) in omega (arith, below-length f k bs)

-- the number of steps that are enough for p
abbrev pub IsEnough : (s : Bindings) → (Variable → ℕ) → ℕ → Variable → Type 0
IsEnough s f n p = IsSome (find s p) → below f (f p) s < n

-- a variable in the term of a variable wants fewer
pub fewer : (s : Bindings) (r : Ranked s) (n : ℕ) (p q : Variable) (t : Term Variable) → IsEnough s r.rank (suc n) p → find s p ≡ Some t → Mentions q t → IsEnough s r.rank n q
fewer s r n p q t enough at in_t bound =
    let is : IsSome (find s p) = rw at refl in
    omega (arith, below_less r.rank q (r.rank p) s bound (r.falls p q t at in_t), enough is)

pub all_enough : (s : Bindings) (r : Ranked s) (p : Variable) → IsEnough s r.rank (length s) p
all_enough s r p bound = omega (arith, below_less r.rank p (suc (r.rank p)) s bound (omega arith), below-length r.rank (suc (r.rank p)) s)
