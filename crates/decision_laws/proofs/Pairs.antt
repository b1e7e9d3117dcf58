-- Each pair of terms comes to a step, and the pairs that it leaves are lighter.
use Rattle.std.proofs.Common.{◌≡◌, ℕ, ◌+◌, ◌<◌, Bool, true, false, cond, List, [], ◌∷◌, Option, Some, None, refl, arith}
use Rattle.fcp_model.specs.Places.{Variable, is_same, is_older}
use Rattle.fcp_model.specs.Terms.{Term, var, ro, Bindings}
use Rattle.fcp_model.specs.Value.{Look, writable, read_only, solid, value}
use Rattle.fcp_model.specs.Occurs.{Found, hit, miss, occurs}
use Rattle.fcp_model.specs.Pair.{Pair, Step, nothing, binds, clashes, waits, parts, alike, part_step, Treated, bind_solid, table, both_looks, first_of, pair_on, pair}
use Rattle.fcp_model.specs.Ranks.{Ranked}
use Rattle.decision_laws.proofs.Settling.{Any, Settles, at_once, and_then}
use Rattle.decision_laws.proofs.Sizes.{size, size_positive, weight, alike_weight}
use Rattle.decision_laws.proofs.Values.{IsWithin, value_settles, occurs_settles}

-- the pairs that a step leaves in place of one weigh less than n
abbrev pub IsLighter : Bindings → ℕ → Step → Type 0
IsLighter s n nothing = 0 < n
IsLighter s n (parts qs) = weight s qs < n
IsLighter s n (binds p t) = Unit {0}
IsLighter s n clashes = Unit {0}
IsLighter s n waits = Unit {0}

pub part_lighter : (s : Bindings) (n : ℕ) (o : Option (List Pair)) → 0 < n → ((ps : List Pair) → o ≡ Some ps → weight s ps < n)
    → IsLighter s n (part_step o)
part_lighter s n None z h = tt
part_lighter s n (Some []) z h = z
part_lighter s n (Some (p ∷ ps)) z h = h (p ∷ ps) refl

pub same_lighter : (s : Bindings) (n : ℕ) (p q : Variable) → 0 < n → IsLighter s n (cond (is_same p q) nothing waits)
same_lighter s n p q z = go (is_same p q)
  where
    go : (c : Bool) → IsLighter s n (cond c nothing waits)
    go true = z
    go false = tt

-- from some number of steps on a pair comes to one step, which leaves lighter pairs
abbrev pub Treats : Bindings → ℕ → (ℕ → Option Treated) → Type 0
Treats s n f = Settles (λ x. IsLighter s n x.step) f

module _ (s : Bindings) (r : Ranked s) where
  occurs_then : (n : ℕ) (p : Variable) (t : Term Variable) → Treats s n (λ k. bind_solid p t (occurs k s p t))
  occurs_then n p t =
      let o = occurs_settles s r p t in
      and_then Any (λ x. IsLighter s n x.step) (λ k. occurs k s p t) (λ k. bind_solid p t) o (go o.answer)
    where
      go : (f : Found) → Treats s n (λ k. bind_solid p t (Some f))
      go (hit rs) = at_once _ _ tt
      go (miss rs) = at_once _ _ tt

  table_settles : (i j : ℕ) (l m : Look) → 0 < i + j → IsWithin s i l → IsWithin s j m → Treats s (i + j) (λ n. table n s l m)
  table_settles i j (solid t) (solid u) z f g =
      at_once _ _ (part_lighter s (i + j) (alike t u) z (λ ps e. omega (arith, alike_weight s t u ps e, f, g)))
  table_settles i j (solid t) (writable q) z f g = occurs_then (i + j) q t
  table_settles i j (solid t) (read_only q) z f g = at_once _ _ tt
  table_settles i j (writable p) (solid u) z f g = occurs_then (i + j) p u
  table_settles i j (read_only p) (solid u) z f g = at_once _ _ tt
  table_settles i j (writable p) (writable q) z f g = at_once _ _ (go (is_same p q) (is_older p q))
    where
      go : (c d : Bool) → IsLighter s (i + j) (cond c nothing (cond d (binds q (var p)) (binds p (var q))))
      go true d = z
      go false true = tt
      go false false = tt
  table_settles i j (writable p) (read_only q) z f g = at_once _ _ (go (is_same p q))
    where
      go : (c : Bool) → IsLighter s (i + j) (cond c nothing (binds p (ro q)))
      go true = z
      go false = tt
  table_settles i j (read_only p) (writable q) z f g = at_once _ _ (go (is_same p q))
    where
      go : (c : Bool) → IsLighter s (i + j) (cond c nothing (binds q (ro p)))
      go true = z
      go false = tt
  table_settles i j (read_only p) (read_only q) z f g = at_once _ _ (same_lighter s (i + j) p q z)

  -- each pair comes to a step
  pub pair_settles : (a b : Term Variable) → Treats s (size s a + size s b) (λ n. pair n s a b)
  pair_settles a b = go (first_of b)
    where
      by_value : Treats s (size s a + size s b) (λ n. both_looks (table n s) (value n s a) (value n s b))
      by_value =
          let v = value_settles s r a in
          let w = value_settles s r b in
          and_then (IsWithin s (size s a)) _ (λ n. value n s a) (λ n x. both_looks (table n s) x (value n s b)) v
          (and_then (IsWithin s (size s b)) _ (λ n. value n s b) (λ n x. both_looks (table n s) (Some v.answer) x) w
          (table_settles (size s a) (size s b) v.answer w.answer (omega (arith, size_positive s a)) v.holds w.holds))

      go : (o : Option ℕ) → Treats s (size s a + size s b) (λ n. pair_on n s a b o)
      go None = by_value
      go (Some k) = at_once _ _ tt
