-- Expressions and tests have an answer, where bindings have no cycle.
use Rattle.std.proofs.Common.{ℕ, zero, suc, ◌+◌, ◌<◌, ◌≤◌, Bool, List, [], ◌∷◌, ◌++◌, Option, Some, refl, arith}
use Rattle.std.specs.Prelude.{ℤ, option_map}
use Rattle.fcp_model.specs.declared.term.CompareOp.{CompareOp}
use Rattle.fcp_model.specs.Places.{Variable, own}
use Rattle.fcp_model.specs.Terms.{Bindings}
use Rattle.fcp_model.specs.Value.{Look, writable, read_only, solid, value, look_reads}
use Rattle.fcp_model.specs.Pair.{Pair, Step, nothing, binds, clashes, waits, parts, alike, both_looks}
use Rattle.fcp_model.specs.Expressions.{Expr, leaf, op, Evaluated, gives, bad, unready, both_values, value_of_leaf, apply, eval}
use Rattle.fcp_model.specs.Tests.{Test, always, otherwise, kind, same, not_same, ordered, Tested, holds, fails, pauses, test_kind, test_order, same_step, same_pair, same_on, equal_on, is_equal, opposed, test, rename_test}
use Rattle.fcp_model.specs.Trials.{test_on, tests}
use Rattle.fcp_model.specs.Ranks.{Ranked}
use Rattle.decision_laws.proofs.Settling.{Any, Settles, at_once, and_then, one_step}
use Rattle.decision_laws.proofs.Sizes.{size, size_positive, weight, weight-append, alike_weight}
use Rattle.decision_laws.proofs.Pairs.{IsLighter, part_lighter, same_lighter}
use Rattle.decision_laws.proofs.Values.{IsWithin, value_settles}

both_evaluated : (f : ℤ → ℤ → Evaluated) (a b : Evaluated) → Settles Any (λ n. both_values f (Some a) (Some b))
both_evaluated f (gives y) (gives z) = at_once Any _ tt
both_evaluated f (gives y) bad = at_once Any _ tt
both_evaluated f (gives y) (unready rs) = at_once Any _ tt
both_evaluated f bad b = at_once Any _ tt
both_evaluated f (unready rs) b = at_once Any _ tt

both_ordered : (o : CompareOp) (a b : Evaluated) → Settles Any (λ n. test_order o (Some a) (Some b))
both_ordered o (gives y) (gives z) = at_once Any _ tt
both_ordered o (gives y) bad = at_once Any _ tt
both_ordered o (gives y) (unready rs) = at_once Any _ tt
both_ordered o bad b = at_once Any _ tt
both_ordered o (unready rs) b = at_once Any _ tt

same_step_lighter : (s : Bindings) (i j : ℕ) (l m : Look) → 0 < i + j → IsWithin s i l → IsWithin s j m
    → IsLighter s (i + j) (same_step l m)
same_step_lighter s i j (solid t) (solid u) z f g =
    part_lighter s (i + j) (alike t u) z (λ ps e. omega (arith, alike_weight s t u ps e, f, g))
same_step_lighter s i j (solid t) (writable q) z f g = tt
same_step_lighter s i j (solid t) (read_only q) z f g = tt
same_step_lighter s i j (writable p) (solid u) z f g = tt
same_step_lighter s i j (read_only p) (solid u) z f g = tt
same_step_lighter s i j (writable p) (writable q) z f g = same_lighter s (i + j) p q z
same_step_lighter s i j (writable p) (read_only q) z f g = same_lighter s (i + j) p q z
same_step_lighter s i j (read_only p) (writable q) z f g = same_lighter s (i + j) p q z
same_step_lighter s i j (read_only p) (read_only q) z f g = same_lighter s (i + j) p q z

-- a step of `==`, by the values of its first pair
abbrev after_looks : Bindings → List Variable → List Pair → ℕ → Option Look → Option Look → Option Tested
after_looks s rs ps n o o' = equal_on (is_equal n s) rs ps (both_looks same_pair o o')

module _ (s : Bindings) (r : Ranked s) where
  -- each expression has a value
  pub eval_settles : (x : Expr Variable) → Settles Any (λ n. eval n s x)
  eval_settles (leaf t) =
      and_then (IsWithin s (size s t)) Any (λ n. value n s t) (λ n o. option_map value_of_leaf o) (value_settles s r t) (at_once Any _ tt)
  eval_settles (op o a b) =
      let x = eval_settles a in
      let y = eval_settles b in
      and_then Any Any (λ n. eval n s a) (λ n v. both_values (apply o) v (eval n s b)) x
      (and_then Any Any (λ n. eval n s b) (λ n w. both_values (apply o) (Some x.answer) w) y (both_evaluated (apply o) x.answer y.answer))

  -- `==` ends, since each pair makes those that are left lighter
  equal_settles : (k : ℕ) (rs : List Variable) (ps : List Pair) → weight s ps ≤ k → Settles Any (λ n. is_equal n s rs ps)
  equal_settles k rs [] l = one_step Any (λ n. is_equal n s rs []) (λ n. Some (holds rs)) (λ n. refl) (at_once Any _ tt)
  equal_settles zero rs (ab ∷ ps) l = absurd (omega (arith, size_positive s ab.0))
  equal_settles (suc k) rs (ab ∷ ps) l =
      let v = value_settles s r ab.0 in
      let w = value_settles s r ab.1 in
      one_step Any (λ n. is_equal n s rs (ab ∷ ps)) (λ n. after_looks s rs ps n (value n s ab.0) (value n s ab.1)) (λ n. refl)
      (and_then (IsWithin s (size s ab.0)) Any (λ n. value n s ab.0) (λ n o. after_looks s rs ps n o (value n s ab.1)) v
      (and_then (IsWithin s (size s ab.1)) Any (λ n. value n s ab.1) (λ n o. after_looks s rs ps n (Some v.answer) o) w
      (go (rs ++ (look_reads v.answer ++ look_reads w.answer)) (same_step v.answer w.answer)
      (same_step_lighter s (size s ab.0) (size s ab.1) v.answer w.answer (omega (arith, size_positive s ab.0)) v.holds w.holds)
      (λ qs ps' m. equal_settles k qs ps' m))))
    where
      go : (qs : List Variable) (st : Step) → IsLighter s (size s ab.0 + size s ab.1) st
          → ((qs' : List Variable) (ps' : List Pair) → weight s ps' ≤ k → Settles Any (λ n. is_equal n s qs' ps'))
          → Settles Any (λ n. same_on (is_equal n s) qs ps st)
      go qs nothing h rec = rec qs ps (omega (arith, h))
      go qs (parts ts) h rec = rec qs (ts ++ ps) (omega (arith, h, weight-append s ts ps))
      go qs (binds p t) h rec = at_once Any _ tt
      go qs clashes h rec = at_once Any _ tt
      go qs waits h rec = at_once Any _ tt

  -- each test has an answer
  pub test_settles : (behind : Bool) (t : Test Variable) → Settles Any (λ n. test n s behind t)
  test_settles behind always = at_once Any _ tt
  test_settles behind otherwise = at_once Any _ tt
  test_settles behind (kind k t) =
      and_then (IsWithin s (size s t)) Any (λ n. value n s t) (λ n o. option_map (test_kind k) o) (value_settles s r t) (at_once Any _ tt)
  test_settles behind (same t u) = equal_settles (weight s ((t, u) ∷ [])) [] ((t, u) ∷ []) (omega arith)
  test_settles behind (not_same t u) =
      and_then Any Any (λ n. is_equal n s [] ((t, u) ∷ [])) (λ n o. option_map opposed o)
      (equal_settles (weight s ((t, u) ∷ [])) [] ((t, u) ∷ []) (omega arith)) (at_once Any _ tt)
  test_settles behind (ordered o a b) =
      let x = eval_settles a in
      let y = eval_settles b in
      and_then Any Any (λ n. eval n s a) (λ n v. test_order o v (eval n s b)) x
      (and_then Any Any (λ n. eval n s b) (λ n w. test_order o (Some x.answer) w) y (both_ordered o x.answer y.answer))

-- a guard has an answer under the bindings of a head
pub tests_settle : (s bs : Bindings) → Ranked (s ++ bs) → (behind : Bool) (rs : List Variable) (ts : List (Test ℕ))
    → Settles Any (λ n. tests n s bs behind rs ts)
tests_settle s bs r behind rs [] = at_once Any _ tt
tests_settle s bs r behind rs (t ∷ ts) =
    let x = test_settles (s ++ bs) r behind (rename_test own t) in
    and_then Any Any (λ n. test n (s ++ bs) behind (rename_test own t)) (λ n o. test_on (λ qs. tests n s bs behind qs ts) rs o) x
    (go x.answer (λ qs. tests_settle s bs r behind qs ts))
  where
    go : (x : Tested) → ((qs : List Variable) → Settles Any (λ n. tests n s bs behind qs ts))
        → Settles Any (λ n. test_on (λ qs. tests n s bs behind qs ts) rs (Some x))
    go (holds qs) rec = rec (rs ++ qs)
    go (fails qs) rec = at_once Any _ tt
    go (pauses qs) rec = at_once Any _ tt
