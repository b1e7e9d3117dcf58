-- What is read for a decision is unbound, and has each property of the variables of the goal and of the bindings.
use Rattle.std.proofs.Common.{ℕ, zero, suc, Bool, true, false, cond, List, [], ◌∷◌, ◌++◌, length, Option, Some, None, append-nil}
use Rattle.std.specs.Prelude.{ℤ, pos, negsuc, option_map, int_le, int_div, int_rem, ◌&&◌, ◌+ℤ◌, ◌-ℤ◌, ◌*ℤ◌}
use Rattle.std.specs.Ordering.{int_eq}
use Rattle.fcp_model.specs.declared.term.ArithOp.{ArithOp}
use Rattle.fcp_model.specs.declared.term.ArithOp.TheVariants.{Add, Sub, Mul, Div, Mod}
use Rattle.fcp_model.specs.declared.term.CompareOp.{CompareOp}
use Rattle.fcp_model.specs.Places.{Variable, own, is_same}
use Rattle.fcp_model.specs.Terms.{Term, number, string, nil, cons, tuple, var, ro, first, Terms, none, more, rename, renames, Bindings}
use Rattle.fcp_model.specs.Value.{Look, writable, read_only, solid, value}
use Rattle.fcp_model.specs.Pair.{Pair, Step, nothing, binds, clashes, waits, parts, Treated}
use Rattle.fcp_model.specs.HeadPairs.{mark, head_pairs}
use Rattle.fcp_model.specs.Unification.{Ended, done, clash, wait, unify}
use Rattle.fcp_model.specs.Expressions.{Expr, leaf, op, rename_expr, Evaluated, gives, bad, unready, value_of_leaf, checked, divided, apply, both_values, eval}
use Rattle.fcp_model.specs.Tests.{Kind, Test, always, otherwise, kind, same, not_same, ordered, rename_test, Tested, holds, fails, pauses, decided, is_kind, kind_open, test_kind, order_of, test_order, same_pair, same_on, equal_on, is_equal, opposed, test}
use Rattle.fcp_model.specs.Programs.{Goal, user, true', unifies, assigns, Clause, Program, clauses_of}
use Rattle.fcp_model.specs.Trials.{Tried, succeeds, try_fails, try_waits, test_on, tests, guard_on, attempt}
use Rattle.fcp_model.specs.Decisions.{Decision, choose_on, choose, built_in, assign_on, decide, Decides}
use Rattle.fcp_model.specs.Reads.{reads_of}
use Rattle.state_laws.proofs.ReadVariables.{Every, every_both, eval_reads, tested_reads, tried_reads, Gives, given}
use Rattle.state_laws.proofs.ReadPairs.{Within, PartsWithin, PairsWithin, BoundWithin, MayRead, LookWithin, StepWithin, TreatedWithin, compare_within, pairs_append, value_within, both_looks_within, read_below, EndWithin, unify_within}

-- each variable of an expression, of terms and of a goal has the property
abbrev pub ExprWithin : (Variable → Type 0) → Expr Variable → Type 0
ExprWithin P (leaf t) = Within P t
ExprWithin P (op o a b) = ExprWithin P a × ExprWithin P b

abbrev pub AllWithin : (Variable → Type 0) → List (Term Variable) → Type 0
AllWithin P [] = Unit {0}
AllWithin P (t ∷ ts) = Within P t × AllWithin P ts

abbrev pub GoalWithin : (Variable → Type 0) → Goal Variable → Type 0
GoalWithin P (user p ts) = AllWithin P ts
GoalWithin P true' = Unit {0}
GoalWithin P (unifies t u) = Within P t × Within P u
GoalWithin P (assigns t e) = Within P t × ExprWithin P e

-- the variables of a clause that is tried
module _ (P : Variable → Type 0) (own_has : (k : ℕ) → P (own k)) where
  mutual
    own_within : (t : Term ℕ) → Within P (rename own t)
    own_within (number z) = tt
    own_within (string z) = tt
    own_within nil = tt
    own_within (cons a b) = (own_within a, own_within b)
    own_within (tuple ts) = own_parts ts
    own_within (var k) = own_has k
    own_within (ro k) = own_has k
    own_within (first k) = own_has k

    own_parts : (ts : Terms ℕ) → PartsWithin P (renames own ts)
    own_parts none = tt
    own_parts (more t ts) = (own_within t, own_parts ts)

  own_expr : (e : Expr ℕ) → ExprWithin P (rename_expr own e)
  own_expr (leaf t) = own_within t
  own_expr (op o a b) = (own_expr a, own_expr b)

  heads_within : (met : ℕ) (ts : List (Term Variable)) (us : List (Term ℕ)) → AllWithin P ts → PairsWithin P (head_pairs met ts us)
  heads_within met [] us h = tt
  heads_within met (t ∷ ts) [] h = tt
  heads_within met (t ∷ ts) (u ∷ us) h = ((h.0, own_within (mark met u).item), heads_within (mark met u).met ts us h.1)

-- expressions and tests, over one map
module _ (P : Variable → Type 0) (w : Bindings) where
  abbrev EvalWithin : Evaluated → Type 0
  EvalWithin v = Every (MayRead P w) (eval_reads v)

  abbrev TestWithin : Tested → Type 0
  TestWithin t = Every (MayRead P w) (tested_reads t)

module _ (P : Variable → Type 0) (w : Bindings) (bound : BoundWithin P w) where
  leaf_value : (l : Look) → LookWithin P w l → EvalWithin P w (value_of_leaf l)
  leaf_value (writable p) h = (h, tt)
  leaf_value (read_only p) h = (h, tt)
  leaf_value (solid (number z)) h = tt
  leaf_value (solid (string z)) h = tt
  leaf_value (solid nil) h = tt
  leaf_value (solid (cons a b)) h = tt
  leaf_value (solid (tuple ts)) h = tt
  leaf_value (solid (var q)) h = tt
  leaf_value (solid (ro q)) h = tt
  leaf_value (solid (first k)) h = tt

  checked_reads : (z : ℤ) → EvalWithin P w (checked z)
  checked_reads z = go (int_le (negsuc 9223372036854775807) z && int_le z (pos 9223372036854775807))
    where
      go : (c : Bool) → EvalWithin P w (cond c (gives z) bad)
      go true = tt
      go false = tt

  divided_reads : (f : ℤ → ℤ → ℤ) (y z : ℤ) → EvalWithin P w (divided f y z)
  divided_reads f y z = go (int_eq z (pos 0))
    where
      go : (c : Bool) → EvalWithin P w (cond c bad (checked (f y z)))
      go true = tt
      go false = checked_reads (f y z)

  applied_reads : (o : ArithOp) (y z : ℤ) → EvalWithin P w (apply o y z)
  applied_reads Add y z = checked_reads (y +ℤ z)
  applied_reads Sub y z = checked_reads (y -ℤ z)
  applied_reads Mul y z = checked_reads (y *ℤ z)
  applied_reads Div y z = divided_reads int_div y z
  applied_reads Mod y z = divided_reads int_rem y z

  both_within : (o : ArithOp) (x y : Option Evaluated) → Gives (EvalWithin P w) x → Gives (EvalWithin P w) y
      → Gives (EvalWithin P w) (both_values (apply o) x y)
  both_within o None y h i = tt
  both_within o (Some (gives z)) None h i = tt
  both_within o (Some (gives z)) (Some (gives z')) h i = applied_reads o z z'
  both_within o (Some (gives z)) (Some bad) h i = tt
  both_within o (Some (gives z)) (Some (unready rs)) h i = i
  both_within o (Some bad) y h i = tt
  both_within o (Some (unready rs)) y h i = h

  eval_within : (n : ℕ) (e : Expr Variable) → ExprWithin P e → Gives (EvalWithin P w) (eval n w e)
  eval_within n (leaf t) h = go (value n w t) (value_within P w bound n t h)
    where
      go : (o : Option Look) → Gives (LookWithin P w) o → Gives (EvalWithin P w) (option_map value_of_leaf o)
      go None i = tt
      go (Some l) i = leaf_value l i
  eval_within n (op o a b) h = both_within o _ _ (eval_within n a h.0) (eval_within n b h.1)

  decided_reads : (c : Bool) → TestWithin P w (decided c)
  decided_reads true = tt
  decided_reads false = tt

  kind_reads : (k : Kind) (p : Variable) → MayRead P w p → TestWithin P w (kind_open k p)
  kind_reads Kind.is_integer p h = (h, tt)
  kind_reads Kind.is_string p h = (h, tt)
  kind_reads Kind.is_constant p h = (h, tt)
  kind_reads Kind.is_list p h = (h, tt)
  kind_reads Kind.is_tuple p h = (h, tt)
  kind_reads Kind.is_known p h = (h, tt)
  kind_reads Kind.is_unknown p h = (h, tt)

  kind_within : (k : Kind) (o : Option Look) → Gives (LookWithin P w) o → Gives (TestWithin P w) (option_map (test_kind k) o)
  kind_within k None h = tt
  kind_within k (Some (writable p)) h = kind_reads k p h
  kind_within k (Some (read_only p)) h = kind_reads k p h
  kind_within k (Some (solid t)) h = decided_reads (is_kind k t)

  order_within : (f : CompareOp) (x y : Option Evaluated) → Gives (EvalWithin P w) x → Gives (EvalWithin P w) y
      → Gives (TestWithin P w) (test_order f x y)
  order_within f None y h i = tt
  order_within f (Some (gives z)) None h i = tt
  order_within f (Some (gives z)) (Some (gives z')) h i = decided_reads (order_of f z z')
  order_within f (Some (gives z)) (Some bad) h i = tt
  order_within f (Some (gives z)) (Some (unready rs)) h i = i
  order_within f (Some bad) y h i = tt
  order_within f (Some (unready rs)) y h i = h

  waits_apart : (c : Bool) → StepWithin P (cond c nothing waits)
  waits_apart true = tt
  waits_apart false = tt

  same_within : (l m : Look) → LookWithin P w l → LookWithin P w m → Gives (TreatedWithin P w) (same_pair l m)
  same_within (solid t) (solid u) h i = (tt, compare_within P t u h i)
  same_within (solid t) (writable q) h i = ((i, tt), tt)
  same_within (solid t) (read_only q) h i = ((i, tt), tt)
  same_within (writable p) (solid u) h i = ((h, tt), tt)
  same_within (writable p) (writable q) h i = ((h, (i, tt)), waits_apart (is_same p q))
  same_within (writable p) (read_only q) h i = ((h, (i, tt)), waits_apart (is_same p q))
  same_within (read_only p) (solid u) h i = ((h, tt), tt)
  same_within (read_only p) (writable q) h i = ((h, (i, tt)), waits_apart (is_same p q))
  same_within (read_only p) (read_only q) h i = ((h, (i, tt)), waits_apart (is_same p q))

  abbrev EqualWithin : (List Variable → List Pair → Option Tested) → Type 0
  EqualWithin next = (rs : List Variable) (ps : List Pair) → Every (MayRead P w) rs → PairsWithin P ps → Gives (TestWithin P w) (next rs ps)

  same_on_within : (next : List Variable → List Pair → Option Tested) → EqualWithin next → (rs : List Variable) (ps : List Pair) (st : Step)
      → Every (MayRead P w) rs → PairsWithin P ps → StepWithin P st → Gives (TestWithin P w) (same_on next rs ps st)
  same_on_within next f rs ps nothing h i j = f rs ps h i
  same_on_within next f rs ps (parts qs) h i j = f rs (qs ++ ps) h (pairs_append P qs ps j i)
  same_on_within next f rs ps clashes h i j = h
  same_on_within next f rs ps waits h i j = h
  same_on_within next f rs ps (binds p t) h i j = h

  equal_on_within : (next : List Variable → List Pair → Option Tested) → EqualWithin next
      → (rs : List Variable) (ps : List Pair) (o : Option Treated) → Every (MayRead P w) rs → PairsWithin P ps → Gives (TreatedWithin P w) o
      → Gives (TestWithin P w) (equal_on next rs ps o)
  equal_on_within next f rs ps None h i j = tt
  equal_on_within next f rs ps (Some t) h i j =
      same_on_within next f (rs ++ t.reads) ps t.step (every_both (MayRead P w) rs t.reads h j.0) i j.1

  equal_within : (n : ℕ) → EqualWithin (is_equal n w)
  equal_within zero rs ps h i = tt
  equal_within (suc n) rs [] h i = h
  equal_within (suc n) rs (ab ∷ ps) h i =
      equal_on_within (is_equal n w) (λ qs us j k. equal_within n qs us j k) rs ps _ h i.1
      (both_looks_within P w bound same_pair same_within n ab.0 ab.1 i.0.0 i.0.1)

  opposed_within : (o : Option Tested) → Gives (TestWithin P w) o → Gives (TestWithin P w) (option_map opposed o)
  opposed_within None h = tt
  opposed_within (Some (holds rs)) h = h
  opposed_within (Some (fails rs)) h = h
  opposed_within (Some (pauses rs)) h = h

  otherwise_within : (behind : Bool) → TestWithin P w (cond behind (holds []) (pauses []))
  otherwise_within true = tt
  otherwise_within false = tt

  -- a test of a clause that is tried
  test_within : (own_has : (k : ℕ) → P (own k)) (n : ℕ) (behind : Bool) (t : Test ℕ)
      → Gives (TestWithin P w) (test n w behind (rename_test own t))
  test_within own_has n behind always = tt
  test_within own_has n behind otherwise = otherwise_within behind
  test_within own_has n behind (kind k t) = kind_within k _ (value_within P w bound n (rename own t) (own_within P own_has t))
  test_within own_has n behind (same t u) = equal_within n [] _ tt ((own_within P own_has t, own_within P own_has u), tt)
  test_within own_has n behind (not_same t u) =
      opposed_within _ (equal_within n [] _ tt ((own_within P own_has t, own_within P own_has u), tt))
  test_within own_has n behind (ordered o a b) =
      order_within o _ _ (eval_within n _ (own_expr P own_has a)) (eval_within n _ (own_expr P own_has b))

-- tries and decisions, over the map of a state
module _ (P : Variable → Type 0) (own_has : (k : ℕ) → P (own k)) (s : Bindings) (bound : BoundWithin P s) where
  abbrev TryWithin : Tried → Type 0
  TryWithin t = Every (MayRead P s) (tried_reads t)

  abbrev DecisionWithin : Decision → Type 0
  DecisionWithin d = Every (MayRead P s) (reads_of d)

  test_on_within : (bs : Bindings) (next : List Variable → Option Tried)
      → ((rs : List Variable) → Every (MayRead P s) rs → Gives TryWithin (next rs)) → (rs : List Variable) (o : Option Tested)
      → Every (MayRead P s) rs → Gives (TestWithin P (s ++ bs)) o → Gives TryWithin (test_on next rs o)
  test_on_within bs next f rs None h i = tt
  test_on_within bs next f rs (Some (holds qs)) h i = f (rs ++ qs) (every_both (MayRead P s) rs qs h (read_below P s bs qs i))
  test_on_within bs next f rs (Some (fails qs)) h i = every_both (MayRead P s) rs qs h (read_below P s bs qs i)
  test_on_within bs next f rs (Some (pauses qs)) h i = every_both (MayRead P s) rs qs h (read_below P s bs qs i)

  tests_within : (n : ℕ) (bs : Bindings) → BoundWithin P (s ++ bs) → (behind : Bool) (rs : List Variable) (ts : List (Test ℕ))
      → Every (MayRead P s) rs → Gives TryWithin (tests n s bs behind rs ts)
  tests_within n bs b behind rs [] h = h
  tests_within n bs b behind rs (t ∷ ts) h =
      test_on_within bs _ (λ qs i. tests_within n bs b behind qs ts i) rs _ h (test_within P (s ++ bs) b own_has n behind t)

  attempt_within : (n : ℕ) (c : Clause) (args : List (Term Variable)) (behind : Bool) → AllWithin P args
      → Gives TryWithin (attempt n s c args behind)
  attempt_within n c args behind h =
      go _ (unify_within P s n [] [] (head_pairs 0 args c.args) start tt (heads_within P own_has 0 args c.args h))
    where
      start : BoundWithin P (s ++ [])
      start = rw (append-nil s) bound

      go : (o : Option Ended) → Gives (EndWithin P s) o → Gives TryWithin (guard_on (λ bs rs. tests n s bs behind rs c.guard) o)
      go None i = tt
      go (Some (done bs rs)) i = tests_within n bs i.1 behind rs c.guard i.0
      go (Some (clash rs)) i = i
      go (Some (wait rs)) i = i

  choose_within : (n : ℕ) (args : List (Term Variable)) → AllWithin P args → (k : ℕ) (behind : Bool) (rs : List Variable) (cs : List Clause)
      → Every (MayRead P s) rs → Gives DecisionWithin (choose n s args k behind rs cs)
  choose_within n args h k true rs [] i = i
  choose_within n args h k false rs [] i = i
  choose_within n args h k behind rs (c ∷ cs) i =
      go _ (attempt_within n c args behind h) (λ b qs j. choose_within n args h (suc k) b qs cs j)
    where
      go : (o : Option Tried) → Gives TryWithin o
          → ((b : Bool) (qs : List Variable) → Every (MayRead P s) qs → Gives DecisionWithin (choose n s args (suc k) b qs cs))
          → Gives DecisionWithin (choose_on (λ b qs. choose n s args (suc k) b qs cs) k behind rs o)
      go None j rec = tt
      go (Some (succeeds bs qs)) j rec = every_both (MayRead P s) rs qs i j
      go (Some (try_fails qs)) j rec = rec behind (rs ++ qs) (every_both (MayRead P s) rs qs i j)
      go (Some (try_waits qs)) j rec = rec false (rs ++ qs) (every_both (MayRead P s) rs qs i j)

  built_in_within : (n : ℕ) (ps : List Pair) → PairsWithin P ps → Gives DecisionWithin (option_map (built_in []) (unify n s [] [] ps))
  built_in_within n ps h = go _ (unify_within P s n [] [] ps (rw (append-nil s) bound) tt h)
    where
      go : (o : Option Ended) → Gives (EndWithin P s) o → Gives DecisionWithin (option_map (built_in []) o)
      go None i = tt
      go (Some (done bs rs)) i = i.0
      go (Some (clash rs)) i = i
      go (Some (wait rs)) i = i

  decide_within : (n : ℕ) (m : Program) (g : Goal Variable) → GoalWithin P g → Gives DecisionWithin (decide n m s g)
  decide_within n m (user p args) h = choose_within n args h 1 true [] (clauses_of m p (length args)) tt
  decide_within n m true' h = tt
  decide_within n m (unifies t u) h = built_in_within n ((t, u) ∷ []) (h, tt)
  decide_within n m (assigns t e) h = go _ (eval_within P s bound n e h.1)
    where
      go : (o : Option Evaluated) → Gives (EvalWithin P s) o
          → Gives DecisionWithin (assign_on (λ z. option_map (built_in []) (unify n s [] [] ((t, number z) ∷ []))) o)
      go None i = tt
      go (Some (gives z)) i = built_in_within n ((t, number z) ∷ []) ((h.0, tt), tt)
      go (Some bad) i = tt
      go (Some (unready rs)) i = i

  -- what is read for a decision is unbound, and has the property
  pub reads_within : (m : Program) (g : Goal Variable) (d : Decision) → GoalWithin P g → Decides m s g d → Every (MayRead P s) (reads_of d)
  reads_within m g d h i = given DecisionWithin (decide i.0 m s g) d i.1 (decide_within i.0 m g h)
