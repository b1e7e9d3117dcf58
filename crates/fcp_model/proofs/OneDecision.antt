-- A goal has one decision: more steps change no answer of tests, trials and decisions.
use Rattle.std.proofs.Common.{◌≡◌, ℕ, zero, suc, ◌+◌, Bool, true, false, List, [], ◌∷◌, ◌++◌, length, Option, Some, None, refl, arith}
use Rattle.std.specs.Prelude.{ℤ, option_map}
use Rattle.fcp_model.specs.declared.term.CompareOp.{CompareOp}
use Rattle.fcp_model.specs.Places.{Variable, own}
use Rattle.fcp_model.specs.Terms.{Term, number, Bindings}
use Rattle.fcp_model.specs.Value.{Look}
use Rattle.fcp_model.specs.Pair.{Pair, Step, nothing, binds, clashes, waits, parts, Treated, both_looks}
use Rattle.fcp_model.specs.Unification.{Ended, done, clash, wait}
use Rattle.fcp_model.specs.Expressions.{Expr, leaf, op, Evaluated, gives, bad, unready, both_values, value_of_leaf, apply, eval}
use Rattle.fcp_model.specs.Tests.{Test, always, otherwise, kind, same, not_same, ordered, Tested, holds, fails, pauses, test_kind, test_order, same_pair, same_on, equal_on, is_equal, opposed, test, rename_test}
use Rattle.fcp_model.specs.Programs.{Goal, user, true', unifies, assigns, Clause, Program, clauses_of}
use Rattle.fcp_model.specs.Trials.{Tried, succeeds, try_fails, try_waits, test_on, tests, guard_on, attempt}
use Rattle.fcp_model.specs.Decisions.{Decision, choose_on, choose, built_in, assign_on, decide, Decides}
use Rattle.fcp_model.proofs.MoreSteps.{Refines, Grows, at_least, value_more, unify_more}

pub option_map_more : {A B : Type 0} (f : A → B) (o o' : Option A) → Refines o o' → Refines (option_map f o) (option_map f o')
option_map_more f None o' h = λ x e. cc
option_map_more f (Some a) o' h = λ x e. rw (h a refl) e

both_more : (f : ℤ → ℤ → Evaluated) (o o' r r' : Option Evaluated) → Refines o o' → Refines r r' → Refines (both_values f o r) (both_values f o' r')
both_more f None o' r r' h i = λ x e. cc
both_more f (Some (gives y)) o' None r' h i = λ x e. cc
both_more f (Some (gives y)) o' (Some (gives z)) r' h i = λ x e. rw (h _ refl, i _ refl) e
both_more f (Some (gives y)) o' (Some bad) r' h i = λ x e. rw (h _ refl, i _ refl) e
both_more f (Some (gives y)) o' (Some (unready rs)) r' h i = λ x e. rw (h _ refl, i _ refl) e
both_more f (Some bad) o' r r' h i = λ x e. rw (h _ refl) e
both_more f (Some (unready rs)) o' r r' h i = λ x e. rw (h _ refl) e

order_more : (f : CompareOp) (o o' r r' : Option Evaluated) → Refines o o' → Refines r r' → Refines (test_order f o r) (test_order f o' r')
order_more f None o' r r' h i = λ x e. cc
order_more f (Some (gives y)) o' None r' h i = λ x e. cc
order_more f (Some (gives y)) o' (Some (gives z)) r' h i = λ x e. rw (h _ refl, i _ refl) e
order_more f (Some (gives y)) o' (Some bad) r' h i = λ x e. rw (h _ refl, i _ refl) e
order_more f (Some (gives y)) o' (Some (unready rs)) r' h i = λ x e. rw (h _ refl, i _ refl) e
order_more f (Some bad) o' r r' h i = λ x e. rw (h _ refl) e
order_more f (Some (unready rs)) o' r r' h i = λ x e. rw (h _ refl) e

pub eval_more : (s : Bindings) (x : Expr Variable) → Grows (λ n. eval n s x)
eval_more s (leaf t) n = option_map_more value_of_leaf _ _ (value_more s t n)
eval_more s (op o a b) n = both_more (apply o) _ _ _ _ (eval_more s a n) (eval_more s b n)

same_more : (f g : List Variable → List Pair → Option Tested) → ((rs : List Variable) (ps : List Pair) → Refines (f rs ps) (g rs ps)) → (rs : List Variable) (ps : List Pair) (st : Step) → Refines (same_on f rs ps st) (same_on g rs ps st)
same_more f g h rs ps nothing = h rs ps
same_more f g h rs ps (parts qs) = h rs _
same_more f g h rs ps (binds p t) = λ x e. e
same_more f g h rs ps clashes = λ x e. e
same_more f g h rs ps waits = λ x e. e

looks_more : (o o' r r' : Option Look) → Refines o o' → Refines r r' → Refines (both_looks same_pair o r) (both_looks same_pair o' r')
looks_more None o' r r' h i = λ x e. cc
looks_more (Some l) o' None r' h i = λ x e. cc
looks_more (Some l) o' (Some m) r' h i = λ x e. rw (h _ refl, i _ refl) e

equal_on_more : (f g : List Variable → List Pair → Option Tested) → ((rs : List Variable) (ps : List Pair) → Refines (f rs ps) (g rs ps)) → (rs : List Variable) (ps : List Pair) (o o' : Option Treated) → Refines o o' → Refines (equal_on f rs ps o) (equal_on g rs ps o')
equal_on_more f g h rs ps None o' i = λ x e. cc
equal_on_more f g h rs ps (Some t) o' i = λ x e. rw (i t refl) (same_more f g h _ ps t.step x e)

is_equal_more : (s : Bindings) (n : ℕ) (rs : List Variable) (ps : List Pair) → Refines (is_equal n s rs ps) (is_equal (suc n) s rs ps)
is_equal_more s zero rs ps = λ x e. cc
is_equal_more s (suc n) rs [] = λ x e. e
is_equal_more s (suc n) rs (ab ∷ ps) = equal_on_more (is_equal n s) (is_equal (suc n) s) (λ rs' ps'. is_equal_more s n rs' ps') rs ps _ _ (looks_more _ _ _ _ (value_more s ab.0 n) (value_more s ab.1 n))

pub test_more : (s : Bindings) (behind : Bool) (t : Test Variable) → Grows (λ n. test n s behind t)
test_more s behind always n = λ x e. e
test_more s behind otherwise n = λ x e. e
test_more s behind (kind k t) n = option_map_more (test_kind k) _ _ (value_more s t n)
test_more s behind (same t u) n = is_equal_more s n [] ((t, u) ∷ [])
test_more s behind (not_same t u) n = option_map_more opposed _ _ (is_equal_more s n [] ((t, u) ∷ []))
test_more s behind (ordered o a b) n = order_more o _ _ _ _ (eval_more s a n) (eval_more s b n)

test_on_more : (f g : List Variable → Option Tried) → ((rs : List Variable) → Refines (f rs) (g rs)) → (rs : List Variable) (o o' : Option Tested) → Refines o o' → Refines (test_on f rs o) (test_on g rs o')
test_on_more f g h rs None o' k = λ x e. cc
test_on_more f g h rs (Some (holds qs)) o' k = λ x e. rw (k _ refl) (h _ x e)
test_on_more f g h rs (Some (fails qs)) o' k = λ x e. rw (k _ refl) e
test_on_more f g h rs (Some (pauses qs)) o' k = λ x e. rw (k _ refl) e

pub tests_more : (s bs : Bindings) (behind : Bool) (n : ℕ) (rs : List Variable) (ts : List (Test ℕ)) → Refines (tests n s bs behind rs ts) (tests (suc n) s bs behind rs ts)
tests_more s bs behind n rs [] = λ x e. e
tests_more s bs behind n rs (t ∷ ts) = test_on_more _ _ (λ qs. tests_more s bs behind n qs ts) rs _ _ (test_more (s ++ bs) behind (rename_test own t) n)

pub guard_on_more : (f g : Bindings → List Variable → Option Tried) → ((bs : Bindings) (rs : List Variable) → Refines (f bs rs) (g bs rs)) → (o o' : Option Ended) → Refines o o' → Refines (guard_on f o) (guard_on g o')
guard_on_more f g h None o' k = λ x e. cc
guard_on_more f g h (Some (done bs rs)) o' k = λ x e. rw (k _ refl) (h bs rs x e)
guard_on_more f g h (Some (clash rs)) o' k = λ x e. rw (k _ refl) e
guard_on_more f g h (Some (wait rs)) o' k = λ x e. rw (k _ refl) e

pub attempt_more : (s : Bindings) (c : Clause) (args : List (Term Variable)) (behind : Bool) → Grows (λ n. attempt n s c args behind)
attempt_more s c args behind n = guard_on_more _ _ (λ bs rs. tests_more s bs behind n rs c.guard) _ _ (unify_more s n [] [] _)

choose_on_more : (f g : Bool → List Variable → Option Decision) → ((b : Bool) (rs : List Variable) → Refines (f b rs) (g b rs)) → (k : ℕ) (behind : Bool) (rs : List Variable) (o o' : Option Tried) → Refines o o' → Refines (choose_on f k behind rs o) (choose_on g k behind rs o')
choose_on_more f g h k behind rs None o' r = λ x e. cc
choose_on_more f g h k behind rs (Some (succeeds bs qs)) o' r = λ x e. rw (r _ refl) e
choose_on_more f g h k behind rs (Some (try_fails qs)) o' r = λ x e. rw (r _ refl) (h behind _ x e)
choose_on_more f g h k behind rs (Some (try_waits qs)) o' r = λ x e. rw (r _ refl) (h false _ x e)

pub choose_more : (s : Bindings) (args : List (Term Variable)) (n k : ℕ) (behind : Bool) (rs : List Variable) (cs : List Clause) → Refines (choose n s args k behind rs cs) (choose (suc n) s args k behind rs cs)
choose_more s args n k behind rs [] = λ x e. e
choose_more s args n k behind rs (c ∷ cs) = choose_on_more _ _ (λ b qs. choose_more s args n (suc k) b qs cs) k behind rs _ _ (attempt_more s c args behind n)

assign_on_more : (f g : ℤ → Option Decision) → ((z : ℤ) → Refines (f z) (g z)) → (v v' : Option Evaluated) → Refines v v' → Refines (assign_on f v) (assign_on g v')
assign_on_more f g h None v' i = λ x e. cc
assign_on_more f g h (Some (gives z)) v' i = λ x e. rw (i _ refl) (h z x e)
assign_on_more f g h (Some bad) v' i = λ x e. rw (i _ refl) e
assign_on_more f g h (Some (unready rs)) v' i = λ x e. rw (i _ refl) e

pub decide_more : (m : Program) (s : Bindings) (g : Goal Variable) → Grows (λ n. decide n m s g)
decide_more m s (user p args) n = choose_more s args n 1 true [] (clauses_of m p (length args))
decide_more m s true' n = λ x e. e
decide_more m s (unifies t u) n = option_map_more (built_in []) _ _ (unify_more s n [] [] ((t, u) ∷ []))
decide_more m s (assigns t x) n = assign_on_more _ _ (λ z. option_map_more (built_in []) _ _ (unify_more s n [] [] ((t, number z) ∷ []))) _ _ (eval_more s x n)

pub one_decision : (m : Program) (s : Bindings) (g : Goal Variable) (d d' : Decision) → Decides m s g d → Decides m s g d' → d ≡ d'
one_decision m s g d d' (n, e) (n', e') =
    let a : decide (n + n') m s g ≡ Some d = at_least (λ j. decide j m s g) (decide_more m s g) n (n + n') (omega arith) d e in
    let b : decide (n + n') m s g ≡ Some d' = at_least (λ j. decide j m s g) (decide_more m s g) n' (n + n') (omega arith) d' e' in
    cc
