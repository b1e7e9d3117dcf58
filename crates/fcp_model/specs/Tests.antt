-- The tests of a guard.
use Rattle.std.specs.Prelude.{ℕ, zero, suc, Bool, true, false, not, List, [], ◌∷◌, ◌++◌, Option, Some, None, if◌then◌else◌, ℤ, int_lt, int_le, option_map}
use Rattle.std.specs.Ordering.{int_eq}
use Rattle.fcp_model.specs.declared.term.CompareOp.{CompareOp}
use Rattle.fcp_model.specs.declared.term.CompareOp.TheVariants.{Less, AtMost, Greater, AtLeast, Equal, NotEqual}
use Rattle.fcp_model.specs.Places.{Variable, is_same}
use Rattle.fcp_model.specs.Terms.{Term, number, string, nil, cons, tuple, rename, Bindings}
use Rattle.fcp_model.specs.Value.{Look, writable, read_only, solid, value, look_reads}
use Rattle.fcp_model.specs.Pair.{Pair, Step, nothing, binds, clashes, waits, parts, compare, Treated, treated, both_looks}
use Rattle.fcp_model.specs.Expressions.{Expr, rename_expr, Evaluated, gives, bad, unready, eval}

-- the tests of one operand
pub data Kind : Type 0 where
  is_integer : Kind
  is_string : Kind
  is_constant : Kind
  is_list : Kind
  is_tuple : Kind
  is_known : Kind
  is_unknown : Kind

-- a test: `true`, `otherwise`, a kind of value, `==`, `\==`, or two numbers compared
pub data Test (V : Type 0) : Type 0 where
  always : Test V
  otherwise : Test V
  kind : Kind → Term V → Test V
  same : Term V → Term V → Test V
  not_same : Term V → Term V → Test V
  ordered : CompareOp → Expr V → Expr V → Test V

-- the test with each variable as f gives it
abbrev pub rename_test : {V W : Type 0} → (V → W) → Test V → Test W
rename_test f always = always
rename_test f otherwise = otherwise
rename_test f (kind k t) = kind k (rename f t)
rename_test f (same t u) = same (rename f t) (rename f u)
rename_test f (not_same t u) = not_same (rename f t) (rename f u)
rename_test f (ordered o a b) = ordered o (rename_expr f a) (rename_expr f b)

-- what a test gives, with the variables that it read unbound
pub data Tested : Type 0 where
  holds : List Variable → Tested
  fails : List Variable → Tested
  pauses : List Variable → Tested

-- a yes or a no for which nothing was read unbound
abbrev pub decided : Bool → Tested
decided b = if b then holds [] else fails []

-- of a term that is no variable
abbrev pub is_kind : Kind → Term Variable → Bool
is_kind is_known t = true
is_kind is_integer (number z) = true
is_kind is_string (string s) = true
is_kind is_constant (number z) = true
is_kind is_constant (string s) = true
is_kind is_constant nil = true
is_kind is_list (cons a b) = true
is_kind is_tuple (tuple ts) = true
is_kind _ _ = false

-- of an unbound variable: `unknown` holds, every other kind waits
abbrev pub kind_open : Kind → Variable → Tested
kind_open is_unknown p = holds (p ∷ [])
kind_open k p = pauses (p ∷ [])

-- a test of one operand, by its value
abbrev pub test_kind : Kind → Look → Tested
test_kind k (writable p) = kind_open k p
test_kind k (read_only p) = kind_open k p
test_kind k (solid t) = decided (is_kind k t)

-- whether two numbers compare so
abbrev pub order_of : CompareOp → ℤ → ℤ → Bool
order_of Less y z = int_lt y z
order_of AtMost y z = int_le y z
order_of Greater y z = int_lt z y
order_of AtLeast y z = int_le z y
order_of Equal y z = int_eq y z
order_of NotEqual y z = not (int_eq y z)

-- the left side first; the first side that waits or is bad decides
abbrev pub test_order : CompareOp → Option Evaluated → Option Evaluated → Option Tested
test_order o None e = None
test_order o (Some (gives y)) None = None
test_order o (Some (gives y)) (Some (gives z)) = Some (decided (order_of o y z))
test_order o (Some (gives y)) (Some bad) = Some (fails [])
test_order o (Some (gives y)) (Some (unready rs)) = Some (pauses rs)
test_order o (Some bad) e = Some (fails [])
test_order o (Some (unready rs)) e = Some (pauses rs)

-- one pair of `==`: two occurrences of one unbound variable are equal, whatever their marks
abbrev pub same_step : Look → Look → Step
same_step (solid t) (solid u) = compare t u
same_step (writable p) (writable q) = if is_same p q then nothing else waits
same_step (writable p) (read_only q) = if is_same p q then nothing else waits
same_step (read_only p) (writable q) = if is_same p q then nothing else waits
same_step (read_only p) (read_only q) = if is_same p q then nothing else waits
same_step _ _ = waits

-- one pair of `==` with the variables that it reads
abbrev pub same_pair : Look → Look → Option Treated
same_pair l m = treated (same_step l m) (look_reads l ++ look_reads m)

-- behind one pair of `==`: the rest decides, or this pair did
abbrev pub same_on : (List Variable → List Pair → Option Tested) → List Variable → List Pair → Step → Option Tested
same_on next rs ps nothing = next rs ps
same_on next rs ps (parts qs) = next rs (qs ++ ps)
same_on next rs ps clashes = Some (fails rs)
same_on next rs ps waits = Some (pauses rs)
same_on next rs ps (binds p t) = Some (pauses rs)

-- the same, with the reads of the pair behind those before
abbrev pub equal_on : (List Variable → List Pair → Option Tested) → List Variable → List Pair → Option Treated → Option Tested
equal_on next rs ps None = None
equal_on next rs ps (Some t) = same_on next (rs ++ t.reads) ps t.step

-- `==` on pairs from the left, depth first; the first difference makes it fail, the first wait makes it wait
abbrev pub is_equal : ℕ → Bindings → List Variable → List Pair → Option Tested
is_equal zero s rs ps = None
is_equal (suc n) s rs [] = Some (holds rs)
is_equal (suc n) s rs (ab ∷ ps) = equal_on (is_equal n s) rs ps (both_looks same_pair (value n s ab.0) (value n s ab.1))

-- the other answer; a wait stays a wait
abbrev pub opposed : Tested → Tested
opposed (holds rs) = fails rs
opposed (fails rs) = holds rs
opposed (pauses rs) = pauses rs

-- one test; `behind` says that the tries of all earlier clauses fail
abbrev pub test : ℕ → Bindings → Bool → Test Variable → Option Tested
test n s behind always = Some (holds [])
test n s behind otherwise = Some (if behind then holds [] else pauses [])
test n s behind (kind k t) = option_map (test_kind k) (value n s t)
test n s behind (same t u) = is_equal n s [] ((t, u) ∷ [])
test n s behind (not_same t u) = option_map opposed (is_equal n s [] ((t, u) ∷ []))
test n s behind (ordered o a b) = test_order o (eval n s a) (eval n s b)
