-- Expressions and tests stay over a map that binds more, as long as what was read is unbound in it.
use Rattle.std.proofs.Common.{ℕ, zero, suc, Bool, List, [], ◌∷◌, ◌++◌, Option, Some, None, refl, ap, ◌∙◌}
use Rattle.std.specs.Prelude.{ℤ, option_map}
use Rattle.fcp_model.specs.declared.term.CompareOp.{CompareOp}
use Rattle.fcp_model.specs.Places.{Variable}
use Rattle.fcp_model.specs.Terms.{Term, Bindings}
use Rattle.fcp_model.specs.Value.{Look, writable, read_only, solid, value, look_reads}
use Rattle.fcp_model.specs.Pair.{Pair, Step, nothing, binds, clashes, waits, parts, Treated, both_looks}
use Rattle.fcp_model.specs.Expressions.{Expr, leaf, op, Evaluated, gives, bad, unready, value_of_leaf, apply, both_values, eval}
use Rattle.fcp_model.specs.Tests.{Kind, Test, always, otherwise, kind, same, not_same, ordered, Tested, holds, fails, pauses, kind_open, test_kind, test_order, same_pair, same_on, equal_on, is_equal, opposed, test}
use Rattle.fcp_model.specs.Reads.{IsPart}
use Rattle.state_laws.proofs.ReadVariables.{Every, every_left, every_right, treated_reads, eval_reads, tested_reads, Gives, Stays, ReadsOn, stays_behind, reads_before}
use Rattle.state_laws.proofs.StayingPairs.{IsStill, ReadsLooks, value_stays, looks_stay}

-- answers that are made of answers that stay
module _ (P : Variable → Type 0) where
  both_stays : (f : ℤ → ℤ → Evaluated) (o o' r r' : Option Evaluated) → Stays eval_reads P o o' → Stays eval_reads P r r'
      → Stays eval_reads P (both_values f o r) (both_values f o' r')
  both_stays f None o' r r' h i = tt
  both_stays f (Some (gives y)) o' None r' h i = tt
  both_stays f (Some (gives y)) o' (Some (gives z)) r' h i =
      λ g. ap (λ x. both_values f x r') (h tt) ∙ ap (both_values f (Some (gives y))) (i tt)
  both_stays f (Some (gives y)) o' (Some bad) r' h i = λ g. ap (λ x. both_values f x r') (h tt) ∙ ap (both_values f (Some (gives y))) (i tt)
  both_stays f (Some (gives y)) o' (Some (unready rs)) r' h i =
      λ g. ap (λ x. both_values f x r') (h tt) ∙ ap (both_values f (Some (gives y))) (i g)
  both_stays f (Some bad) o' r r' h i = λ g. ap (λ x. both_values f x r') (h tt)
  both_stays f (Some (unready rs)) o' r r' h i = λ g. ap (λ x. both_values f x r') (h g)

  order_stays : (f : CompareOp) (o o' r r' : Option Evaluated) → Stays eval_reads P o o' → Stays eval_reads P r r'
      → Stays tested_reads P (test_order f o r) (test_order f o' r')
  order_stays f None o' r r' h i = tt
  order_stays f (Some (gives y)) o' None r' h i = tt
  order_stays f (Some (gives y)) o' (Some (gives z)) r' h i =
      λ g. ap (λ x. test_order f x r') (h tt) ∙ ap (test_order f (Some (gives y))) (i tt)
  order_stays f (Some (gives y)) o' (Some bad) r' h i = λ g. ap (λ x. test_order f x r') (h tt) ∙ ap (test_order f (Some (gives y))) (i tt)
  order_stays f (Some (gives y)) o' (Some (unready rs)) r' h i =
      λ g. ap (λ x. test_order f x r') (h tt) ∙ ap (test_order f (Some (gives y))) (i g)
  order_stays f (Some bad) o' r r' h i = λ g. ap (λ x. test_order f x r') (h tt)
  order_stays f (Some (unready rs)) o' r r' h i = λ g. ap (λ x. test_order f x r') (h g)

  opposed_stays : (o o' : Option Tested) → Stays tested_reads P o o' → Stays tested_reads P (option_map opposed o) (option_map opposed o')
  opposed_stays None o' h = tt
  opposed_stays (Some (holds rs)) o' h = λ g. ap (option_map opposed) (h g)
  opposed_stays (Some (fails rs)) o' h = λ g. ap (option_map opposed) (h g)
  opposed_stays (Some (pauses rs)) o' h = λ g. ap (option_map opposed) (h g)

  -- the variable of a value is read with it
  leaf_reads : (l : Look) → Every P (eval_reads (value_of_leaf l)) → Every P (look_reads l)
  leaf_reads (writable p) g = g
  leaf_reads (read_only p) g = g
  leaf_reads (solid t) g = tt

  open_reads : (k : Kind) (p : Variable) → Every P (tested_reads (kind_open k p)) → Every P (p ∷ [])
  open_reads Kind.is_integer p g = g
  open_reads Kind.is_string p g = g
  open_reads Kind.is_constant p g = g
  open_reads Kind.is_list p g = g
  open_reads Kind.is_tuple p g = g
  open_reads Kind.is_known p g = g
  open_reads Kind.is_unknown p g = g

  kind_reads : (k : Kind) (l : Look) → Every P (tested_reads (test_kind k l)) → Every P (look_reads l)
  kind_reads k (writable p) g = open_reads k p g
  kind_reads k (read_only p) g = open_reads k p g
  kind_reads k (solid t) g = tt

  same_reads : (l m : Look) → Gives (ReadsLooks P l m) (same_pair l m)
  same_reads l m = λ g. (every_left P (look_reads l) (look_reads m) g, every_right P (look_reads l) (look_reads m) g)

  same_on_reads : (next : List Variable → List Pair → Option Tested)
      → ((rs : List Variable) (ps : List Pair) → ReadsOn tested_reads P rs (next rs ps)) → (rs : List Variable) (ps : List Pair) (st : Step)
      → ReadsOn tested_reads P rs (same_on next rs ps st)
  same_on_reads next h rs ps nothing = h rs ps
  same_on_reads next h rs ps (parts qs) = h rs _
  same_on_reads next h rs ps (binds p t) = λ g. g
  same_on_reads next h rs ps clashes = λ g. g
  same_on_reads next h rs ps waits = λ g. g

  equal_reads : (n : ℕ) (s : Bindings) (rs : List Variable) (ps : List Pair) → ReadsOn tested_reads P rs (is_equal n s rs ps)
  equal_reads zero s rs ps = tt
  equal_reads (suc n) s rs [] = λ g. g
  equal_reads (suc n) s rs (ab ∷ ps) = go (both_looks same_pair (value n s ab.0) (value n s ab.1)) (λ qs us. equal_reads n s qs us)
    where
      go : (o : Option Treated) → ((qs : List Variable) (us : List Pair) → ReadsOn tested_reads P qs (is_equal n s qs us))
          → ReadsOn tested_reads P rs (equal_on (is_equal n s) rs ps o)
      go None rec = tt
      go (Some t) rec = reads_before tested_reads P rs t.reads _ (same_on_reads (is_equal n s) rec (rs ++ t.reads) ps t.step)

-- over two maps, of which the second binds what the first binds
module _ (w w' : Bindings) (part : IsPart w w') where
  abbrev Still : Variable → Type 0
  Still = IsStill w w'

  pub eval_stays : (n : ℕ) (e : Expr Variable) → Stays eval_reads Still (eval n w e) (eval n w' e)
  eval_stays n (leaf t) = go (value n w t) (value_stays w w' part n t)
    where
      go : (o : Option Look) → Stays look_reads Still o (value n w' t)
          → Stays eval_reads Still (option_map value_of_leaf o) (option_map value_of_leaf (value n w' t))
      go None h = tt
      go (Some l) h = λ g. ap (option_map value_of_leaf) (h (leaf_reads Still l g))
  eval_stays n (op o a b) = both_stays Still (apply o) _ _ _ _ (eval_stays n a) (eval_stays n b)

  kind_stays : (n : ℕ) (k : Kind) (t : Term Variable)
      → Stays tested_reads Still (option_map (test_kind k) (value n w t)) (option_map (test_kind k) (value n w' t))
  kind_stays n k t = go (value n w t) (value_stays w w' part n t)
    where
      go : (o : Option Look) → Stays look_reads Still o (value n w' t)
          → Stays tested_reads Still (option_map (test_kind k) o) (option_map (test_kind k) (value n w' t))
      go None h = tt
      go (Some l) h = λ g. ap (option_map (test_kind k)) (h (kind_reads Still k l g))

  same_stays : (f g : List Variable → List Pair → Option Tested)
      → ((rs : List Variable) (ps : List Pair) → Stays tested_reads Still (f rs ps) (g rs ps))
      → (rs : List Variable) (ps : List Pair) (st : Step) → Stays tested_reads Still (same_on f rs ps st) (same_on g rs ps st)
  same_stays f g h rs ps nothing = h rs ps
  same_stays f g h rs ps (parts qs) = h rs _
  same_stays f g h rs ps (binds p t) = λ i. refl
  same_stays f g h rs ps clashes = λ i. refl
  same_stays f g h rs ps waits = λ i. refl

  equal_stays : (n : ℕ) (rs : List Variable) (ps : List Pair) → Stays tested_reads Still (is_equal n w rs ps) (is_equal n w' rs ps)
  equal_stays zero rs ps = tt
  equal_stays (suc n) rs [] = λ g. refl
  equal_stays (suc n) rs (ab ∷ ps) =
      go (both_looks same_pair (value n w ab.0) (value n w ab.1))
      (looks_stay w w' part n same_pair same_pair (λ l m g. refl) (same_reads Still) ab.0 ab.1) (λ qs us. equal_stays n qs us)
    where
      go : (o : Option Treated) → Stays treated_reads Still o (both_looks same_pair (value n w' ab.0) (value n w' ab.1))
          → ((qs : List Variable) (us : List Pair) → Stays tested_reads Still (is_equal n w qs us) (is_equal n w' qs us))
          → Stays tested_reads Still (equal_on (is_equal n w) rs ps o)
          (equal_on (is_equal n w') rs ps (both_looks same_pair (value n w' ab.0) (value n w' ab.1)))
      go None h rec = tt
      go (Some t) h rec =
          stays_behind tested_reads Still rs t.reads _ _ _
          (same_on_reads Still (is_equal n w) (λ qs us. equal_reads Still n w qs us) (rs ++ t.reads) ps t.step)
          (λ read. ap (equal_on (is_equal n w') rs ps) (h read))
          (same_stays (is_equal n w) (is_equal n w') rec (rs ++ t.reads) ps t.step)

  pub test_stays : (n : ℕ) (behind : Bool) (t : Test Variable) → Stays tested_reads Still (test n w behind t) (test n w' behind t)
  test_stays n behind always = λ g. refl
  test_stays n behind otherwise = λ g. refl
  test_stays n behind (kind k t) = kind_stays n k t
  test_stays n behind (same t u) = equal_stays n [] ((t, u) ∷ [])
  test_stays n behind (not_same t u) = opposed_stays Still _ _ (equal_stays n [] ((t, u) ∷ []))
  test_stays n behind (ordered o a b) = order_stays Still o _ _ _ _ (eval_stays n a) (eval_stays n b)
