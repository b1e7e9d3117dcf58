-- The tests of a guard over bindings with shorter ways give what they give over the bindings that they are of.
use Rattle.std.proofs.Common.{◌≡◌, ℕ, zero, suc, ◌+◌, Bool, List, [], ◌∷◌, ◌++◌, Option, Some, None, refl, ap, ◌∙◌, arith}
use Rattle.std.specs.Prelude.{ℤ, option_map}
use Rattle.fcp_model.specs.declared.term.CompareOp.{CompareOp}
use Rattle.fcp_model.specs.Places.{Variable}
use Rattle.fcp_model.specs.Terms.{Term, Bindings}
use Rattle.fcp_model.specs.Value.{Look, value}
use Rattle.fcp_model.specs.Pair.{Pair, Step, nothing, binds, clashes, waits, parts, Treated, both_looks}
use Rattle.fcp_model.specs.Expressions.{Expr, leaf, op, Evaluated, gives, bad, unready, value_of_leaf, both_values, apply, eval}
use Rattle.fcp_model.specs.Tests.{Test, always, otherwise, kind, same, not_same, ordered, Tested, holds, test_kind, test_order, same_pair, same_on, equal_on, is_equal, opposed, test}
use Rattle.fcp_model.proofs.MoreSteps.{Grows, value_more}
use Rattle.fcp_model.proofs.OneDecision.{eval_more}
use Rattle.word_states.specs.Leading.{ExprLeads, AreShortened}
use Rattle.word_states.proofs.Leading.{expr_leads_here}
use Rattle.leading_laws.proofs.Answers.{Answers, both_answer, Stays, stays, stays_after}
use Rattle.leading_laws.proofs.Values.{value_short, values_led}

-- what is made of an answer
pub mapped : {A B : Type 0} (f : ℕ → Option A) (h : A → B) (o : Option A) (y : B) → ((x : A) → o ≡ Some x → Answers f x)
    → option_map h o ≡ Some y → Answers (λ n. option_map h (f n)) y
mapped f h None y a e = cc
mapped f h (Some x) y a e = let r = a x refl in (r.0, ap (option_map h) r.1 ∙ e)

-- two operands, of which the first may decide
both_led : (h : ℤ → ℤ → Evaluated) (f g : ℕ → Option Evaluated) (o r : Option Evaluated) (y : Evaluated) → Grows f → Grows g
    → ((x : Evaluated) → o ≡ Some x → Answers f x) → ((x : Evaluated) → r ≡ Some x → Answers g x) → both_values h o r ≡ Some y
    → Answers (λ n. both_values h (f n) (g n)) y
both_led h f g None r y up up' a b e = cc
both_led h f g (Some bad) r y up up' a b e = let i = a bad refl in (i.0, ap (λ o. both_values h o (g i.0)) i.1 ∙ e)
both_led h f g (Some (unready rs)) r y up up' a b e = let i = a (unready rs) refl in (i.0, ap (λ o. both_values h o (g i.0)) i.1 ∙ e)
both_led h f g (Some (gives z)) None y up up' a b e = cc
both_led h f g (Some (gives z)) (Some x) y up up' a b e =
    let i = both_answer f g (gives z) x up up' (a (gives z) refl) (b x refl) in
    (i.0, ap (λ o. both_values h o (g i.0)) i.1 ∙ ap (both_values h (Some (gives z))) i.2 ∙ e)

order_led : (c : CompareOp) (f g : ℕ → Option Evaluated) (o r : Option Evaluated) (y : Tested) → Grows f → Grows g
    → ((x : Evaluated) → o ≡ Some x → Answers f x) → ((x : Evaluated) → r ≡ Some x → Answers g x) → test_order c o r ≡ Some y
    → Answers (λ n. test_order c (f n) (g n)) y
order_led c f g None r y up up' a b e = cc
order_led c f g (Some bad) r y up up' a b e = let i = a bad refl in (i.0, ap (λ o. test_order c o (g i.0)) i.1 ∙ e)
order_led c f g (Some (unready rs)) r y up up' a b e = let i = a (unready rs) refl in (i.0, ap (λ o. test_order c o (g i.0)) i.1 ∙ e)
order_led c f g (Some (gives z)) None y up up' a b e = cc
order_led c f g (Some (gives z)) (Some x) y up up' a b e =
    let i = both_answer f g (gives z) x up up' (a (gives z) refl) (b x refl) in
    (i.0, ap (λ o. test_order c o (g i.0)) i.1 ∙ ap (test_order c (Some (gives z))) i.2 ∙ e)

module _ (s short : Bindings) (shortened : AreShortened s short) where
  -- an expression of leaves to which others lead
  pub eval_led : (n : ℕ) (e d : Expr Variable) (y : Evaluated) → ExprLeads s e d → eval n short d ≡ Some y → Answers (λ m. eval m s e) y
  eval_led n (leaf t) (leaf u) y h i =
      mapped (λ m. value m s t) value_of_leaf (value n short u) y (λ l j. values_led s short shortened t u l h (n, j)) i
  eval_led n (op o a b) (op q c d) y h i =
      let alike = both_led (apply o) (λ m. eval m s a) (λ m. eval m s b) (eval n short c) (eval n short d) y (eval_more s a) (eval_more s b)
      (λ x j. eval_led n a c x h.1 j) (λ x j. eval_led n b d x h.2 j) in
      alike (ap (λ p. both_values (apply p) (eval n short c) (eval n short d)) h.0 ∙ i)
  eval_led n (leaf t) (op q c d) y h i = absurd h
  eval_led n (op o a b) (leaf u) y h i = absurd h

  -- a pair of `==`
  same_short : (n : ℕ) (t u : Term Variable) (x : Treated) → both_looks same_pair (value n short t) (value n short u) ≡ Some x
      → Stays (λ m. both_looks same_pair (value m s t) (value m s u)) x
  same_short n t u x = go (value n short t) (value n short u) refl refl
    where
      value_stays : (t : Term Variable) (l : Look) → value n short t ≡ Some l → Stays (λ m. value m s t) l
      value_stays t l e = stays (λ m. value m s t) l (value_more s t) (value_short s short shortened n t l e)

      go : (o r : Option Look) → value n short t ≡ o → value n short u ≡ r → both_looks same_pair o r ≡ Some x
          → Stays (λ m. both_looks same_pair (value m s t) (value m s u)) x
      go None r i j e = cc
      go (Some l) None i j e = cc
      go (Some l) (Some k) i j e =
          let a = value_stays t l i in
          let b = value_stays u k j in (
            a.0 + b.0,
            λ m h. ap (λ o. both_looks same_pair o (value m s u)) (a.1 m (omega arith))
                ∙ ap (both_looks same_pair (Some l)) (b.1 m (omega arith))
                ∙ e,
          )

  -- behind a pair of `==`
  same_on_short : (n : ℕ) (rs : List Variable) (ps : List Pair) (x : Tested)
      → ((qs : List Variable) (us : List Pair) → is_equal n short qs us ≡ Some x → Stays (λ m. is_equal m s qs us) x) → (st : Step)
      → same_on (is_equal n short) rs ps st ≡ Some x → Stays (λ m. same_on (is_equal m s) rs ps st) x
  same_on_short n rs ps x rec nothing e = rec rs ps e
  same_on_short n rs ps x rec (parts qs) e = rec rs (qs ++ ps) e
  same_on_short n rs ps x rec (binds p t) e = (0, λ m l. e)
  same_on_short n rs ps x rec clashes e = (0, λ m l. e)
  same_on_short n rs ps x rec waits e = (0, λ m l. e)

  equal_short : (n : ℕ) (rs : List Variable) (ps : List Pair) (x : Tested) → is_equal n short rs ps ≡ Some x
      → Stays (λ m. is_equal m s rs ps) x
  equal_short zero rs ps x e = cc
  equal_short (suc n) rs [] x e = stays_after (λ m. is_equal m s rs []) (λ m. Some (holds rs)) x 0 (λ m l. refl) (0, λ m l. e)
  equal_short (suc n) rs (ab ∷ ps) x e =
      go (both_looks same_pair (value n short ab.0) (value n short ab.1)) refl e (λ qs us i. equal_short n qs us x i)
    where
      go : (o : Option Treated) → both_looks same_pair (value n short ab.0) (value n short ab.1) ≡ o
          → equal_on (is_equal n short) rs ps o ≡ Some x
          → ((qs : List Variable) (us : List Pair) → is_equal n short qs us ≡ Some x → Stays (λ m. is_equal m s qs us) x)
          → Stays (λ m. is_equal m s rs (ab ∷ ps)) x
      go None i f rec = cc
      go (Some t) i f rec =
          let same = same_short n ab.0 ab.1 t i in
          stays_after (λ m. is_equal m s rs (ab ∷ ps)) (λ m. same_on (is_equal m s) (rs ++ t.reads) ps t.step) x same.0
          (λ m l. ap (equal_on (is_equal m s) rs ps) (same.1 m l)) (same_on_short n (rs ++ t.reads) ps x rec t.step f)

  equal_answers : (n : ℕ) (t u : Term Variable) (x : Tested) → is_equal n short [] ((t, u) ∷ []) ≡ Some x
      → Answers (λ m. is_equal m s [] ((t, u) ∷ [])) x
  equal_answers n t u x e = let r = equal_short n [] ((t, u) ∷ []) x e in (r.0, r.1 r.0 (omega arith))

  -- a test
  pub test_short : (n : ℕ) (behind : Bool) (t : Test Variable) (x : Tested) → test n short behind t ≡ Some x
      → Answers (λ m. test m s behind t) x
  test_short n behind always x e = (0, e)
  test_short n behind otherwise x e = (0, e)
  test_short n behind (kind k t) x e =
      mapped (λ m. value m s t) (test_kind k) (value n short t) x (value_short s short shortened n t) e
  test_short n behind (same t u) x e = equal_answers n t u x e
  test_short n behind (not_same t u) x e =
      mapped (λ m. is_equal m s [] ((t, u) ∷ [])) opposed (is_equal n short [] ((t, u) ∷ [])) x
      (λ y j. equal_answers n t u y j) e
  test_short n behind (ordered c a b) x e =
      order_led c (λ m. eval m s a) (λ m. eval m s b) (eval n short a) (eval n short b) x (eval_more s a) (eval_more s b)
      (λ y j. eval_led n a a y (expr_leads_here s a) j) (λ y j. eval_led n b b y (expr_leads_here s b) j) e
