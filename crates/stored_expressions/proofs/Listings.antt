-- The steps that words are listed as are the expression in postfix form.
use Rattle.std.proofs.Common.{◌≡◌, ℕ, ◌+◌, List, [], ◌∷◌, ◌++◌, Option, refl, sym, ap, ◌∙◌, subst, append_assoc, append-nil}
use Rattle.fcp_model.specs.declared.term.ArithOp.{ArithOp}
use Rattle.fcp_model.specs.Places.{Variable}
use Rattle.fcp_model.specs.Expressions.{Expr, leaf, op}
use Rattle.heap_words.specs.Trails.{Memory}
use Rattle.heap_words.specs.declared.steps.ExprStep.{ExprStep}
use Rattle.heap_words.specs.declared.steps.ExprStep.TheVariants.{Push, Apply}
use Rattle.ro_unify.specs.Occurs.{stack}
use Rattle.ro_unify.proofs.Stacks.{stack-push}
use Rattle.ro_unify.proofs.Visiting.{next_on}
use Rattle.unify_terms.specs.Denotes.{Naming}
use Rattle.guard_tests.specs.Guards.{Expresses}
use Rattle.stored_expressions.specs.Listing.{operation_of, step_for, operands, Visits, Lists, at_end, on}
use Rattle.stored_expressions.specs.Storing.{Stores}
use Rattle.stored_expressions.proofs.Operations.{is_operation, term_no_operation}

module _ (m : Memory) where
  -- the first of the words, and none
  next_listed : (us : List ℕ) (ss all : List ExprStep) → Lists m us ss all → (x : ℕ) (ws : List ℕ) → us ≡ x ∷ ws
      → Lists m (operands m (operation_of m x) ++ ws) (step_for x (operation_of m x) ∷ ss) all
  next_listed _ _ _ (at_end ss) x ws e = cc
  next_listed _ _ _ (on y vs ss all l) x ws e =
      let i : y ≡ x = cc in
      let j : vs ≡ ws = cc in
      subst (λ (z : ℕ). Lists m (operands m (operation_of m z) ++ ws) (step_for z (operation_of m z) ∷ ss) all) i
      (subst (λ (zs : List ℕ). Lists m (operands m (operation_of m y) ++ zs) (step_for y (operation_of m y) ∷ ss) all) j l)

  none_listed : (us : List ℕ) (ss all : List ExprStep) → Lists m us ss all → us ≡ [] → all ≡ ss
  none_listed _ _ _ (at_end ss) e = refl
  none_listed _ _ _ (on y vs ss all l) e = cc

  module _ (p : Naming) where
    -- the steps of an expression, in front of those so far
    expression_listed : (t : Expr Variable) (x : ℕ) (ws : List ℕ) (ss all : List ExprStep) → Stores p m t x → Lists m (x ∷ ws) ss all
        → (xs : List ExprStep) × Expresses p m t xs × Lists m ws (xs ++ ss) all
    expression_listed (leaf t) x ws ss all d l = (
      Push x ∷ [],
      (x, refl, d),
      subst (λ (o : Option (ArithOp × ℕ)). Lists m (operands m o ++ ws) (step_for x o ∷ ss) all) (term_no_operation p m x t d)
          (next_listed (x ∷ ws) ss all l x ws refl),
    )
    expression_listed (op o a b) x ws ss all d l =
        let n : Lists m (m (d.0 + 2) ∷ m (d.0 + 1) ∷ ws) (Apply o ∷ ss) all =
        subst (λ (q : Option (ArithOp × ℕ)). Lists m (operands m q ++ ws) (step_for x q ∷ ss) all) (is_operation m x d.0 o d.1 d.2)
        (next_listed (x ∷ ws) ss all l x ws refl) in
        let r = expression_listed b (m (d.0 + 2)) (m (d.0 + 1) ∷ ws) (Apply o ∷ ss) all d.4 n in
        let q = expression_listed a (m (d.0 + 1)) ws (r.0 ++ Apply o ∷ ss) all d.3 r.2 in (
          q.0 ++ (r.0 ++ Apply o ∷ []),
          (q.0, r.0, refl, q.1, r.1),
          subst (λ (us : List ExprStep). Lists m ws us all) (sym (parted q.0 r.0)) q.2,
        )
      where
        parted : (xs ys : List ExprStep) → (xs ++ (ys ++ Apply o ∷ [])) ++ ss ≡ xs ++ (ys ++ Apply o ∷ ss)
        parted xs ys = append_assoc xs (ys ++ Apply o ∷ []) ss
            ∙ ap (λ (us : List ExprStep). xs ++ us) (append_assoc ys (Apply o ∷ []) ss)

    -- where a word stores an expression, its steps are that in postfix form
    pub listed_so : (t : Expr Variable) (x : ℕ) (ss : List ExprStep) → Stores p m t x → Lists m (x ∷ []) [] ss → Expresses p m t ss
    listed_so t x ss d l =
        let r = expression_listed t x [] [] ss d l in
        let e : ss ≡ r.0 ++ [] = none_listed [] (r.0 ++ []) ss r.2 refl in
        subst (Expresses p m t) (sym (e ∙ append-nil r.0)) r.1

-- the word on top of the work list was visited, and its step was added
pub visited_on : (m : Memory) (x : ℕ) (old new ws' : List ℕ) (steps steps' : List ExprStep) (s : ExprStep) (all : List ExprStep)
    → old ≡ new ++ x ∷ [] → steps' ≡ steps ++ s ∷ [] → Visits m x (stack new) s ws' → Lists m ws' (stack steps') all
    → Lists m (stack old) (stack steps) all
visited_on m x old new ws' steps steps' s all e f v h =
    subst (λ (us : List ℕ). Lists m us (stack steps) all) (sym (next_on old new x e))
    (on x (stack new) (stack steps) all
    (subst (λ (us : List ℕ). Lists m us (step_for x (operation_of m x) ∷ stack steps) all) v.1
    (subst (λ (us : List ExprStep). Lists m ws' us all)
    (ap stack f ∙ (stack-push steps s ∙ ap (λ (z : ExprStep). z ∷ stack steps) v.0)) h)))

pub none_left : (m : Memory) (ws : List ℕ) (ss : List ExprStep) → ws ≡ [] → Lists m (stack ws) ss ss
none_left m ws ss e = subst (λ (us : List ℕ). Lists m (stack us) ss ss) (sym e) (at_end ss)
