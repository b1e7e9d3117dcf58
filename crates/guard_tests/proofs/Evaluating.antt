-- One step of an evaluation.
use Rattle.std.proofs.Common.{◌≡◌, ℕ, zero, suc, ◌+◌, ◌<◌, ◌++◌, ℤ, [], ◌∷◌, List, length, get_or, drop, refl, sym, ap, ◌∙◌, subst, arith}
use Rattle.std.proofs.Common.{add-one, drop-cons}
use Rattle.heap_words.specs.Trails.{WordList, Memory}
use Rattle.heap_words.specs.declared.steps.ExprStep.{ExprStep}
use Rattle.heap_words.specs.declared.steps.ExprStep.TheVariants.{Push, Apply}
use Rattle.ro_unify.specs.Occurs.{stack, Each}
use Rattle.ro_unify.proofs.Stacks.{Each-more, stack-push}
use Rattle.ro_unify.proofs.Visiting.{next_on}
use Rattle.fcp_model.specs.declared.term.ArithOp.{ArithOp}
use Rattle.fcp_model.specs.Expressions.{apply}
use Rattle.guard_tests.specs.declared.number.Evaluated.{Evaluated}
use Rattle.guard_tests.specs.declared.number.Evaluated.TheVariants.{Value, Bad, Wait}
use Rattle.guard_tests.specs.Numbers.{answer_of}
use Rattle.guard_tests.specs.Evaluation.{OperandLeads, Combines, Takes, Reckons, at_end, on, spoilt, stopped, last_of}

-- an operator on the last two results
pub combined : (o : ArithOp) (old mid new : List ℤ) (z y : ℤ) (e : Evaluated) → old ≡ mid ++ z ∷ [] → mid ≡ new ++ y ∷ []
    → e ≡ answer_of (apply o y z) → Combines o (stack old) e (stack new)
combined o old mid new z y e h i k =
    subst (λ (xs : List ℤ). Combines o xs e (stack new))
    (sym (next_on old mid z h ∙ ap (λ (ws : List ℤ). z ∷ ws) (next_on mid new y i))) (sym k, refl)

-- the step at a position, and those after it
pub next_step : (ss : List ExprStep) (i : ℕ) → i < length ss → drop i ss ≡ get_or ss i (Push 0) ∷ drop (i + 1) ss
next_step ss i h = rw (add-one, drop-cons ss i (Push 0))

pub step_leads : (leads : ℕ → Type 0) (ss : List ExprStep) (i : ℕ) → i < length ss → Each (OperandLeads leads) ss
    → OperandLeads leads (get_or ss i (Push 0))
step_leads leads [] i h e = absurd (omega arith)
step_leads leads (s ∷ ss) zero h e = e.0
step_leads leads (s ∷ ss) (suc i) h e = step_leads leads ss i (omega arith) e.1

pub steps_lead : (P Q : ℕ → Type 0) (ss : List ExprStep) → ((w : ℕ) → P w → Q w) → Each (OperandLeads P) ss → Each (OperandLeads Q) ss
steps_lead P Q ss f h = Each-more (OperandLeads P) (OperandLeads Q) ss lead h
  where
    lead : (s : ExprStep) → OperandLeads P s → OperandLeads Q s
    lead (Push w) i = f w i
    lead (Apply o) i = tt

module _ (bs bs2 : WordList) (m : Memory) (ss : List ExprStep) (i : ℕ) (old mid : List ℤ) (rs rs1 : List ℕ) (e : Evaluated)
    (h : i < length ss) (same : bs2 ≡ bs) (t : Takes bs2 m (get_or ss i (Push 0)) (stack old) rs e (stack mid) rs1) where
  taken : (r : Evaluated) → e ≡ r → Takes bs m (get_or ss i (Push 0)) (stack old) rs r (stack mid) rs1
  taken r k =
      subst (λ (z : Evaluated). Takes bs m (get_or ss i (Push 0)) (stack old) rs z (stack mid) rs1) k
      (subst (λ (cs : WordList). Takes cs m (get_or ss i (Push 0)) (stack old) rs e (stack mid) rs1) same t)

  from : (r : Evaluated) (rs' : List ℕ) → Reckons bs m (get_or ss i (Push 0) ∷ drop (i + 1) ss) (stack old) rs r rs'
      → Reckons bs m (drop i ss) (stack old) rs r rs'
  from r rs' k = subst (λ (us : List ExprStep). Reckons bs m us (stack old) rs r rs') (sym (next_step ss i h)) k

  -- it gave a number, which is put on top
  pub goes_on : (z : ℤ) (new : List ℤ) → e ≡ Value z → new ≡ mid ++ z ∷ [] → (r : Evaluated) (rs' : List ℕ)
      → Reckons bs m (drop (i + 1) ss) (stack new) rs1 r rs' → Reckons bs m (drop i ss) (stack old) rs r rs'
  goes_on z new k l r rs' n =
      from r rs' (on (get_or ss i (Push 0)) (drop (i + 1) ss) (stack old) rs z (stack mid) rs1 r rs' (taken (Value z) k)
      (subst (λ (us : List ℤ). Reckons bs m (drop (i + 1) ss) us rs1 r rs') (ap stack l ∙ stack-push mid z) n))

  -- it is bad, or it waits
  pub is_spoilt : e ≡ Bad → Reckons bs m (drop i ss) (stack old) rs Bad rs1
  is_spoilt k = from Bad rs1 (spoilt (get_or ss i (Push 0)) (drop (i + 1) ss) (stack old) rs (stack mid) rs1 (taken Bad k))

  pub is_stopped : e ≡ Wait → Reckons bs m (drop i ss) (stack old) rs Wait rs1
  is_stopped k = from Wait rs1 (stopped (get_or ss i (Push 0)) (drop (i + 1) ss) (stack old) rs (stack mid) rs1 (taken Wait k))

-- no step is left
pub at_last : (bs : WordList) (m : Memory) (ss : List ExprStep) (i : ℕ) (zs : List ℤ) (rs : List ℕ) (e : Evaluated) → length ss ≡ i
    → e ≡ last_of zs → Reckons bs m (drop i ss) zs rs e rs
at_last bs m ss i zs rs e h k =
    subst (λ (z : Evaluated). Reckons bs m (drop i ss) zs rs z rs) (sym k)
    (subst (λ (us : List ExprStep). Reckons bs m us zs rs (last_of zs) rs) (sym (none ss i h)) (at_end zs rs))
  where
    none : (us : List ExprStep) (j : ℕ) → length us ≡ j → drop j us ≡ []
    none [] zero l = refl
    none [] (suc j) l = refl
    none (u ∷ us) zero l = absurd (omega arith)
    none (u ∷ us) (suc j) l = none us j (omega arith)
