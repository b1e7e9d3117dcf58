-- A unification over bindings with shorter ways ends as over the bindings that they are of.
use Rattle.std.proofs.Common.{◌≡◌, ℕ, zero, suc, List, [], ◌∷◌, ◌++◌, Option, Some, None, refl, sym, ap, ◌∙◌, subst}
use Rattle.fcp_model.specs.Places.{Variable, own}
use Rattle.fcp_model.specs.Terms.{Bindings}
use Rattle.fcp_model.specs.Pair.{Pair, Step, nothing, binds, clashes, waits, parts, Treated, first_of, pair_on, pair}
use Rattle.fcp_model.specs.Unification.{Ended, done, clash, wait, step_on, go_on, unify}
use Rattle.fcp_model.proofs.MoreSteps.{Grows, pair_more, step_more, unify_more}
use Rattle.word_states.specs.Leading.{BindingsLead, AreShortened}
use Rattle.word_states.proofs.Leading.{leads_here}
use Rattle.leading_laws.proofs.Answers.{Answers, both_answer}
use Rattle.leading_laws.proofs.Extending.{part_behind, shortened_over, lead_one_more}
use Rattle.leading_laws.proofs.Pairs.{PairsLead, pairs_lead_here, pairs_lead_both, pairs_lead_more, leads_marks, pair_led}

-- f ends in the same way, with the same reads; what it binds leads to what the given end binds
abbrev pub EndsAlike : Bindings → (ℕ → Option Ended) → Ended → Type 0
EndsAlike s f (done cs rs) = (bs : Bindings) × Answers f (done bs rs) × BindingsLead (s ++ bs) bs cs
EndsAlike s f (clash rs) = Answers f (clash rs)
EndsAlike s f (wait rs) = Answers f (wait rs)

pub ends_on : (s : Bindings) (f g : ℕ → Option Ended) → ((y : Ended) → Answers g y → Answers f y) → (x : Ended) → EndsAlike s g x
    → EndsAlike s f x
ends_on s f g h (done cs rs) e = (e.0, h (done e.0 rs) e.1, e.2)
ends_on s f g h (clash rs) e = h (clash rs) e
ends_on s f g h (wait rs) e = h (wait rs) e

module _ (s short : Bindings) (shortened : AreShortened s short) where
  -- the pairs that are left, over such bindings
  abbrev Onward : ℕ → Ended → Type 0
  Onward n x =
      (bs cs : Bindings) (rs : List Variable) (ps qs : List Pair) → BindingsLead (s ++ bs) bs cs → PairsLead (s ++ bs) ps qs
      → unify n short cs rs qs ≡ Some x → EndsAlike s (λ m. unify m s bs rs ps) x

  module _ (bs cs : Bindings) (rs : List Variable) (ps qs : List Pair) (x : Ended) (bound : BindingsLead (s ++ bs) bs cs)
      (left : PairsLead (s ++ bs) ps qs) where
    step_led : (n : ℕ) → Onward n x → (st : Step) → step_on (unify n short) cs rs qs st ≡ Some x
        → EndsAlike s (λ m. step_on (unify m s) bs rs ps st) x
    step_led n rec nothing e = rec bs cs rs ps qs bound left e
    step_led n rec (binds p t) e =
        rec (bs ++ (p, t) ∷ []) (cs ++ (p, t) ∷ []) rs ps qs (lead_one_more s bs cs p t t bound (leads_here (s ++ bs) t))
        (pairs_lead_more (s ++ bs) (s ++ (bs ++ (p, t) ∷ [])) (part_behind s bs ((p, t) ∷ [])) ps qs left) e
    step_led n rec (parts us) e =
        rec bs cs rs (us ++ ps) (us ++ qs) bound (pairs_lead_both (s ++ bs) us us ps qs (pairs_lead_here (s ++ bs) us) left) e
    step_led n rec clashes e = let is : clash rs ≡ x = cc in subst (EndsAlike s (λ m. Some (clash rs))) is (0, refl)
    step_led n rec waits e = let is : wait rs ≡ x = cc in subst (EndsAlike s (λ m. Some (wait rs))) is (0, refl)

  module _ (n : ℕ) (bs cs : Bindings) (rs : List Variable) (p q : Pair) (ps qs : List Pair) (x : Ended)
      (bound : BindingsLead (s ++ bs) bs cs) (left : PairsLead (s ++ bs) (p ∷ ps) (q ∷ qs)) (rec : Onward n x) where
    -- a first occurrence takes the other side
    takes_led : (k : ℕ) → first_of q.1 ≡ Some k → unify (suc n) short cs rs (q ∷ qs) ≡ Some x
        → EndsAlike s (λ m. unify m s bs rs (p ∷ ps)) x
    takes_led k mark e =
        ends_on s (λ m. unify m s bs rs (p ∷ ps)) (λ m. unify m s (bs ++ (own k, p.0) ∷ []) (rs ++ []) ps)
        (λ y a. (suc a.0, ap (λ o. go_on (unify a.0 s) bs rs ps (pair_on a.0 (s ++ bs) p.0 p.1 o)) (marked ∙ mark) ∙ a.1)) x
        (rec (bs ++ (own k, p.0) ∷ []) (cs ++ (own k, q.0) ∷ []) (rs ++ []) ps qs
        (lead_one_more s bs cs (own k) p.0 q.0 bound left.0)
        (pairs_lead_more (s ++ bs) (s ++ (bs ++ (own k, p.0) ∷ [])) (part_behind s bs ((own k, p.0) ∷ [])) ps qs left.2)
        (sym (ap (λ o. go_on (unify n short) cs rs qs (pair_on n (short ++ cs) q.0 q.1 o)) mark) ∙ e))
      where
        marked : first_of p.1 ≡ first_of q.1
        marked = leads_marks (s ++ bs) p.1 q.1 left.1

    -- else both sides are taken by value
    compared_led : first_of q.1 ≡ None → unify (suc n) short cs rs (q ∷ qs) ≡ Some x → EndsAlike s (λ m. unify m s bs rs (p ∷ ps)) x
    compared_led unmarked e = go (pair n (short ++ cs) q.0 q.1) refl e
      where
        go : (o : Option Treated) → pair n (short ++ cs) q.0 q.1 ≡ o → go_on (unify n short) cs rs qs o ≡ Some x
            → EndsAlike s (λ m. unify m s bs rs (p ∷ ps)) x
        go None i f = cc
        go (Some t) i f =
            ends_on s (λ m. unify m s bs rs (p ∷ ps)) next
            (λ y a. let two = both_answer (λ m. pair m (s ++ bs) p.0 p.1) next t y (pair_more (s ++ bs) p.0 p.1) up treats a in
            (suc two.0, ap (go_on (unify two.0 s) bs rs ps) two.1 ∙ two.2)) x
            (step_led bs cs (rs ++ t.reads) ps qs x bound left.2 n rec t.step f)
          where
            next : ℕ → Option Ended
            next m = step_on (unify m s) bs (rs ++ t.reads) ps t.step

            up : Grows next
            up m = step_more (unify m s) (unify (suc m) s) (unify_more s m) bs (rs ++ t.reads) ps t.step

            treats : Answers (λ m. pair m (s ++ bs) p.0 p.1) t
            treats =
                pair_led (s ++ bs) (short ++ cs) (shortened_over s short bs cs shortened bound) n p.0 p.1 q.0 q.1 t left.0 left.1 unmarked i

  -- unification over shorter bindings, of pairs to whose sides others lead
  pub unify_led : (n : ℕ) (x : Ended) → Onward n x
  unify_led zero x bs cs rs ps qs bound left e = cc
  unify_led (suc n) x bs cs rs [] [] bound left e =
      let is : done cs rs ≡ x = cc in subst (EndsAlike s (λ m. unify m s bs rs [])) is (bs, (1, refl), bound)
  unify_led (suc n) x bs cs rs (p ∷ ps) (q ∷ qs) bound left e = go (first_of q.1) refl (unify_led n x)
    where
      go : (o : Option ℕ) → first_of q.1 ≡ o → Onward n x → EndsAlike s (λ m. unify m s bs rs (p ∷ ps)) x
      go (Some k) i rec = takes_led n bs cs rs p q ps qs x bound left rec k i e
      go None i rec = compared_led n bs cs rs p q ps qs x bound left rec i e
  unify_led (suc n) x bs cs rs [] (q ∷ qs) bound left e = absurd left
  unify_led (suc n) x bs cs rs (p ∷ ps) [] bound left e = absurd left
