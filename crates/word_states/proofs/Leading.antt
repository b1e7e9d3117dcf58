-- Ways on which terms lead to others.
use Rattle.std.proofs.Common.{◌≡◌, ℕ, zero, suc, ◌+◌, ◌*◌, ◌⊎◌, Bool, true, false, cond, List, [], ◌∷◌}
use Rattle.std.proofs.Common.{refl, sym, ap, ◌∙◌, subst, inl, inr, Option, Some, None}
use Rattle.std.specs.Prelude.{option_and_then, pos}
use Rattle.fcp_model.specs.Places.{Variable, is_same}
use Rattle.fcp_model.specs.Terms.{Term, number, string, nil, cons, tuple, var, ro, first, Bindings, find}
use Rattle.fcp_model.specs.Expressions.{Expr, leaf, op}
use Rattle.fcp_model.specs.Programs.{Goal, user, true', unifies, assigns}
use Rattle.fcp_model.specs.Reads.{IsPart}
use Rattle.fcp_model.specs.States.{Process}
use Rattle.heap_words.specs.declared.cell.Cell.TheVariants.{Small}
use Rattle.word_states.specs.Words.{Words, Grows}
use Rattle.word_states.specs.Denoting.{Addresses, Listed}
use Rattle.word_states.specs.Leading.{onward, step, led, LeadsTo, AllLead, ExprLeads, GoalLeads, GoalStands, BindingsLead}
use Rattle.word_states.specs.Standing.{StatusSays, ProcessSays}
use Rattle.word_states.proofs.Persisting.{at_on, goal_on}

-- each term leads to itself
pub leads_here : (s : Bindings) (t : Term Variable) → LeadsTo s t t
leads_here s t = (0, refl)

pub all_lead_here : (s : Bindings) (ts : List (Term Variable)) → AllLead s ts ts
all_lead_here s [] = tt
all_lead_here s (t ∷ ts) = (leads_here s t, all_lead_here s ts)

pub expr_leads_here : (s : Bindings) (e : Expr Variable) → ExprLeads s e e
expr_leads_here s (leaf t) = leads_here s t
expr_leads_here s (op o a b) = (refl, expr_leads_here s a, expr_leads_here s b)

pub goal_leads_here : (s : Bindings) (g : Goal Variable) → GoalLeads s g g
goal_leads_here s (user f ts) = (refl, all_lead_here s ts)
goal_leads_here s true' = tt
goal_leads_here s (unifies t u) = (leads_here s t, leads_here s u)
goal_leads_here s (assigns t e) = (leads_here s t, expr_leads_here s e)

-- one step, and then a way
pub leads_by : (s : Bindings) (t b u : Term Variable) → step s t ≡ Some b → LeadsTo s b u → LeadsTo s t u
leads_by s t b u e h = (suc h.0, ap (λ o. option_and_then (led h.0 s) o) e ∙ h.1)

-- a way, and then another
pub leads_then : (s : Bindings) (t u v : Term Variable) → LeadsTo s t u → LeadsTo s u v → LeadsTo s t v
leads_then s t u v (zero, e) k = go e
  where
    go : Some t ≡ Some u → LeadsTo s t v
    go e = (k.0, ap (λ o. option_and_then (led k.0 s) o) e ∙ k.1)
leads_then s t u v (suc n, e) k = go (step s t) refl e (λ b f. leads_then s b u v (n, f) k)
  where
    go : (o : Option (Term Variable)) → step s t ≡ o → option_and_then (led n s) o ≡ Some u
        → ((b : Term Variable) → led n s b ≡ Some u → LeadsTo s b v) → LeadsTo s t v
    go None i f on = cc
    go (Some b) i f on = leads_by s t b v i (on b f)

module _ (s s' : Bindings) (more : IsPart s s') where
  -- a step stays where more is bound
  step_more : (t b : Term Variable) → step s t ≡ Some b → step s' t ≡ Some b
  step_more (var v) b e = go (find s v) refl e
    where
      go : (o : Option (Term Variable)) → find s v ≡ o → option_and_then (onward false) o ≡ Some b → step s' (var v) ≡ Some b
      go None i f = cc
      go (Some y) i f = ap (option_and_then (onward false)) (more v y i) ∙ f
  step_more (ro v) b e = go (find s v) refl e
    where
      go : (o : Option (Term Variable)) → find s v ≡ o → option_and_then (onward true) o ≡ Some b → step s' (ro v) ≡ Some b
      go None i f = cc
      go (Some y) i f = ap (option_and_then (onward true)) (more v y i) ∙ f
  step_more (number z) b e = cc
  step_more (string z) b e = cc
  step_more nil b e = cc
  step_more (cons t u) b e = cc
  step_more (tuple ts) b e = cc
  step_more (first k) b e = cc

  led_more : (n : ℕ) (t u : Term Variable) → led n s t ≡ Some u → led n s' t ≡ Some u
  led_more zero t u e = e
  led_more (suc n) t u e = go (step s t) refl e (led_more n)
    where
      go : (o : Option (Term Variable)) → step s t ≡ o → option_and_then (led n s) o ≡ Some u
          → ((b v : Term Variable) → led n s b ≡ Some v → led n s' b ≡ Some v) → led (suc n) s' t ≡ Some u
      go None i f on = cc
      go (Some b) i f on = ap (option_and_then (led n s')) (step_more t b i) ∙ on b u f

  -- what leads to a term leads there where more is bound
  pub leads_more : (t u : Term Variable) → LeadsTo s t u → LeadsTo s' t u
  leads_more t u h = (h.0, led_more h.0 t u h.1)

  pub all_lead_more : (ts us : List (Term Variable)) → AllLead s ts us → AllLead s' ts us
  all_lead_more [] [] h = tt
  all_lead_more (t ∷ ts) (u ∷ us) h = (leads_more t u h.0, all_lead_more ts us h.1)
  all_lead_more [] (u ∷ us) h = h
  all_lead_more (t ∷ ts) [] h = h

  pub expr_leads_more : (e d : Expr Variable) → ExprLeads s e d → ExprLeads s' e d
  expr_leads_more (leaf t) (leaf u) h = leads_more t u h
  expr_leads_more (op o a b) (op q c d) h = (h.0, expr_leads_more a c h.1, expr_leads_more b d h.2)
  expr_leads_more (leaf t) (op q c d) h = h
  expr_leads_more (op o a b) (leaf u) h = h

  pub goal_leads_more : (g h : Goal Variable) → GoalLeads s g h → GoalLeads s' g h
  goal_leads_more (user f ts) (user p us) l = (l.0, all_lead_more ts us l.1)
  goal_leads_more true' true' l = tt
  goal_leads_more (unifies t u) (unifies v x) l = (leads_more t v l.0, leads_more u x l.1)
  goal_leads_more (assigns t e) (assigns v x) l = (leads_more t v l.0, expr_leads_more e x l.1)
  goal_leads_more (user f ts) true' l = absurd l
  goal_leads_more (user f ts) (unifies v x) l = absurd l
  goal_leads_more (user f ts) (assigns v x) l = absurd l
  goal_leads_more true' (user f ts) l = absurd l
  goal_leads_more true' (unifies v x) l = absurd l
  goal_leads_more true' (assigns v x) l = absurd l
  goal_leads_more (unifies t u) (user f ts) l = absurd l
  goal_leads_more (unifies t u) true' l = absurd l
  goal_leads_more (unifies t u) (assigns v x) l = absurd l
  goal_leads_more (assigns t e) (user f ts) l = absurd l
  goal_leads_more (assigns t e) true' l = absurd l
  goal_leads_more (assigns t e) (unifies v x) l = absurd l

  pub bindings_lead_more : (bs cs : Bindings) → BindingsLead s bs cs → BindingsLead s' bs cs
  bindings_lead_more [] [] h = tt
  bindings_lead_more (b ∷ bs) (c ∷ cs) h = (h.0, leads_more b.1 c.1 h.1, bindings_lead_more bs cs h.2)
  bindings_lead_more [] (c ∷ cs) h = h
  bindings_lead_more (b ∷ bs) [] h = h

  -- and a process that has such a goal goes on to have it
  pub goal_stands_on : (w w' : Words) (vs us : Addresses) (p : ℕ) (g : Goal Variable) → Grows w w'
      → ((v : Variable) (a : ℕ) → Listed vs v a → Listed us v a) → GoalStands w vs s p g → GoalStands w' us s' p g
  goal_stands_on w w' vs us p g grows places h = record {
    goal = h.goal;
    leads = goal_leads_more g h.goal h.leads;
    says = goal_on w w' vs us grows places p h.goal h.says;
  }

-- a variable is bound in both, to terms of which the first leads to the second, or in neither
pub found_short : (s bs cs : Bindings) (v : Variable) → BindingsLead s bs cs
    → ((find bs v ≡ None) × (find cs v ≡ None))
    ⊎ ((t u : Term Variable) × (find bs v ≡ Some t) × (find cs v ≡ Some u) × LeadsTo s t u)
found_short s [] [] v h = inl (refl, refl)
found_short s (b ∷ bs) (c ∷ cs) v h = go (is_same b.0 v) refl (found_short s bs cs v h.2)
  where
    Found : Option (Term Variable) → Option (Term Variable) → Type 0
    Found o p = ((o ≡ None) × (p ≡ None)) ⊎ ((t u : Term Variable) × (o ≡ Some t) × (p ≡ Some u) × LeadsTo s t u)

    go : (k : Bool) → is_same b.0 v ≡ k → Found (find bs v) (find cs v) → Found (find (b ∷ bs) v) (find (c ∷ cs) v)
    go true e r = inr (b.1, c.1, ap (λ i. cond i (Some b.1) (find bs v)) e, other true e, h.1)
      where
        other : (k : Bool) → is_same b.0 v ≡ k → find (c ∷ cs) v ≡ cond k (Some c.1) (find cs v)
        other k e = ap (λ i. cond i (Some c.1) (find cs v)) (ap (λ u. is_same u v) (sym h.0) ∙ e)
    go false e r =
        subst (λ o. Found o (find (c ∷ cs) v)) (sym (ap (λ i. cond i (Some b.1) (find bs v)) e))
        (subst (λ o. Found (find bs v) o) (sym (ap (λ i. cond i (Some c.1) (find cs v)) (ap (λ u. is_same u v) (sym h.0) ∙ e))) r)
found_short s [] (c ∷ cs) v h = absurd h
found_short s (b ∷ bs) [] v h = absurd h

-- a process whose words stay
pub process_on : (s s' : Bindings) (w w' : Words) (vs us : Addresses) (limit limit' p : ℕ) (x y : Process) → IsPart s s' → Grows w w'
    → ((v : Variable) (a : ℕ) → Listed vs v a → Listed us v a) → ProcessSays w vs s limit p x
    → y.name ≡ x.name → y.goal ≡ x.goal → ((z : ℕ) × (w' p ≡ Some z) × StatusSays limit' z y.status) → ProcessSays w' us s' limit' p y
process_on s s' w w' vs us limit limit' p x y more grows places h name goal says = record {
  status = says;
  name =
      let r = at_on w w' vs us grows places (p + 1) (Small (pos _)) h.name refl in
      (r.0, r.1, r.2 ∙ ap (λ n. Some (Small (pos (268435456 * n.entry + n.number)))) (sym name));
  goal = subst (GoalStands w' us s' p) (sym goal) (goal_stands_on s s' more w w' vs us p x.goal grows places h.goal);
}

-- what the first bindings leave unbound, the others do, and the other way round
pub open_short : (s bs cs : Bindings) (v : Variable) → BindingsLead s bs cs → find bs v ≡ None → find cs v ≡ None
open_short s bs cs v h e = go (found_short s bs cs v h)
  where
    go : ((find bs v ≡ None) × (find cs v ≡ None)) ⊎ ((t u : Term Variable) × (find bs v ≡ Some t) × (find cs v ≡ Some u) × LeadsTo s t u)
        → find cs v ≡ None
    go (inl r) = r.1
    go (inr r) = let f : None ≡ Some r.0 = sym e ∙ r.2 in cc

pub open_long : (s bs cs : Bindings) (v : Variable) → BindingsLead s bs cs → find cs v ≡ None → find bs v ≡ None
open_long s bs cs v h e = go (found_short s bs cs v h)
  where
    go : ((find bs v ≡ None) × (find cs v ≡ None)) ⊎ ((t u : Term Variable) × (find bs v ≡ Some t) × (find cs v ≡ Some u) × LeadsTo s t u)
        → find bs v ≡ None
    go (inl r) = r.0
    go (inr r) = let f : None ≡ Some r.1 = sym e ∙ r.3 in cc
