-- Ways behind bound variables, once the variables of a committed clause have their places.
use Rattle.std.proofs.Common.{◌≡◌, ◌⊎◌, ℕ, zero, suc, ◌<◌, ◌≤◌, Bool, true, false, cond, List, [], ◌∷◌, ◌++◌, map, refl, sym, ap, ◌∙◌}
use Rattle.std.proofs.Common.{inl, inr, arith, Option, Some, None}
use Rattle.std.specs.Prelude.{option_map, option_and_then}
use Rattle.std.proofs.lemmas.Option.{same_Some}
use Rattle.fcp_model.specs.declared.run.Place.{Place}
use Rattle.fcp_model.specs.Places.{Variable, made, own, place, placed, is_same}
use Rattle.fcp_model.specs.Terms.{Term, number, string, nil, cons, tuple, var, ro, first, Terms, none, more, rename, renames, settle}
use Rattle.fcp_model.specs.Terms.{Bindings, find}
use Rattle.fcp_model.specs.Expressions.{Expr, leaf, op, rename_expr}
use Rattle.fcp_model.specs.Programs.{Goal, user, true', unifies, assigns, rename_goal}
use Rattle.fcp_model.specs.Reads.{IsPart, BindsPlaces}
use Rattle.fcp_model.specs.States.{State}
use Rattle.fcp_model.specs.Events.{settled}
use Rattle.fcp_model.proofs.Finding.{found_or, find-append}
use Rattle.word_states.specs.Words.{Words}
use Rattle.word_states.specs.Standing.{Book, StandsFor}
use Rattle.word_states.specs.Leading.{onward, step, led, LeadsTo, AllLead, ExprLeads, GoalLeads, BindingsLead, AreShortened}
use Rattle.word_states.proofs.Leading.{found_short, bindings_lead_more}
use Rattle.leading_laws.proofs.Extending.{part_append, lead_both}
use Rattle.word_state_laws.proofs.Settling.{AreBefore, find-settled, find-settled_own}
use Rattle.word_state_laws.proofs.Onward.{onward_named, leads_within}

-- a term whose variables have their places keeps them
settle_twice : (m n : ℕ) (v : Variable) → settle m (settle n v) ≡ settle n v
settle_twice m n (made j) = refl
settle_twice m n (own k) = refl

mutual
  pub settled_twice : (m n : ℕ) (t : Term Variable) → rename (settle m) (rename (settle n) t) ≡ rename (settle n) t
  settled_twice m n (number z) = refl
  settled_twice m n (string z) = refl
  settled_twice m n nil = refl
  settled_twice m n (cons a b) = λ i. cons (settled_twice m n a i) (settled_twice m n b i)
  settled_twice m n (tuple ts) = ap tuple (all_settled_twice m n ts)
  settled_twice m n (var v) = ap var (settle_twice m n v)
  settled_twice m n (ro v) = ap ro (settle_twice m n v)
  settled_twice m n (first k) = refl

  all_settled_twice : (m n : ℕ) (ts : Terms Variable) → renames (settle m) (renames (settle n) ts) ≡ renames (settle n) ts
  all_settled_twice m n none = refl
  all_settled_twice m n (more t ts) = λ i. more (settled_twice m n t i) (all_settled_twice m n ts i)

-- what is bound behind others is bound, where the others leave it open
pub part_right : (s bs : Bindings) → ((v : Variable) (t : Term Variable) → find bs v ≡ Some t → find s v ≡ None) → IsPart bs (s ++ bs)
part_right s bs apart v t e = find-append s bs v ∙ ap (λ o. found_or o (find bs v)) (apart v t e) ∙ e

-- goals lead where their arguments do
module _ (s s' : Bindings) (f : Variable → Variable)
    (on : (t u : Term Variable) → LeadsTo s t u → LeadsTo s' (rename f t) (rename f u)) where
  all_lead_named : (ts us : List (Term Variable)) → AllLead s ts us → AllLead s' (map (rename f) ts) (map (rename f) us)
  all_lead_named [] [] h = tt
  all_lead_named (t ∷ ts) (u ∷ us) h = (on t u h.0, all_lead_named ts us h.1)
  all_lead_named [] (u ∷ us) h = h
  all_lead_named (t ∷ ts) [] h = h

  expr_leads_named : (e d : Expr Variable) → ExprLeads s e d → ExprLeads s' (rename_expr f e) (rename_expr f d)
  expr_leads_named (leaf t) (leaf u) h = on t u h
  expr_leads_named (op o a b) (op q c d) h = (h.0, expr_leads_named a c h.1, expr_leads_named b d h.2)
  expr_leads_named (leaf t) (op q c d) h = h
  expr_leads_named (op o a b) (leaf u) h = h

  pub goal_leads_named : (g h : Goal Variable) → GoalLeads s g h → GoalLeads s' (rename_goal f g) (rename_goal f h)
  goal_leads_named (user p ts) (user q us) l = (l.0, all_lead_named ts us l.1)
  goal_leads_named true' true' l = tt
  goal_leads_named (unifies t u) (unifies v x) l = (on t v l.0, on u x l.1)
  goal_leads_named (assigns t e) (assigns v x) l = (on t v l.0, expr_leads_named e x l.1)
  goal_leads_named (user p ts) true' l = absurd l
  goal_leads_named (user p ts) (unifies v x) l = absurd l
  goal_leads_named (user p ts) (assigns v x) l = absurd l
  goal_leads_named true' (user p ts) l = absurd l
  goal_leads_named true' (unifies v x) l = absurd l
  goal_leads_named true' (assigns v x) l = absurd l
  goal_leads_named (unifies t u) (user p ts) l = absurd l
  goal_leads_named (unifies t u) true' l = absurd l
  goal_leads_named (unifies t u) (assigns v x) l = absurd l
  goal_leads_named (assigns t e) (user p ts) l = absurd l
  goal_leads_named (assigns t e) true' l = absurd l
  goal_leads_named (assigns t e) (unifies v x) l = absurd l

-- What is known of the bindings s of a state, and of those bs of a try that commits by entry n.
pub record MaySettle (n : ℕ) (s bs : Bindings) : Type 0 where
  -- places alone are bound, and their terms stay as they are when variables get places
  pub own_free : BindsPlaces s
  pub own_absent : (v : Variable) (t : Term Variable) (m : ℕ) → find s v ≡ Some t → rename (settle m) t ≡ t
  -- the new places are unbound, and the try binds places of earlier entries
  pub new_free : (k : ℕ) → find s (placed n k) ≡ None
  pub before : AreBefore n bs

-- the places of the next entry are unbound
pub new_unbound : {book : Book} {w : Words} {s : State} (stands : StandsFor book w s) (k : ℕ)
    → find s.bound (placed (suc s.entries) k) ≡ None
new_unbound {s = s} stands k = go (find s.bound (placed (suc s.entries) k)) refl
  where
    go : (o : Option (Term Variable)) → find s.bound (placed (suc s.entries) k) ≡ o → find s.bound (placed (suc s.entries) k) ≡ None
    go None i = i
    go (Some t) i = let le : suc s.entries ≤ s.entries = stands.dated_bound (place (suc s.entries) k) t i in absurd (omega arith)

-- So it is of a state for which words stand.
pub may_settle : (book : Book) (w : Words) (s : State) (bs cs : Bindings) → StandsFor book w s → BindingsLead (s.bound ++ bs) bs cs
    → ((j : Place) (t : Term Variable) → find cs (made j) ≡ Some t → j.entry ≤ s.entries) → MaySettle (suc s.entries) s.bound bs
may_settle book w s bs cs stands leads old = record {
  own_free = stands.own_free;
  own_absent = stands.own_absent;
  new_free = new_unbound stands;
  before = λ j t e. before j t e (found_short (s.bound ++ bs) bs cs (made j) leads);
}
  where
    before : (j : Place) (t : Term Variable) → find bs (made j) ≡ Some t
        → ((find bs (made j) ≡ None) × (find cs (made j) ≡ None))
        ⊎ ((x y : Term Variable) × (find bs (made j) ≡ Some x) × (find cs (made j) ≡ Some y) × LeadsTo (s.bound ++ bs) x y)
        → j.entry < suc s.entries
    before j t e (inl r) = let bad : Some t ≡ None = sym e ∙ r.0 in cc
    before j t e (inr r) = let le = old j r.1 r.3 in omega arith

module _ (n : ℕ) (s bs : Bindings) (may : MaySettle n s bs) where
  found_settled : (v : Variable) (t : Term Variable) → find (s ++ bs) v ≡ Some t
      → find (s ++ settled n bs) (settle n v) ≡ Some (rename (settle n) t)
  found_settled (made j) t e = go (find s (made j)) refl (sym (find-append s bs (made j)) ∙ e)
    where
      go : (o : Option (Term Variable)) → find s (made j) ≡ o → found_or o (find bs (made j)) ≡ Some t
          → find (s ++ settled n bs) (made j) ≡ Some (rename (settle n) t)
      go (Some y) i f =
          let same : y ≡ t = same_Some y t f in
          find-append s (settled n bs) (made j)
          ∙ ap (λ o. found_or o (find (settled n bs) (made j))) i ∙ ap Some same
          ∙ ap Some (sym (may.own_absent (made j) t n (i ∙ f)))
      go None i f =
          find-append s (settled n bs) (made j)
          ∙ ap (λ o. found_or o (find (settled n bs) (made j))) i
          ∙ find-settled n bs j (may.before j t f)
          ∙ ap (option_map (rename (settle n))) f
  found_settled (own k) t e =
      let f : find bs (own k) ≡ Some t = ap (λ o. found_or o (find bs (own k))) (sym (may.own_free k))
      ∙ sym (find-append s bs (own k)) ∙ e in
      find-append s (settled n bs) (placed n k)
      ∙ ap (λ o. found_or o (find (settled n bs) (placed n k))) (may.new_free k)
      ∙ find-settled_own n bs k may.before
      ∙ ap (option_map (rename (settle n))) f

  step_settled : (t u : Term Variable) → step (s ++ bs) t ≡ Some u
      → step (s ++ settled n bs) (rename (settle n) t) ≡ Some (rename (settle n) u)
  step_settled (var v) u e = go (find (s ++ bs) v) refl e
    where
      go : (o : Option (Term Variable)) → find (s ++ bs) v ≡ o → option_and_then (onward false) o ≡ Some u
          → step (s ++ settled n bs) (var (settle n v)) ≡ Some (rename (settle n) u)
      go None i f = cc
      go (Some y) i f =
          ap (option_and_then (onward false)) (found_settled v y i) ∙ onward_named (settle n) false y
          ∙ ap (option_map (rename (settle n))) f
  step_settled (ro v) u e = go (find (s ++ bs) v) refl e
    where
      go : (o : Option (Term Variable)) → find (s ++ bs) v ≡ o → option_and_then (onward true) o ≡ Some u
          → step (s ++ settled n bs) (ro (settle n v)) ≡ Some (rename (settle n) u)
      go None i f = cc
      go (Some y) i f =
          ap (option_and_then (onward true)) (found_settled v y i) ∙ onward_named (settle n) true y
          ∙ ap (option_map (rename (settle n))) f
  step_settled (number z) u e = cc
  step_settled (string z) u e = cc
  step_settled nil u e = cc
  step_settled (cons a b) u e = cc
  step_settled (tuple ts) u e = cc
  step_settled (first k) u e = cc

  led_settled : (i : ℕ) (t u : Term Variable) → led i (s ++ bs) t ≡ Some u
      → led i (s ++ settled n bs) (rename (settle n) t) ≡ Some (rename (settle n) u)
  led_settled zero t u e = ap (option_map (rename (settle n))) e
  led_settled (suc i) t u e = go (step (s ++ bs) t) refl e (led_settled i)
    where
      go : (o : Option (Term Variable)) → step (s ++ bs) t ≡ o → option_and_then (led i (s ++ bs)) o ≡ Some u
          → ((b v : Term Variable) → led i (s ++ bs) b ≡ Some v
          → led i (s ++ settled n bs) (rename (settle n) b) ≡ Some (rename (settle n) v))
          → led (suc i) (s ++ settled n bs) (rename (settle n) t) ≡ Some (rename (settle n) u)
      go None j f on = cc
      go (Some b) j f on = ap (option_and_then (led i (s ++ settled n bs))) (step_settled t b j) ∙ on b u f

  -- a way stays one where the clause's variables have their places
  pub leads_settled : (t u : Term Variable) → LeadsTo (s ++ bs) t u
      → LeadsTo (s ++ settled n bs) (rename (settle n) t) (rename (settle n) u)
  leads_settled t u h = (h.0, led_settled h.0 t u h.1)

  all_bindings_settled : (as' cs : Bindings) → BindingsLead (s ++ bs) as' cs
      → BindingsLead (s ++ settled n bs) (settled n as') (settled n cs)
  all_bindings_settled [] [] h = tt
  all_bindings_settled (a ∷ as') (c ∷ cs) h = (ap (settle n) h.0, leads_settled a.1 c.1 h.1, all_bindings_settled as' cs h.2)
  all_bindings_settled [] (c ∷ cs) h = h
  all_bindings_settled (a ∷ as') [] h = h

  -- the bindings after the commit, with shorter ways
  pub shortened_after : (short cs : Bindings) → AreShortened s short → BindingsLead (s ++ bs) bs cs
      → AreShortened (s ++ settled n bs) (short ++ settled n cs)
  shortened_after short cs h k = lead_both (s ++ settled n bs) s short (settled n bs) (settled n cs)
      (bindings_lead_more s (s ++ settled n bs) (part_append s (settled n bs)) s short h) (all_bindings_settled bs cs k)

  -- goals that lead by shorter bindings of the try alone lead by those after the commit
  pub goal_settled : (cs : Bindings) → IsPart bs (s ++ bs) → BindingsLead (s ++ bs) bs cs → (g h : Goal Variable) → GoalLeads cs g h
      → GoalLeads (s ++ settled n bs) (rename_goal (settle n) g) (rename_goal (settle n) h)
  goal_settled cs part leads = goal_leads_named cs (s ++ settled n bs) (settle n)
      (λ t u l. leads_settled t u (leads_within (s ++ bs) bs cs part leads t u l))

  -- and no variable of the clause stands in a bound term
  settled_absent : (cs : Bindings) (v : Variable) (t : Term Variable) (m : ℕ) → find (settled n cs) v ≡ Some t → rename (settle m) t ≡ t
  settled_absent [] v t m e = cc
  settled_absent (c ∷ cs) v t m e = go (is_same (settle n c.0) v) e (settled_absent cs v t m)
    where
      go : (b : Bool) → cond b (Some (rename (settle n) c.1)) (find (settled n cs) v) ≡ Some t
          → (find (settled n cs) v ≡ Some t → rename (settle m) t ≡ t) → rename (settle m) t ≡ t
      go true f on =
          let same : rename (settle n) c.1 ≡ t = same_Some _ _ f in
          ap (rename (settle m)) (sym same) ∙ settled_twice m n c.1 ∙ same
      go false f on = on f

  pub absent_after : (v : Variable) (t : Term Variable) (m : ℕ) → find (s ++ settled n bs) v ≡ Some t → rename (settle m) t ≡ t
  absent_after v t m e = go (find s v) refl (sym (find-append s (settled n bs) v) ∙ e)
    where
      go : (o : Option (Term Variable)) → find s v ≡ o → found_or o (find (settled n bs) v) ≡ Some t → rename (settle m) t ≡ t
      go (Some y) i f = may.own_absent v t m (i ∙ f)
      go None i f = settled_absent bs v t m f
