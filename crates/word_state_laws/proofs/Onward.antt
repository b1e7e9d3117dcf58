-- Ways from the term behind a variable, and ways by shorter bindings.
use Rattle.std.proofs.Common.{◌≡◌, ℕ, zero, suc, ◌⊎◌, Bool, true, false, refl, sym, ap, ◌∙◌, inl, inr, Option, Some, None}
use Rattle.std.specs.Prelude.{option_map, option_and_then}
use Rattle.std.proofs.lemmas.Option.{same_Some}
use Rattle.fcp_model.specs.Places.{Variable}
use Rattle.fcp_model.specs.Terms.{Term, number, string, nil, cons, tuple, var, ro, first, rename, Bindings, find}
use Rattle.fcp_model.specs.Reads.{IsPart}
use Rattle.word_states.specs.Leading.{onward, step, led, LeadsTo, BindingsLead}
use Rattle.word_states.proofs.Leading.{leads_here, leads_by, leads_then, found_short}

-- the term behind a variable keeps its names
pub onward_named : (f : Variable → Variable) (only : Bool) (t : Term Variable)
    → onward only (rename f t) ≡ option_map (rename f) (onward only t)
onward_named f only (first k) = refl
onward_named f true (var v) = refl
onward_named f only t = refl

-- behind a writable variable stands the term itself
onward_same : (t u : Term Variable) → onward false t ≡ Some u → t ≡ u
onward_same (first k) u e = cc
onward_same t u e = same_Some _ _ e

-- and behind a read-only one a term that stays as it is behind another
onward_twice : (only : Bool) (t u v : Term Variable) → onward true t ≡ Some u → onward only u ≡ Some v → u ≡ v
onward_twice only (first k) u v e f = cc
onward_twice true (var x) u v e f = sym (same_Some _ _ e) ∙ same_Some _ _ (ap (onward true) (same_Some _ _ e) ∙ f)
onward_twice false (var x) u v e f = onward_same u v f
onward_twice true t u v e f = sym (same_Some _ _ e) ∙ same_Some _ _ (ap (onward true) (same_Some _ _ e) ∙ f)
onward_twice false t u v e f = onward_same u v f

-- a step, seen from behind a variable
step_onward : (s : Bindings) (only : Bool) (t u v : Term Variable) → step s t ≡ Some u → onward only u ≡ Some v
    → (b : Term Variable) × (onward only t ≡ Some b) × (step s b ≡ Some v)
step_onward s false (var x) u v e f = (var x, refl, e ∙ ap Some (onward_same u v f))
step_onward s true (var x) u v e f = (ro x, refl, go (find s x) refl e)
  where
    go : (o : Option (Term Variable)) → find s x ≡ o → option_and_then (onward false) o ≡ Some u → step s (ro x) ≡ Some v
    go None i g = cc
    go (Some y) i g = ap (option_and_then (onward true)) i ∙ ap (onward true) (onward_same y u g) ∙ f
step_onward s only (ro x) u v e f = go only (find s x) refl e f
  where
    go : (only : Bool) (o : Option (Term Variable)) → find s x ≡ o → option_and_then (onward true) o ≡ Some u → onward only u ≡ Some v
        → (b : Term Variable) × (onward only (ro x) ≡ Some b) × (step s b ≡ Some v)
    go only None i g h = cc
    go true (Some y) i g h = (ro x, refl, e ∙ ap Some (onward_twice true y u v g h))
    go false (Some y) i g h = (ro x, refl, e ∙ ap Some (onward_twice false y u v g h))
step_onward s only (number z) u v e f = cc
step_onward s only (string z) u v e f = cc
step_onward s only nil u v e f = cc
step_onward s only (cons a b) u v e f = cc
step_onward s only (tuple ts) u v e f = cc
step_onward s only (first k) u v e f = cc

-- a way, seen from behind a variable
pub leads_onward : (s : Bindings) (only : Bool) (n : ℕ) (t u v : Term Variable) → led n s t ≡ Some u → onward only u ≡ Some v
    → (b : Term Variable) × (onward only t ≡ Some b) × LeadsTo s b v
leads_onward s only zero t u v e f = (v, ap (onward only) (same_Some t u e) ∙ f, leads_here s v)
leads_onward s only (suc n) t u v e f = go (step s t) refl e (λ d g. leads_onward s only n d u v g f)
  where
    go : (o : Option (Term Variable)) → step s t ≡ o → option_and_then (led n s) o ≡ Some u
        → ((d : Term Variable) → led n s d ≡ Some u → (b : Term Variable) × (onward only d ≡ Some b) × LeadsTo s b v)
        → (b : Term Variable) × (onward only t ≡ Some b) × LeadsTo s b v
    go None i g on = cc
    go (Some d) i g on =
        let r = on d g in
        let z = step_onward s only t d r.0 i r.1 in
        (z.0, z.1, leads_by s z.0 r.0 v z.2 r.2)

module _ (s bs cs : Bindings) (part : IsPart bs s) (leads : BindingsLead s bs cs) where
  -- behind a variable of the shorter bindings stands a term to which the other's leads
  behind : (only : Bool) (v : Variable) (u : Term Variable) → option_and_then (onward only) (find cs v) ≡ Some u
      → (t : Term Variable) × (option_and_then (onward only) (find s v) ≡ Some t) × LeadsTo s t u
  behind only v u e = go (found_short s bs cs v leads)
    where
      go : ((find bs v ≡ None) × (find cs v ≡ None)) ⊎ ((x y : Term Variable) × (find bs v ≡ Some x) × (find cs v ≡ Some y) × LeadsTo s x y)
          → (t : Term Variable) × (option_and_then (onward only) (find s v) ≡ Some t) × LeadsTo s t u
      go (inl r) = let bad : None ≡ Some u = sym (ap (option_and_then (onward only)) r.1) ∙ e in cc
      go (inr r) =
          let z = leads_onward s only r.4.0 r.0 r.1 u r.4.1 (sym (ap (option_and_then (onward only)) r.3) ∙ e) in
          (z.0, ap (option_and_then (onward only)) (part v r.0 r.2) ∙ z.1, z.2)

  step_within : (t u : Term Variable) → step cs t ≡ Some u → LeadsTo s t u
  step_within (var v) u e = let r = behind false v u e in leads_by s (var v) r.0 u r.1 r.2
  step_within (ro v) u e = let r = behind true v u e in leads_by s (ro v) r.0 u r.1 r.2
  step_within (number z) u e = cc
  step_within (string z) u e = cc
  step_within nil u e = cc
  step_within (cons a b) u e = cc
  step_within (tuple ts) u e = cc
  step_within (first k) u e = cc

  led_within : (n : ℕ) (t u : Term Variable) → led n cs t ≡ Some u → LeadsTo s t u
  led_within zero t u e = (0, e)
  led_within (suc n) t u e = go (step cs t) refl e (led_within n)
    where
      go : (o : Option (Term Variable)) → step cs t ≡ o → option_and_then (led n cs) o ≡ Some u
          → ((b v : Term Variable) → led n cs b ≡ Some v → LeadsTo s b v) → LeadsTo s t u
      go None i f on = cc
      go (Some b) i f on = leads_then s t b u (step_within t b i) (on b u f)

  -- what leads to a term by the shorter bindings leads there by the others
  pub leads_within : (t u : Term Variable) → LeadsTo cs t u → LeadsTo s t u
  leads_within t u h = led_within h.0 t u h.1
