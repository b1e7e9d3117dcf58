-- A pair of terms over bindings with shorter ways comes to what it comes to over the bindings that they are of.
use Rattle.std.proofs.Common.{◌≡◌, ℕ, zero, suc, Bool, true, false, List, [], ◌∷◌, ◌++◌, Option, Some, None, refl, sym, ap, ◌∙◌}
use Rattle.std.specs.Prelude.{option_and_then}
use Rattle.fcp_model.specs.Places.{Variable}
use Rattle.fcp_model.specs.Terms.{Term, number, string, nil, cons, tuple, var, ro, first, Bindings, find}
use Rattle.fcp_model.specs.Value.{Look, writable, read_only, solid, value}
use Rattle.fcp_model.specs.Occurs.{Found, occurs}
use Rattle.fcp_model.specs.Pair.{Pair, Treated, bind_solid, table, both_looks, first_of, pair_on, pair}
use Rattle.fcp_model.specs.Reads.{IsPart}
use Rattle.fcp_model.proofs.MoreSteps.{value_more, table_more}
use Rattle.word_states.specs.Leading.{onward, step, led, LeadsTo, AreShortened}
use Rattle.word_states.proofs.Leading.{leads_here, leads_more}
use Rattle.leading_laws.proofs.Answers.{Answers, three_answer}
use Rattle.leading_laws.proofs.Values.{values_led}
use Rattle.leading_laws.proofs.Occurs.{occurs_short}

-- the sides of each pair lead to those of the other one in its place
abbrev pub PairsLead : Bindings → List Pair → List Pair → Type 0
PairsLead s [] [] = Unit {0}
PairsLead s (p ∷ ps) (q ∷ qs) = LeadsTo s p.0 q.0 × LeadsTo s p.1 q.1 × PairsLead s ps qs
PairsLead s _ _ = ⊥

pub pairs_lead_here : (s : Bindings) (ps : List Pair) → PairsLead s ps ps
pairs_lead_here s [] = tt
pairs_lead_here s (p ∷ ps) = (leads_here s p.0, leads_here s p.1, pairs_lead_here s ps)

pub pairs_lead_both : (s : Bindings) (ps qs ps' qs' : List Pair) → PairsLead s ps qs → PairsLead s ps' qs'
    → PairsLead s (ps ++ ps') (qs ++ qs')
pairs_lead_both s [] [] ps' qs' h i = i
pairs_lead_both s (p ∷ ps) (q ∷ qs) ps' qs' h i = (h.0, h.1, pairs_lead_both s ps qs ps' qs' h.2 i)
pairs_lead_both s [] (q ∷ qs) ps' qs' h i = absurd h
pairs_lead_both s (p ∷ ps) [] ps' qs' h i = absurd h

pub pairs_lead_more : (s s' : Bindings) → IsPart s s' → (ps qs : List Pair) → PairsLead s ps qs → PairsLead s' ps qs
pairs_lead_more s s' more [] [] h = tt
pairs_lead_more s s' more (p ∷ ps) (q ∷ qs) h =
    (leads_more s s' more p.0 q.0 h.0, leads_more s s' more p.1 q.1 h.1, pairs_lead_more s s' more ps qs h.2)
pairs_lead_more s s' more [] (q ∷ qs) h = h
pairs_lead_more s s' more (p ∷ ps) [] h = h

-- a way neither begins nor ends at a mark of a first occurrence, unless it has no step
module _ (s : Bindings) where
  onward_unmarked : (only : Bool) (t b : Term Variable) → onward only t ≡ Some b → first_of b ≡ None
  onward_unmarked only (first k) b e = cc
  onward_unmarked true (var q) b e = let i : ro q ≡ b = cc in sym (ap first_of i)
  onward_unmarked false (var q) b e = let i : var q ≡ b = cc in sym (ap first_of i)
  onward_unmarked true (ro q) b e = let i : ro q ≡ b = cc in sym (ap first_of i)
  onward_unmarked false (ro q) b e = let i : ro q ≡ b = cc in sym (ap first_of i)
  onward_unmarked true (number z) b e = let i : number z ≡ b = cc in sym (ap first_of i)
  onward_unmarked false (number z) b e = let i : number z ≡ b = cc in sym (ap first_of i)
  onward_unmarked true (string z) b e = let i : string z ≡ b = cc in sym (ap first_of i)
  onward_unmarked false (string z) b e = let i : string z ≡ b = cc in sym (ap first_of i)
  onward_unmarked true nil b e = let i : nil ≡ b = cc in sym (ap first_of i)
  onward_unmarked false nil b e = let i : nil ≡ b = cc in sym (ap first_of i)
  onward_unmarked true (cons t u) b e = let i : cons t u ≡ b = cc in sym (ap first_of i)
  onward_unmarked false (cons t u) b e = let i : cons t u ≡ b = cc in sym (ap first_of i)
  onward_unmarked true (tuple ts) b e = let i : tuple ts ≡ b = cc in sym (ap first_of i)
  onward_unmarked false (tuple ts) b e = let i : tuple ts ≡ b = cc in sym (ap first_of i)

  behind_unmarked : (only : Bool) (o : Option (Term Variable)) (b : Term Variable) → option_and_then (onward only) o ≡ Some b
      → first_of b ≡ None
  behind_unmarked only None b e = cc
  behind_unmarked only (Some t) b e = onward_unmarked only t b e

  step_marks : (t b : Term Variable) → step s t ≡ Some b → first_of t ≡ first_of b
  step_marks (var q) b e = sym (behind_unmarked false (find s q) b e)
  step_marks (ro q) b e = sym (behind_unmarked true (find s q) b e)
  step_marks (number z) b e = cc
  step_marks (string z) b e = cc
  step_marks nil b e = cc
  step_marks (cons t u) b e = cc
  step_marks (tuple ts) b e = cc
  step_marks (first k) b e = cc

  led_marks : (n : ℕ) (t u : Term Variable) → led n s t ≡ Some u → first_of t ≡ first_of u
  led_marks zero t u e = let i : t ≡ u = cc in ap first_of i
  led_marks (suc n) t u e = go (step s t) refl e (λ b f. led_marks n b u f)
    where
      go : (o : Option (Term Variable)) → step s t ≡ o → option_and_then (led n s) o ≡ Some u
          → ((b : Term Variable) → led n s b ≡ Some u → first_of b ≡ first_of u) → first_of t ≡ first_of u
      go None i f rec = cc
      go (Some b) i f rec = step_marks t b i ∙ rec b f

  -- both have the same mark of a first occurrence, or none
  pub leads_marks : (t u : Term Variable) → LeadsTo s t u → first_of t ≡ first_of u
  leads_marks t u h = led_marks h.0 t u h.1

module _ (s short : Bindings) (shortened : AreShortened s short) where
  bind_short : (n : ℕ) (p : Variable) (t : Term Variable) (x : Treated) → bind_solid p t (occurs n short p t) ≡ Some x
      → Answers (λ m. bind_solid p t (occurs m s p t)) x
  bind_short n p t x e = go (occurs n short p t) refl e
    where
      go : (o : Option Found) → occurs n short p t ≡ o → bind_solid p t o ≡ Some x → Answers (λ m. bind_solid p t (occurs m s p t)) x
      go None i f = cc
      go (Some y) i f = let a = occurs_short s short shortened p n t y i in (a.0, ap (bind_solid p t) a.1 ∙ f)

  table_short : (n : ℕ) (l k : Look) (x : Treated) → table n short l k ≡ Some x → Answers (λ m. table m s l k) x
  table_short n (solid t) (solid u) x e = (0, e)
  table_short n (solid t) (writable q) x e = bind_short n q t x e
  table_short n (solid t) (read_only q) x e = (0, e)
  table_short n (writable p) (solid u) x e = bind_short n p u x e
  table_short n (writable p) (writable q) x e = (0, e)
  table_short n (writable p) (read_only q) x e = (0, e)
  table_short n (read_only p) (solid u) x e = (0, e)
  table_short n (read_only p) (writable q) x e = (0, e)
  table_short n (read_only p) (read_only q) x e = (0, e)

  -- a pair whose second side has no mark of a first occurrence comes to the same
  pub pair_led : (n : ℕ) (a b c d : Term Variable) (x : Treated) → LeadsTo s a c → LeadsTo s b d → first_of d ≡ None
      → pair n short c d ≡ Some x → Answers (λ m. pair m s a b) x
  pair_led n a b c d x to_c to_d unmarked e =
      looks (value n short c) (value n short d) refl refl (sym (ap (pair_on n short c d) unmarked) ∙ e)
    where
      looks : (o r : Option Look) → value n short c ≡ o → value n short d ≡ r → both_looks (table n short) o r ≡ Some x
          → Answers (λ m. pair m s a b) x
      looks None r i j f = cc
      looks (Some l) None i j f = cc
      looks (Some l) (Some k) i j f =
          let all = three_answer (λ m. value m s a) (λ m. value m s b) (λ m. table m s l k) l k x (value_more s a) (value_more s b)
          (table_more s l k) (values_led s short shortened a c l to_c (n, i)) (values_led s short shortened b d k to_d (n, j))
          (table_short n l k x f) in (
            all.0,
            ap (pair_on all.0 s a b) (leads_marks s b d to_d ∙ unmarked)
                ∙ ap (λ o. both_looks (table all.0 s) o (value all.0 s b)) all.1
                ∙ ap (both_looks (table all.0 s) (Some l)) all.2
                ∙ all.3,
          )
