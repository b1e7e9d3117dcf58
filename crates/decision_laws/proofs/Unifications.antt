-- A unification ends: each binding leaves fewer variables unbound, and each other step leaves lighter pairs.
use Rattle.std.proofs.Common.{◌≡◌, ℕ, zero, suc, ◌+◌, ◌<◌, ◌≤◌, Bool, true, false, cond, List, [], ◌∷◌, ◌++◌, Option, Some, None, refl, sym, ap, ◌∙◌, subst, arith, inl, inr, ⊎_elim, append_assoc}
use Rattle.std.specs.Prelude.{◌⊎◌, ◌||◌, is_some, nat_eq}
use Rattle.std.proofs.lemmas.Bool.{eqb-true}
use Rattle.std.proofs.lemmas.Bool.Decides.{nat_tests}
use Rattle.fcp_model.specs.declared.run.Place.{Place}
use Rattle.fcp_model.specs.Places.{Variable, made, own, is_same_place, is_listed}
use Rattle.fcp_model.specs.Terms.{Term, Bindings, find}
use Rattle.fcp_model.specs.Pair.{Pair, Step, nothing, binds, clashes, waits, parts, pair}
use Rattle.fcp_model.specs.Unification.{Ended, done, clash, wait, step_on, go_on, unify}
use Rattle.fcp_model.specs.Ranks.{Ranked}
use Rattle.fcp_model.proofs.Finding.{is_same_place-true, is_same_refl, found_or, find-append}
use Rattle.binding_laws.proofs.MetTerms.{IsMet, met_in, met_in_above, IsMet-above}
use Rattle.binding_laws.proofs.MetPairs.{pairs_met, pairs_met_above, ArePairsMarked}
use Rattle.binding_laws.proofs.MetBindings.{AreMetBindings}
use Rattle.binding_laws.proofs.MetSteps.{IsMetStep, pair_met}
use Rattle.binding_laws.proofs.MetUnification.{IsMetTry, try_above, try_more, parts_marked, parts_meet}
use Rattle.binding_laws.proofs.MetDecisions.{try_first}
use Rattle.binding_laws.proofs.KeptBindings.{Listed}
use Rattle.decision_laws.proofs.Settling.{Settles, at_once, and_then, one_step}
use Rattle.decision_laws.proofs.Sizes.{size, size_positive, weight, weight-append}
use Rattle.decision_laws.proofs.Pairs.{IsLighter, pair_settles}

-- the variable is one of a list
abbrev IsAmong : Variable → List Variable → Type 0
IsAmong v [] = ⊥
IsAmong v (u ∷ us) = (v ≡ u) ⊎ IsAmong v us

-- the variables that a try can bind: some places, and the clause's variables n to 1
abbrev bindable : List Place → ℕ → List Variable
bindable [] zero = []
bindable [] (suc n) = own (suc n) ∷ bindable [] n
bindable (p ∷ ps) n = made p ∷ bindable ps n

own_among : (n k : ℕ) → 1 ≤ k → k ≤ n → IsAmong (own k) (bindable [] n)
own_among zero k h i = absurd (omega arith)
own_among (suc n) k h i = go (nat_eq k (suc n)) refl (λ j. own_among n k h j)
  where
    below : (a b : ℕ) → a ≤ suc b → nat_eq a (suc b) ≡ false → a ≤ b
    below a b l e = grind (arith, nat_tests)

    go : (c : Bool) → nat_eq k (suc n) ≡ c → (k ≤ n → IsAmong (own k) (bindable [] n)) → IsAmong (own k) (bindable [] (suc n))
    go true e rec = inl (ap own (eqb-true k (suc n) e))
    go false e rec = inr (rec (below k n i e))

met_among : (ps : List Place) (n : ℕ) (v : Variable) → IsMet (Listed ps) n v → IsAmong v (bindable ps n)
met_among [] n (made p) h = cc
met_among [] n (own k) h = own_among n k h.0 h.1
met_among (q ∷ ps) n (own k) h = inr (met_among ps n (own k) h)
met_among (q ∷ ps) n (made p) h = go (is_same_place q p) refl h (λ i. met_among ps n (made p) i)
  where
    go : (c : Bool) → is_same_place q p ≡ c → (c || is_listed p ps) ≡ true → (is_listed p ps ≡ true → IsAmong (made p) (bindable ps n))
        → IsAmong (made p) (made q ∷ bindable ps n)
    go true e i rec = inl (ap made (sym (is_same_place-true q p e)))
    go false e i rec = inr (rec i)

-- how many of the listed variables are unbound
abbrev pub unbound_in : Bindings → List Variable → ℕ
unbound_in s [] = 0
unbound_in s (v ∷ vs) = cond (is_some (find s v)) 0 1 + unbound_in s vs

module _ (s : Bindings) (p : Variable) (t : Term Variable) where
  one_at_most : (q : Variable) → cond (is_some (find (s ++ (p, t) ∷ []) q)) 0 1 ≤ cond (is_some (find s q)) 0 1
  one_at_most q = go (find s q) (find ((p, t) ∷ []) q) (find-append s ((p, t) ∷ []) q)
    where
      go : (o o' : Option (Term Variable)) → find (s ++ (p, t) ∷ []) q ≡ found_or o o'
          → cond (is_some (find (s ++ (p, t) ∷ []) q)) 0 1 ≤ cond (is_some o) 0 1
      go (Some u) o' e = rw e (omega arith)
      go None (Some u) e = rw e (omega arith)
      go None None e = rw e (omega arith)

  one_less : find s p ≡ None → cond (is_some (find (s ++ (p, t) ∷ []) p)) 0 1 < cond (is_some (find s p)) 0 1
  one_less u =
      let e : find (s ++ (p, t) ∷ []) p ≡ Some t =
      find-append s ((p, t) ∷ []) p
      ∙ (ap (λ o. found_or o (find ((p, t) ∷ []) p)) u ∙ ap (λ c. cond c (Some t) None) (is_same_refl p)) in
      rw (e, u) (omega arith)

  not_more : (vs : List Variable) → unbound_in (s ++ (p, t) ∷ []) vs ≤ unbound_in s vs
  not_more [] = omega arith
  not_more (q ∷ vs) = omega (arith, one_at_most q, not_more vs)

  -- a binding of a listed variable leaves fewer unbound
  fewer_unbound : find s p ≡ None → (vs : List Variable) → IsAmong p vs → unbound_in (s ++ (p, t) ∷ []) vs < unbound_in s vs
  fewer_unbound u [] h = absurd h
  fewer_unbound u (q ∷ vs) h = ⊎_elim here (λ i. let rec = fewer_unbound u vs i in omega (arith, one_at_most q, rec)) h
    where
      here : p ≡ q → unbound_in (s ++ (p, t) ∷ []) (q ∷ vs) < unbound_in s (q ∷ vs)
      here same =
          let less = subst (λ x. cond (is_some (find (s ++ (p, t) ∷ []) x)) 0 1 < cond (is_some (find s x)) 0 1) same (one_less u) in
          omega (arith, less, not_more vs)

-- where a unification succeeds its bindings keep those of the state without a cycle
abbrev pub KeepsRanks : Bindings → Ended → Type 0
KeepsRanks s (done bs rs) = Ranked (s ++ bs)
KeepsRanks s (clash rs) = Unit {0}
KeepsRanks s (wait rs) = Unit {0}

module _ (known : List Place) (vars : ℕ) (s : Bindings) where
  -- the places and the clause's variables 1 to n were met
  abbrev Met : ℕ → Bindings → Type 0
  Met n bs = IsMetTry (Listed known) n s bs

  abbrev unbound : Bindings → ℕ
  unbound bs = unbound_in (s ++ bs) (bindable known vars)

  -- what holds at each step: what was bound was met, the marks of the pairs are new, and they are of the clause's variables
  record InOrder (n : ℕ) (bs : Bindings) (ps : List Pair) : Type 0 where
    met : Met n bs
    marked : ArePairsMarked (Listed known) n ps
    within : pairs_met n ps ≤ vars

  -- the unification ends
  abbrev EndsFrom : Bindings → List Variable → List Pair → Type 0
  EndsFrom bs rs ps = Settles (KeepsRanks s) (λ n. unify n s bs rs ps)

  -- each one with fewer unbound variables ends
  abbrev EndsBelow : ℕ → Type 0
  EndsBelow u = (n : ℕ) (bs : Bindings) (rs : List Variable) (ps : List Pair) → InOrder n bs ps → unbound bs < u → EndsFrom bs rs ps

  -- and so does each one with at most so many, and lighter pairs
  abbrev EndsWithin : ℕ → ℕ → Type 0
  EndsWithin u k = (n : ℕ) (bs : Bindings) (rs : List Variable) (ps : List Pair) → InOrder n bs ps → unbound bs < suc u
      → weight (s ++ bs) ps ≤ k → EndsFrom bs rs ps

  module _ (u : ℕ) (rec : EndsBelow u) where
    after_step : (k n : ℕ) (bs : Bindings) (rs : List Variable) (ab : Pair) (ps : List Pair) → InOrder n bs (ab ∷ ps) → unbound bs < suc u
        → weight (s ++ bs) (ab ∷ ps) ≤ suc k → EndsWithin u k → (st : Step) → IsMetStep (Listed known) n (met_in n ab.1) (s ++ bs) st
        → IsLighter (s ++ bs) (size (s ++ bs) ab.0 + size (s ++ bs) ab.1) st → Settles (KeepsRanks s) (λ j. step_on (unify j s) bs rs ps st)
    after_step k n bs rs ab ps h o l inner nothing f z =
        let last : ℕ = met_in n ab.1 in
        let met : Met last bs = try_above (Listed known) n last s bs (met_in_above n ab.1) h.met in
        inner last bs rs ps (record { met = met; marked = h.marked.2; within = h.within }) o (omega (arith, l, z))
    after_step k n bs rs ab ps h o l inner (parts qs) f z =
        let last : ℕ = met_in n ab.1 in
        let within : pairs_met f.from (qs ++ ps) ≤ vars = omega (arith, parts_meet (Listed known) n last qs ps f, h.within) in
        let met : Met f.from bs = try_above (Listed known) n f.from s bs f.above h.met in
        let marked = parts_marked (Listed known) n last qs ps f h.marked.2 in
        inner f.from bs rs (qs ++ ps) (record { met = met; marked = marked; within = within })
        o (omega (arith, l, z, weight-append (s ++ bs) qs ps))
    after_step k n bs rs ab ps h o l inner (binds p t) f z =
        let last : ℕ = met_in n ab.1 in
        let met : Met last (bs ++ (p, t) ∷ []) = try_more (Listed known) n last s bs p t (met_in_above n ab.1) h.met f in
        let below : last ≤ vars = omega (arith, pairs_met_above last ps, h.within) in
        let among : IsAmong p (bindable known vars) = met_among known vars p (IsMet-above (Listed known) last vars below p f.variable) in
        let joined : (s ++ bs) ++ (p, t) ∷ [] ≡ s ++ (bs ++ (p, t) ∷ []) = append_assoc s bs ((p, t) ∷ []) in
        let fewer = fewer_unbound (s ++ bs) p t f.unbound (bindable known vars) among in
        rec last (bs ++ (p, t) ∷ []) rs ps (record { met = met; marked = h.marked.2; within = h.within })
        (subst (λ w. unbound_in w (bindable known vars) < u) joined (omega (arith, fewer)))
    after_step k n bs rs ab ps h o l inner clashes f z = at_once (KeepsRanks s) (clash rs) tt
    after_step k n bs rs ab ps h o l inner waits f z = at_once (KeepsRanks s) (wait rs) tt

    -- by the weight of the pairs, until a binding is made
    within : (k : ℕ) → EndsWithin u k
    within k n bs rs [] h o l =
        one_step (KeepsRanks s) (λ j. unify j s bs rs []) (λ j. Some (done bs rs)) (λ j. refl)
        (at_once (KeepsRanks s) (done bs rs) h.met.bindings.ranked)
    within zero n bs rs (ab ∷ ps) h o l = absurd (omega (arith, size_positive (s ++ bs) ab.0))
    within (suc k) n bs rs (ab ∷ ps) h o l =
        let x = pair_settles (s ++ bs) h.met.bindings.ranked ab.0 ab.1 in
        let same = x.is x.steps (omega arith) in
        let met = pair_met (Listed known) n (s ++ bs) h.met.bindings x.steps ab.0 ab.1 h.marked.0 h.marked.1 x.answer same in
        one_step (KeepsRanks s) (λ j. unify j s bs rs (ab ∷ ps)) (λ j. go_on (unify j s) bs rs ps (pair j (s ++ bs) ab.0 ab.1)) (λ j. refl)
        (and_then _ (KeepsRanks s) (λ j. pair j (s ++ bs) ab.0 ab.1) (λ j y. go_on (unify j s) bs rs ps y) x
        (after_step k n bs (rs ++ x.answer.reads) ab ps h o l (λ n' bs' rs' ps'. within k n' bs' rs' ps') x.answer.step met x.holds))

  -- by the number of unbound variables
  below : (u : ℕ) → EndsBelow u
  below zero n bs rs ps h o = absurd (omega arith)
  below (suc u) n bs rs ps h o = within u (below u) (weight (s ++ bs) ps) n bs rs ps h o (omega arith)

  -- Over bindings of known places a unification of pairs whose marks are new, and of the clause's variables, ends. Where it
  -- succeeds, its bindings have no cycle.
  pub unify_settles : (ps : List Pair) → AreMetBindings (Listed known) 0 s → ArePairsMarked (Listed known) 0 ps → pairs_met 0 ps ≤ vars
      → Settles (KeepsRanks s) (λ n. unify n s [] [] ps)
  unify_settles ps b marked h =
      below (suc (unbound [])) 0 [] [] ps (record { met = try_first (Listed known) s b; marked = marked; within = h }) (omega arith)
