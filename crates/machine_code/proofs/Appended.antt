-- Unification of two lists of pairs, one after the other.
use Rattle.std.proofs.Common.{◌≡◌, ℕ, zero, suc, ◌+◌, List, [], ◌∷◌, ◌++◌, Option, Some, None, refl, sym, ap, ◌∙◌, subst, append_assoc, arith}
use Rattle.fcp_model.specs.Places.{Variable}
use Rattle.fcp_model.specs.Terms.{Bindings}
use Rattle.fcp_model.specs.Pair.{Pair, Step, nothing, binds, clashes, waits, parts, Treated, pair}
use Rattle.fcp_model.specs.Unification.{Ended, done, clash, wait, step_on, go_on, unify}
use Rattle.fcp_model.proofs.MoreSteps.{Refines, Grows, at_least, pair_more, unify_more}
use Rattle.machine_code.specs.Machine.{given}
use Rattle.machine_code.proofs.Same.{Comes, Same}

-- the unification of the second list after an ending of the first
abbrev pub resume : Bindings → List Pair → Ended → ℕ → Option Ended
resume s ps (done bs rs) n = unify n s bs rs ps
resume s ps (clash rs) n = Some (clash rs)
resume s ps (wait rs) n = Some (wait rs)

module _ (s : Bindings) where
  pub resume_more : (ps : List Pair) (e : Ended) → Grows (resume s ps e)
  resume_more ps (done bs rs) n = unify_more s n bs rs ps
  resume_more ps (clash rs) n = λ x e. e
  resume_more ps (wait rs) n = λ x e. e

  -- both lists together come to e: so does the first, and the second after it
  abbrev Splits : List Pair → List Pair → Bindings → List Variable → Ended → Type 0
  Splits ps qs bs rs e = (d : Ended) × Comes (λ n. unify n s bs rs ps) d × Comes (resume s qs d) e

  earlier : (ps : List Pair) (bs : Bindings) (rs : List Variable) (ab : Pair) (n : ℕ) (t : Treated) (d : Ended)
      → pair n (s ++ bs) ab.0 ab.1 ≡ Some t → Comes (λ k. step_on (unify k s) bs (rs ++ t.reads) ps t.step) d
      → Comes (λ k. unify k s bs rs (ab ∷ ps)) d
  earlier ps bs rs ab n t d p (m, c) =
      let p' : pair (n + m) (s ++ bs) ab.0 ab.1 ≡ Some t =
      at_least (λ k. pair k (s ++ bs) ab.0 ab.1) (pair_more (s ++ bs) ab.0 ab.1) n (n + m) (omega arith) t p in
      let c' : step_on (unify (n + m) s) bs (rs ++ t.reads) ps t.step ≡ Some d =
      at_least (λ k. step_on (unify k s) bs (rs ++ t.reads) ps t.step) (λ k. grown k t.step) m (n + m) (omega arith) d c in
      (suc (n + m), ap (λ o. go_on (unify (n + m) s) bs rs ps o) p' ∙ c')
    where
      grown : (k : ℕ) (st : Step) → Refines (step_on (unify k s) bs (rs ++ t.reads) ps st)
          (step_on (unify (suc k) s) bs (rs ++ t.reads) ps st)
      grown k nothing = unify_more s k bs _ ps
      grown k (binds v u) = unify_more s k _ _ ps
      grown k (parts qs) = unify_more s k bs _ _
      grown k clashes = λ x e. e
      grown k waits = λ x e. e

  abbrev SplitAt : ℕ → List Pair → Ended → Type 0
  SplitAt n qs e = (ps : List Pair) (bs : Bindings) (rs : List Variable) → unify n s bs rs (ps ++ qs) ≡ Some e → Splits ps qs bs rs e

  abbrev JoinAt : ℕ → List Pair → Ended → Ended → Type 0
  JoinAt n qs d e =
      (ps : List Pair) (bs : Bindings) (rs : List Variable) → unify n s bs rs ps ≡ Some d → Comes (λ k. unify k s bs rs (ps ++ qs)) e

  split : (n : ℕ) (ps qs : List Pair) (bs : Bindings) (rs : List Variable) (e : Ended) → unify n s bs rs (ps ++ qs) ≡ Some e
      → Splits ps qs bs rs e
  split zero ps qs bs rs e c = let no : ⊥ = cc in absurd no
  split (suc n) [] qs bs rs e c = (done bs rs, (1, refl), (suc n, c))
  split (suc n) (ab ∷ ps) qs bs rs e c = by (λ ps' bs' rs' d. split n ps' qs bs' rs' e d) (pair n (s ++ bs) ab.0 ab.1) refl c
    where
      step : SplitAt n qs e → (t : Treated) (st : Step) → t.step ≡ st → pair n (s ++ bs) ab.0 ab.1 ≡ Some t
          → step_on (unify n s) bs (rs ++ t.reads) (ps ++ qs) st ≡ Some e → Splits (ab ∷ ps) qs bs rs e
      step rec t nothing i p c =
          let h = rec ps bs (rs ++ t.reads) c in (
            h.0,
            earlier ps bs rs ab n t h.0 p
                (subst (λ st. Comes (λ k. step_on (unify k s) bs (rs ++ t.reads) ps st) h.0) (sym i) h.1),
            h.2,
          )
      step rec t (binds v u) i p c =
          let h = rec ps (bs ++ (v, u) ∷ []) (rs ++ t.reads) c in (
            h.0,
            earlier ps bs rs ab n t h.0 p
                (subst (λ st. Comes (λ k. step_on (unify k s) bs (rs ++ t.reads) ps st) h.0) (sym i) h.1),
            h.2,
          )
      step rec t (parts xs) i p c =
          let h =
          rec (xs ++ ps) bs (rs ++ t.reads) (subst (λ l. unify n s bs (rs ++ t.reads) l ≡ Some e) (sym (append_assoc xs ps qs)) c) in (
            h.0,
            earlier ps bs rs ab n t h.0 p
                (subst (λ st. Comes (λ k. step_on (unify k s) bs (rs ++ t.reads) ps st) h.0) (sym i) h.1),
            h.2,
          )
      step rec t clashes i p c =
          (clash (rs ++ t.reads), earlier ps bs rs ab n t _ p (0, ap (λ st. step_on (unify 0 s) bs (rs ++ t.reads) ps st) i), (0, c))
      step rec t waits i p c =
          (wait (rs ++ t.reads), earlier ps bs rs ab n t _ p (0, ap (λ st. step_on (unify 0 s) bs (rs ++ t.reads) ps st) i), (0, c))

      by : SplitAt n qs e → (o : Option Treated) → pair n (s ++ bs) ab.0 ab.1 ≡ o → go_on (unify n s) bs rs (ps ++ qs) o ≡ Some e
          → Splits (ab ∷ ps) qs bs rs e
      by rec None p c = let no : ⊥ = cc in absurd no
      by rec (Some t) p c = step rec t t.step refl p c

  joins : (n : ℕ) (ps qs : List Pair) (bs : Bindings) (rs : List Variable) (d e : Ended) → unify n s bs rs ps ≡ Some d
      → Comes (resume s qs d) e → Comes (λ k. unify k s bs rs (ps ++ qs)) e
  joins zero ps qs bs rs d e c r = let no : ⊥ = cc in absurd no
  joins (suc n) [] qs bs rs d e c r = let i : done bs rs ≡ d = cc in subst (λ x. Comes (resume s qs x) e) (sym i) r
  joins (suc n) (ab ∷ ps) qs bs rs d e c r = by (λ ps' bs' rs' k. joins n ps' qs bs' rs' d e k r) (pair n (s ++ bs) ab.0 ab.1) refl c
    where
      step : JoinAt n qs d e → (t : Treated) (st : Step) → t.step ≡ st → pair n (s ++ bs) ab.0 ab.1 ≡ Some t
          → step_on (unify n s) bs (rs ++ t.reads) ps st ≡ Some d → Comes (λ k. unify k s bs rs (ab ∷ (ps ++ qs))) e
      step rec t nothing i p c =
          earlier (ps ++ qs) bs rs ab n t e p
          (subst (λ st. Comes (λ k. step_on (unify k s) bs (rs ++ t.reads) (ps ++ qs) st) e) (sym i) (rec ps bs (rs ++ t.reads) c))
      step rec t (binds v u) i p c =
          earlier (ps ++ qs) bs rs ab n t e p
          (subst (λ st. Comes (λ k. step_on (unify k s) bs (rs ++ t.reads) (ps ++ qs) st) e) (sym i)
          (rec ps (bs ++ (v, u) ∷ []) (rs ++ t.reads) c))
      step rec t (parts xs) i p c =
          let h = rec (xs ++ ps) bs (rs ++ t.reads) c in
          earlier (ps ++ qs) bs rs ab n t e p
          (subst (λ st. Comes (λ k. step_on (unify k s) bs (rs ++ t.reads) (ps ++ qs) st) e) (sym i)
          (subst (λ l. Comes (λ k. unify k s bs (rs ++ t.reads) l) e) (append_assoc xs ps qs) h))
      step rec t clashes i p c =
          let z : clash (rs ++ t.reads) ≡ d = cc in
          earlier (ps ++ qs) bs rs ab n t e p
          (subst (λ st. Comes (λ k. step_on (unify k s) bs (rs ++ t.reads) (ps ++ qs) st) e) (sym i)
          (subst (λ x. Comes (resume s qs x) e) (sym z) r))
      step rec t waits i p c =
          let z : wait (rs ++ t.reads) ≡ d = cc in
          earlier (ps ++ qs) bs rs ab n t e p
          (subst (λ st. Comes (λ k. step_on (unify k s) bs (rs ++ t.reads) (ps ++ qs) st) e) (sym i)
          (subst (λ x. Comes (resume s qs x) e) (sym z) r))

      by : JoinAt n qs d e → (o : Option Treated) → pair n (s ++ bs) ab.0 ab.1 ≡ o → go_on (unify n s) bs rs ps o ≡ Some d
          → Comes (λ k. unify k s bs rs (ab ∷ (ps ++ qs))) e
      by rec None p c = let no : ⊥ = cc in absurd no
      by rec (Some t) p c = step rec t t.step refl p c

  -- two lists of pairs, one after the other
  pub appended : (ps qs : List Pair) (bs : Bindings) (rs : List Variable)
      → Same (λ n. unify n s bs rs (ps ++ qs)) (λ n. given (unify n s bs rs ps) (λ d. resume s qs d n))
  appended ps qs bs rs = record { to = to; back = back }
    where
      together : (d : Ended) (e : Ended) → Comes (λ n. unify n s bs rs ps) d → Comes (resume s qs d) e
          → Comes (λ n. given (unify n s bs rs ps) (λ x. resume s qs x n)) e
      together d e (n, a) (m, b) =
          let a' : unify (n + m) s bs rs ps ≡ Some d =
          at_least (λ k. unify k s bs rs ps) (λ k. unify_more s k bs rs ps) n (n + m) (omega arith) d a in
          let b' : resume s qs d (n + m) ≡ Some e = at_least (resume s qs d) (resume_more qs d) m (n + m) (omega arith) e b in
          (n + m, ap (λ o. given o (λ x. resume s qs x (n + m))) a' ∙ b')

      to : (e : Ended) → Comes (λ n. unify n s bs rs (ps ++ qs)) e → Comes (λ n. given (unify n s bs rs ps) (λ d. resume s qs d n)) e
      to e c = let h = split c.0 ps qs bs rs e c.1 in together h.0 e h.1 h.2

      back : (e : Ended) → Comes (λ n. given (unify n s bs rs ps) (λ d. resume s qs d n)) e → Comes (λ n. unify n s bs rs (ps ++ qs)) e
      back e (n, c) = by (unify n s bs rs ps) refl c
        where
          by : (o : Option Ended) → unify n s bs rs ps ≡ o → given o (λ d. resume s qs d n) ≡ Some e
              → Comes (λ k. unify k s bs rs (ps ++ qs)) e
          by None p c = let no : ⊥ = cc in absurd no
          by (Some d) p c = joins n ps qs bs rs d e p (n, c)
