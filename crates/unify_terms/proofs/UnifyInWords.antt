-- The unification of words is that of their terms.
use Rattle.std.proofs.Common.{◌≡◌, ◌⊎◌, ℕ, suc, ◌+◌, ◌≤◌, Bool, true, false, cond, List, [], ◌∷◌, ◌++◌, map, Option, Some}
use Rattle.std.proofs.Common.{None, refl, sym, ap, ap₂, ◌∙◌, subst, inl, inr, ⊎_elim, arith, append_assoc, append-nil}
use Rattle.heap_words.specs.Trails.{WordList, Memory}
use Rattle.ro_unify.specs.Unify.{Turn, goes, clashes, waits, Treats, Unifies, at_end, on, clashed, stopped}
use Rattle.ro_unify.specs.Unify as words
use Rattle.fcp_model.specs.Places.{Variable, is_same}
use Rattle.fcp_model.specs.Terms.{Term, number, string, nil, cons, tuple, var, ro, first, Bindings, find}
use Rattle.fcp_model.specs.Value.{value}
use Rattle.fcp_model.specs.Pair.{Pair, Step, treated, table, both_looks, first_of, pair_on, pair}
use Rattle.fcp_model.specs.Unification.{unify, go_on, step_on}
use Rattle.fcp_model.specs.Unification as endings
use Rattle.fcp_model.proofs.Finding.{found_or, find-append, is_same-true}
use Rattle.fcp_model.proofs.MoreSteps.{at_least, value_more, unify_more}
use Rattle.unify_terms.specs.Denotes.{Naming, Denotes, DenotesPairs, Stands, Names, HasValue, HasPlace, BindsNamed, EndsAs, finished}
use Rattle.unify_terms.specs.Denotes.{IsPlace, BindsInOrder, UnifiesAs}
use Rattle.unify_terms.specs.Denotes as denoted
use Rattle.unify_terms.proofs.ValuesOfWords.{values_so, value_is}
use Rattle.unify_terms.proofs.PairsInWords.{TurnIs, idle, bound, split, unlike, halts, Treats_as, by_looks}

module _ (p : Naming) (m : Memory) (names : Names p m) where
  no_first : (t : Term Variable) (w : ℕ) → Denotes p m t w → first_of t ≡ None
  no_first (var q) w d = refl
  no_first (ro q) w d = refl
  no_first (first k) w d = absurd d
  no_first (number z) w d = refl
  no_first (string z) w d = refl
  no_first nil w d = refl
  no_first (cons t u) w d = refl
  no_first (tuple ts) w d = refl

  pair_so : (bs : WordList) (s : Bindings) → Stands p m bs s → (rs rs' : List ℕ) (t : Turn) (w : ℕ × ℕ) (a b : Term Variable)
      → Denotes p m a w.0 → Denotes p m b w.1 → Treats bs m rs w t rs' → Treats_as p m names bs s rs rs' t (λ n. pair n s a b)
  pair_so bs s st rs rs' t w a b d f r =
      let v = values_so p bs m s st false w.0 r.left r.left_is a d in
      let u = values_so p bs m s st false w.1 r.right r.right_is b f in
      let k = by_looks p m names bs s st rs rs' t w.0 w.1 r.left r.right v.look u.look r.left_is r.right_is v.is u.is r.does in
      record {
        steps = k.steps + (v.steps + u.steps);
        step = k.step;
        reads = k.reads;
        treats = λ n l. ap (pair_on n s a b) (no_first b w.1 f)
            ∙ (ap₂ (both_looks (table n s))
            (at_least (λ (i : ℕ). value i s a) (value_more s a) v.steps n (omega arith) v.look (value_is p m v.steps s a ∙ v.value))
            (at_least (λ (i : ℕ). value i s b) (value_more s b) u.steps n (omega arith) u.look (value_is p m u.steps s b ∙ u.value))
            ∙ k.treats n (omega arith));
        read = k.read;
        is = k.is;
      }

  -- pairs in front of others
  pub pairs_with : (ts us : List Pair) (vs ws : List (ℕ × ℕ)) → DenotesPairs p m ts vs → DenotesPairs p m us ws
      → DenotesPairs p m (ts ++ us) (vs ++ ws)
  pairs_with [] us [] ws d e = e
  pairs_with (t ∷ ts) us (v ∷ vs) ws d e = (d.0, d.1, pairs_with ts us vs ws d.2 e)
  pairs_with [] us (v ∷ vs) ws d e = absurd d
  pairs_with (t ∷ ts) us [] ws d e = absurd d

  -- one step of the definitions
  one_step : (s ts : Bindings) (qs : List Variable) (a b : Term Variable) (ps : List Pair) (n : ℕ) (st : Step) (rs : List Variable)
      → pair n (s ++ ts) a b ≡ treated st rs → unify (suc n) s ts qs ((a, b) ∷ ps) ≡ step_on (unify n s) ts (qs ++ rs) ps st
  one_step s ts qs a b ps n st rs e = ap (go_on (unify n s) ts qs ps) e

  enough : (s ts : Bindings) (n k : ℕ) (rs : List Variable) (ps : List Pair) (e : endings.Ended) → n ≤ k → unify n s ts rs ps ≡ Some e
      → unify k s ts rs ps ≡ Some e
  enough s ts n k rs ps e l h = at_least (λ (i : ℕ). unify i s ts rs ps) (λ i. unify_more s i ts rs ps) n k l e h

  -- what is bound with one place more, and so on to the end
  one_more : (s ts : Bindings) (v : Variable) (u : Term Variable) → HasPlace p m v → find (s ++ ts) v ≡ None → (q : Variable)
      (t : Term Variable) → find (ts ++ (v, u) ∷ []) q ≡ Some t → (find ts q ≡ Some t) ⊎ (HasPlace p m q × (find s q ≡ None))
  one_more s ts v u h n q t e = go (find ts q) refl (is_same v q) refl (sym (find-append ts ((v, u) ∷ []) q) ∙ e)
    where
      free : (o : Option (Term Variable)) → found_or o (find ts v) ≡ None → o ≡ None
      free None i = refl
      free (Some z) i = cc

      go : (o : Option (Term Variable)) → find ts q ≡ o → (c : Bool) → is_same v q ≡ c
          → found_or (find ts q) (cond (is_same v q) (Some u) None) ≡ Some t
          → (find ts q ≡ Some t) ⊎ (HasPlace p m q × (find s q ≡ None))
      go (Some z) f c g k = inl (f ∙ (sym (ap (λ (x : Option (Term Variable)). found_or x (cond (is_same v q) (Some u) None)) f) ∙ k))
      go None f true g k =
          let same : v ≡ q = is_same-true v q g in
          inr (subst (HasPlace p m) same h, subst (λ (z : Variable). find s z ≡ None) same (free (find s v) (sym (find-append s ts v) ∙ n)))
      go None f false g k =
          absurd (let l : None ≡ Some t =
          sym (ap (λ (x : Option (Term Variable)). found_or x (cond (is_same v q) (Some u) None)) f
          ∙ ap (λ (c : Bool). found_or None (cond c (Some u) None)) g) ∙ k in cc)

  named_from : (s us ts : Bindings) → ((v : Variable) (t : Term Variable) → find us v ≡ Some t
      → (find ts v ≡ Some t) ⊎ (HasPlace p m v × (find s v ≡ None))) → (e : endings.Ended) → BindsNamed p m s us e → BindsNamed p m s ts e
  named_from s us ts from (endings.done bs rs) h =
      λ v t e. ⊎_elim (λ i. from v t i) (λ i. inr i) (h v t e)
  named_from s us ts from (endings.clash rs) h = tt
  named_from s us ts from (endings.wait rs) h = tt

  -- what is bound after one place more is bound after those before it, with that place first
  order_from : (bs : WordList) (ts : Bindings) (a x : ℕ) (v : Variable) (u : Term Variable) → IsPlace p m a v → (d : words.Ended)
      (e : endings.Ended) → BindsInOrder p m (bs ++ (a, x) ∷ []) (ts ++ (v, u) ∷ []) d e → BindsInOrder p m bs ts d e
  order_from bs ts a x v u i (words.done bs' rs) (endings.done ts' qs) h = (
    (a, x) ∷ h.0,
    (v, u) ∷ h.1,
    h.2 ∙ append_assoc bs ((a, x) ∷ []) h.0,
    h.3 ∙ append_assoc ts ((v, u) ∷ []) h.1,
    (i, h.4),
  )
  order_from bs ts a x v u i (words.done bs' rs) (endings.clash qs) h = tt
  order_from bs ts a x v u i (words.done bs' rs) (endings.wait qs) h = tt
  order_from bs ts a x v u i (words.clash rs) e h = tt
  order_from bs ts a x v u i (words.stop rs) e h = tt

  module _ (s ts : Bindings) (bs : WordList) (rs rs' : List ℕ) (a b : Term Variable) (tps : List Pair) (ps : List (ℕ × ℕ))
      (left : DenotesPairs p m tps ps) (st : Stands p m bs (s ++ ts)) where
    going : (bs' : WordList) (qs : List (ℕ × ℕ)) (e : words.Ended) (t : Turn)
        → (r : Treats_as p m names bs (s ++ ts) rs rs' t (λ n. pair n (s ++ ts) a b))
        → ((us : Bindings) (ups : List Pair) → Stands p m bs' (s ++ us) → DenotesPairs p m ups (qs ++ ps)
        → UnifiesAs p m bs' s us rs' ups e)
        → t ≡ goes bs' qs → UnifiesAs p m bs s ts rs ((a, b) ∷ tps) e
    going bs' qs e t r rec h = go t r.step r.is refl h
      where
        made : (us : Bindings) (ups : List Pair)
            → ((v : Variable) (t : Term Variable) → find us v ≡ Some t → (find ts v ≡ Some t) ⊎ (HasPlace p m v × (find s v ≡ None)))
            → ((d : endings.Ended) → BindsInOrder p m bs' us e d → BindsInOrder p m bs ts e d) → UnifiesAs p m bs' s us rs' ups e
            → ((n : ℕ) → step_on (unify n s) ts (map p.name rs ++ r.reads) tps r.step ≡ unify n s us (map p.name rs') ups)
            → UnifiesAs p m bs s ts rs ((a, b) ∷ tps) e
        made us ups from order k same = record {
          steps = suc (r.steps + k.steps);
          end = k.end;
          by_steps = one_step s ts (map p.name rs) a b tps (r.steps + k.steps) r.step r.reads (r.treats (r.steps + k.steps) (omega arith))
              ∙ (same (r.steps + k.steps) ∙ enough s us k.steps (r.steps + k.steps) (map p.name rs') ups k.end (omega arith) k.by_steps);
          alike = k.alike;
          named = named_from s us ts from k.end k.named;
          order = order k.end k.order;
        }

        go : (t2 : Turn) (st2 : Step) → TurnIs p m names bs (s ++ ts) t2 st2 → r.step ≡ st2 → t2 ≡ goes bs' qs
            → UnifiesAs p m bs s ts rs ((a, b) ∷ tps) e
        go _ _ idle f i =
            let j : bs ≡ bs' = cc in
            let k : [] ≡ qs = cc in
            made ts tps (λ v' t' g. inl g) (λ d. subst (λ (z : WordList). BindsInOrder p m z ts e d → BindsInOrder p m bs ts e d) j (λ o. o))
            (rec ts tps (subst (λ (z : WordList). Stands p m z (s ++ ts)) j st)
            (subst (λ (z : List (ℕ × ℕ)). DenotesPairs p m tps (z ++ ps)) k left))
            (λ n. ap (step_on (unify n s) ts (map p.name rs ++ r.reads) tps) f ∙ ap (λ (z : List Variable). unify n s ts z tps)
            (sym r.read))
        go _ _ (bound c x v u i' n y) f i =
            let j : bs ++ (c, x) ∷ [] ≡ bs' = cc in
            let k : [] ≡ qs = cc in
            made (ts ++ (v, u) ∷ []) tps (one_more s ts v u (c, i') n)
            (λ d. subst (λ (z : WordList). BindsInOrder p m z (ts ++ (v, u) ∷ []) e d → BindsInOrder p m bs ts e d) j
            (order_from bs ts c x v u i' e d))
            (rec (ts ++ (v, u) ∷ []) tps
            (subst (λ (z : Bindings). Stands p m bs' z) (append_assoc s ts ((v, u) ∷ []))
            (subst (λ (z : WordList). Stands p m z ((s ++ ts) ++ (v, u) ∷ [])) j y))
            (subst (λ (z : List (ℕ × ℕ)). DenotesPairs p m tps (z ++ ps)) k left))
            (λ n. ap (step_on (unify n s) ts (map p.name rs ++ r.reads) tps) f ∙ ap
            (λ (z : List Variable). unify n s (ts ++ (v, u) ∷ []) z tps) (sym r.read))
        go _ _ (split vs tqs d) f i =
            let j : bs ≡ bs' = cc in
            let k : vs ≡ qs = cc in
            made ts (tqs ++ tps) (λ v' t' g. inl g)
            (λ d. subst (λ (z : WordList). BindsInOrder p m z ts e d → BindsInOrder p m bs ts e d) j (λ o. o))
            (rec ts (tqs ++ tps) (subst (λ (z : WordList). Stands p m z (s ++ ts)) j st)
            (subst (λ (z : List (ℕ × ℕ)). DenotesPairs p m (tqs ++ tps) (z ++ ps)) k (pairs_with tqs tps vs ps d left)))
            (λ n. ap (step_on (unify n s) ts (map p.name rs ++ r.reads) tps) f ∙ ap (λ (z : List Variable). unify n s ts z (tqs ++ tps))
            (sym r.read))
        go _ _ unlike f i = cc
        go _ _ halts f i = cc

    clashing : (t : Turn) → (r : Treats_as p m names bs (s ++ ts) rs rs' t (λ n. pair n (s ++ ts) a b)) → t ≡ clashes
        → UnifiesAs p m bs s ts rs ((a, b) ∷ tps) (words.clash rs')
    clashing t r h = go t r.step r.is refl h
      where
        go : (t2 : Turn) (st2 : Step) → TurnIs p m names bs (s ++ ts) t2 st2 → r.step ≡ st2 → t2 ≡ clashes
            → UnifiesAs p m bs s ts rs ((a, b) ∷ tps) (words.clash rs')
        go _ _ idle f i = cc
        go _ _ (bound c x v u i' n y) f i = cc
        go _ _ (split vs tqs d) f i = cc
        go _ _ halts f i = cc
        go _ _ unlike f i = record {
          steps = suc r.steps;
          end = endings.clash (map p.name rs');
          by_steps = one_step s ts (map p.name rs) a b tps r.steps r.step r.reads (r.treats r.steps (omega arith)) ∙
              (ap (step_on (unify r.steps s) ts (map p.name rs ++ r.reads) tps) f ∙ ap (λ (z : List Variable). Some (endings.clash z))
              (sym r.read));
          alike = denoted.clashed rs';
          named = tt;
          order = tt;
        }

    halting : (t : Turn) → (r : Treats_as p m names bs (s ++ ts) rs rs' t (λ n. pair n (s ++ ts) a b)) → t ≡ waits
        → UnifiesAs p m bs s ts rs ((a, b) ∷ tps) (words.stop rs')
    halting t r h = go t r.step r.is refl h
      where
        go : (t2 : Turn) (st2 : Step) → TurnIs p m names bs (s ++ ts) t2 st2 → r.step ≡ st2 → t2 ≡ waits
            → UnifiesAs p m bs s ts rs ((a, b) ∷ tps) (words.stop rs')
        go _ _ idle f i = cc
        go _ _ (bound c x v u i' n y) f i = cc
        go _ _ (split vs tqs d) f i = cc
        go _ _ unlike f i = cc
        go _ _ halts f i = record {
          steps = suc r.steps;
          end = endings.wait (map p.name rs');
          by_steps = one_step s ts (map p.name rs) a b tps r.steps r.step r.reads (r.treats r.steps (omega arith)) ∙
              (ap (step_on (unify r.steps s) ts (map p.name rs ++ r.reads) tps) f ∙ ap (λ (z : List Variable). Some (endings.wait z))
              (sym r.read));
          alike = denoted.paused rs';
          named = tt;
          order = tt;
        }

  -- the unification of words is that of their terms, by some number of steps
  pub unify_so : (s : Bindings) (bs : WordList) (rs : List ℕ) (ps : List (ℕ × ℕ)) (e : words.Ended) → Unifies m bs rs ps e
      → (ts : Bindings) (tps : List Pair) → Stands p m bs (s ++ ts) → DenotesPairs p m tps ps → UnifiesAs p m bs s ts rs tps e
  unify_so s _ _ _ _ (at_end bs rs) ts [] st d =
      record {
        steps = 1;
        end = endings.done ts (map p.name rs);
        by_steps = refl;
        alike = finished bs rs ts st;
        named = λ v t e. inl e;
        order = ([], [], sym (append-nil bs), sym (append-nil ts), tt);
      }
  unify_so s _ _ _ _ (at_end bs rs) ts (t ∷ tps) st d = absurd d
  unify_so s _ _ _ _ (on bs rs w ps bs' qs rs' e t u) ts [] st d = absurd d
  unify_so s _ _ _ _ (on bs rs w ps bs' qs rs' e t u) ts (ab ∷ tps) st d =
      going s ts bs rs rs' ab.0 ab.1 tps ps d.2 st bs' qs e (goes bs' qs)
      (pair_so bs (s ++ ts) st rs rs' (goes bs' qs) w ab.0 ab.1 d.0 d.1 t)
      (λ us ups z y. unify_so s bs' rs' (qs ++ ps) e u us ups z y) refl
  unify_so s _ _ _ _ (clashed bs rs w ps rs' t) ts [] st d = absurd d
  unify_so s _ _ _ _ (clashed bs rs w ps rs' t) ts (ab ∷ tps) st d =
      clashing s ts bs rs rs' ab.0 ab.1 tps ps d.2 st clashes (pair_so bs (s ++ ts) st rs rs' clashes w ab.0 ab.1 d.0 d.1 t) refl
  unify_so s _ _ _ _ (stopped bs rs w ps rs' t) ts [] st d = absurd d
  unify_so s _ _ _ _ (stopped bs rs w ps rs' t) ts (ab ∷ tps) st d =
      halting s ts bs rs rs' ab.0 ab.1 tps ps d.2 st waits (pair_so bs (s ++ ts) st rs rs' waits w ab.0 ab.1 d.0 d.1 t) refl
