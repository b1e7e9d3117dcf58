-- A binding that passes the occurs check keeps the bindings without a cycle.
use Rattle.std.proofs.Common.{◌≡◌, ℕ, zero, suc, ◌+◌, ◌<◌, ◌≤◌, max, Bool, true, false, cond, List, [], ◌∷◌, ◌++◌, length, Option, Some, None, refl, sym, ap, ◌∙◌, subst, arith, inl, inr, ⊎_elim}
use Rattle.std.specs.Prelude.{IsSome, ◌||◌}
use Rattle.fcp_model.specs.Places.{Variable, own, is_same}
use Rattle.fcp_model.specs.Terms.{Term, number, string, nil, cons, tuple, var, ro, first, Terms, none, more, plain, plains, Bindings, find}
use Rattle.fcp_model.specs.Occurs.{Found, hit, miss, found, or_else, walk, walks, behind_leaf, leaf_is, occurs}
use Rattle.fcp_model.specs.Ranks.{Mentions, MentionsOne, Ranked}
use Rattle.fcp_model.proofs.Finding.{is_same-true, is_same_refl, found_or, find-append}
use Rattle.fcp_model.proofs.Rank.{IsEnough, fewer, all_enough}

-- whether some leaf passes
abbrev mutual
  pub any_leaf : (Variable → Bool) → Term Variable → Bool
  any_leaf f (number z) = false
  any_leaf f (string z) = false
  any_leaf f nil = false
  any_leaf f (cons a b) = any_leaf f a || any_leaf f b
  any_leaf f (tuple ts) = any_leaves f ts
  any_leaf f (var p) = f p
  any_leaf f (ro p) = f p
  any_leaf f (first k) = f (own k)

  pub any_leaves : (Variable → Bool) → Terms Variable → Bool
  any_leaves f none = false
  any_leaves f (more t ts) = any_leaf f t || any_leaves f ts

neither : (a b : Bool) → (a || b) ≡ false → (a ≡ false) × (b ≡ false)
neither true b e = cc
neither false b e = (refl, e)

mutual
  any_no : (f : Variable → Bool) (q : Variable) (t : Term Variable) → any_leaf f t ≡ false → Mentions q t → f q ≡ false
  any_no f q (number z) e h = absurd h
  any_no f q (string z) e h = absurd h
  any_no f q nil e h = absurd h
  any_no f q (cons a b) e h = let n = neither _ _ e in ⊎_elim (λ i. any_no f q a n.0 i) (λ i. any_no f q b n.1 i) h
  any_no f q (tuple ts) e h = anys_no f q ts e h
  any_no f q (var p) e h = rw h e
  any_no f q (ro p) e h = rw h e
  any_no f q (first k) e h = rw h e

  anys_no : (f : Variable → Bool) (q : Variable) (ts : Terms Variable) → any_leaves f ts ≡ false → MentionsOne q ts → f q ≡ false
  anys_no f q none e h = absurd h
  anys_no f q (more t ts) e h = let n = neither _ _ e in ⊎_elim (λ i. any_no f q t n.0 i) (λ i. anys_no f q ts n.1 i) h

mutual
  all_no : (f : Variable → Bool) (t : Term Variable) → ((q : Variable) → Mentions q t → f q ≡ false) → any_leaf f t ≡ false
  all_no f (number z) h = refl
  all_no f (string z) h = refl
  all_no f nil h = refl
  all_no f (cons a b) h = rw (all_no f a (λ q i. h q (inl i))) (all_no f b (λ q i. h q (inr i)))
  all_no f (tuple ts) h = alls_no f ts h
  all_no f (var p) h = h p refl
  all_no f (ro p) h = h p refl
  all_no f (first k) h = h (own k) refl

  alls_no : (f : Variable → Bool) (ts : Terms Variable) → ((q : Variable) → MentionsOne q ts → f q ≡ false) → any_leaves f ts ≡ false
  alls_no f none h = refl
  alls_no f (more t ts) h = rw (all_no f t (λ q i. h q (inl i))) (alls_no f ts (λ q i. h q (inr i)))

mutual
  any_same : (f g : Variable → Bool) (t : Term Variable) → ((q : Variable) → Mentions q t → f q ≡ g q) → any_leaf f t ≡ any_leaf g t
  any_same f g (number z) h = refl
  any_same f g (string z) h = refl
  any_same f g nil h = refl
  any_same f g (cons a b) h = ap (λ x. x || any_leaf f b) (any_same f g a (λ q i. h q (inl i))) ∙ ap (λ x. any_leaf g a || x) (any_same f g b (λ q i. h q (inr i)))
  any_same f g (tuple ts) h = anys_same f g ts h
  any_same f g (var p) h = h p refl
  any_same f g (ro p) h = h p refl
  any_same f g (first k) h = h (own k) refl

  anys_same : (f g : Variable → Bool) (ts : Terms Variable) → ((q : Variable) → MentionsOne q ts → f q ≡ g q) → any_leaves f ts ≡ any_leaves g ts
  anys_same f g none h = refl
  anys_same f g (more t ts) h = ap (λ x. x || any_leaves f ts) (any_same f g t (λ q i. h q (inl i))) ∙ ap (λ x. any_leaf g t || x) (anys_same f g ts (λ q i. h q (inr i)))

abbrev pub reach_on : (Term Variable → Bool) → Variable → Variable → Option (Term Variable) → Bool
reach_on go p q None = is_same p q
reach_on go p q (Some t) = go t

-- whether q leads to p
abbrev pub reach : ℕ → Bindings → Variable → Variable → Bool
reach zero s p q = is_same p q
reach (suc n) s p q = reach_on (any_leaf (reach n s p)) p q (find s q)

reach_steady : (s : Bindings) (r : Ranked s) (p : Variable) (n : ℕ) (q : Variable) → IsEnough s r.rank n q → reach (suc n) s p q ≡ reach n s p q
reach_steady s r p zero q enough = go (find s q) refl
  where
    go : (o : Option (Term Variable)) → find s q ≡ o → reach_on (any_leaf (reach 0 s p)) p q o ≡ reach 0 s p q
    go None e = refl
    go (Some t) e = absurd (let is : IsSome (find s q) = rw e refl in omega (arith, enough is))
reach_steady s r p (suc n) q enough =
    go (λ q' t at in_t. reach_steady s r p n q' (fewer s r n q q' t enough at in_t)) (find s q) refl
  where
    go : ((q' : Variable) (t : Term Variable) → find s q ≡ Some t → Mentions q' t → reach (suc n) s p q' ≡ reach n s p q') → (o : Option (Term Variable)) → find s q ≡ o → reach_on (any_leaf (reach (suc n) s p)) p q o ≡ reach_on (any_leaf (reach n s p)) p q o
    go h None e = refl
    go h (Some t) e = any_same _ _ t (λ q' i. h q' t e i)

reach_step : (s : Bindings) (r : Ranked s) (p q : Variable) → reach (length s) s p q ≡ reach_on (any_leaf (reach (length s) s p)) p q (find s q)
reach_step s r p q = sym (reach_steady s r p (length s) q (all_enough s r q))

-- where the walk misses, each leaf misses
Misses : Option Found → Type 0
Misses o = (rs : List Variable) × (o ≡ Some (miss rs))

or_misses : (o r : Option Found) → Misses (or_else o r) → Misses o × Misses r
unfolding Misses
or_misses None r h = let e = h.1 in cc
or_misses (Some (hit rs)) r h = let e = h.1 in cc
or_misses (Some (miss rs)) None h = let e = h.1 in cc
or_misses (Some (miss rs)) (Some (hit qs)) h = let e = h.1 in cc
or_misses (Some (miss rs)) (Some (miss qs)) h = ((rs, refl), (qs, refl))

mutual
  walk_misses : (g : Variable → Option Found) (q : Variable) (t : Term Variable) → Misses (walk g t) → Mentions q t → Misses (g q)
  walk_misses g q (number z) m h = absurd h
  walk_misses g q (string z) m h = absurd h
  walk_misses g q nil m h = absurd h
  walk_misses g q (cons a b) m h = let n = or_misses _ _ m in ⊎_elim (λ i. walk_misses g q a n.0 i) (λ i. walk_misses g q b n.1 i) h
  walk_misses g q (tuple ts) m h = walks_misses g q ts m h
  walk_misses g q (var p) m h = subst (λ x. Misses (g x)) (sym h) m
  walk_misses g q (ro p) m h = subst (λ x. Misses (g x)) (sym h) m
  walk_misses g q (first k) m h = subst (λ x. Misses (g x)) (sym h) m

  walks_misses : (g : Variable → Option Found) (q : Variable) (ts : Terms Variable) → Misses (walks g ts) → MentionsOne q ts → Misses (g q)
  walks_misses g q none m h = absurd h
  walks_misses g q (more t ts) m h = let n = or_misses _ _ m in ⊎_elim (λ i. walk_misses g q t n.0 i) (λ i. walks_misses g q ts n.1 i) h

found_misses : (b : Bool) (rs : List Variable) → Misses (found b rs) → b ≡ false
unfolding Misses
found_misses true rs m = let e = m.1 in cc
found_misses false rs m = refl

leaf_misses : (s : Bindings) (r : Ranked s) (p : Variable) (n : ℕ) (q : Variable) → Misses (leaf_is n s p q) → reach (length s) s p q ≡ false
unfolding Misses
leaf_misses s r p zero q m = let e = m.1 in cc
leaf_misses s r p (suc n) q m = go (λ q' i. leaf_misses s r p n q' i) (find s q) refl m
  where
    go : ((q' : Variable) → Misses (leaf_is n s p q') → reach (length s) s p q' ≡ false) → (o : Option (Term Variable)) → find s q ≡ o → Misses (behind_leaf (walk (leaf_is n s p)) p q o) → reach (length s) s p q ≡ false
    go rec None e h = reach_step s r p q ∙ (ap (reach_on (any_leaf (reach (length s) s p)) p q) e ∙ found_misses (is_same p q) _ h)
    go rec (Some t) e h = reach_step s r p q ∙ (ap (reach_on (any_leaf (reach (length s) s p)) p q) e ∙ all_no (reach (length s) s p) t (λ q' i. rec q' (walk_misses (leaf_is n s p) q' t h i)))

-- none of the term's variables leads to p
pub record LeadsNowhere (s : Bindings) (p : Variable) (t : Term Variable) : Type 0 where
  pub each : (q : Variable) → Mentions q t → reach (length s) s p q ≡ false

pub nowhere : (s : Bindings) (r : Ranked s) (p : Variable) (t : Term Variable) (n : ℕ) (rs : List Variable) → occurs n s p t ≡ Some (miss rs) → LeadsNowhere s p t
unfolding Misses
nowhere s r p t n rs e = record { each = λ q i. leaf_misses s r p n q (walk_misses (leaf_is n s p) q t (rs, e) i) }

-- an unbound variable leads to itself alone
pub not_there : (s : Bindings) (r : Ranked s) (p q : Variable) → find s q ≡ None → is_same p q ≡ false → reach (length s) s p q ≡ false
not_there s r p q u e = reach_step s r p q ∙ (ap (reach_on (any_leaf (reach (length s) s p)) p q) u ∙ e)

-- a rank that no variable of the term is above
abbrev mutual
  pub top : (Variable → ℕ) → Term Variable → ℕ
  top f (number z) = 0
  top f (string z) = 0
  top f nil = 0
  top f (cons a b) = max (top f a) (top f b)
  top f (tuple ts) = tops f ts
  top f (var p) = f p
  top f (ro p) = f p
  top f (first k) = f (own k)

  pub tops : (Variable → ℕ) → Terms Variable → ℕ
  tops f none = 0
  tops f (more t ts) = max (top f t) (tops f ts)

mutual
  at_most_top : (f : Variable → ℕ) (q : Variable) (t : Term Variable) → Mentions q t → f q ≤ top f t
  at_most_top f q (number z) h = absurd h
  at_most_top f q (string z) h = absurd h
  at_most_top f q nil h = absurd h
  at_most_top f q (cons a b) h = ⊎_elim (λ i. omega (arith, at_most_top f q a i)) (λ i. omega (arith, at_most_top f q b i)) h
  at_most_top f q (tuple ts) h = at_most_tops f q ts h
  at_most_top f q (var p) h = omega (arith, ap f h)
  at_most_top f q (ro p) h = omega (arith, ap f h)
  at_most_top f q (first k) h = omega (arith, ap f h)

  at_most_tops : (f : Variable → ℕ) (q : Variable) (ts : Terms Variable) → MentionsOne q ts → f q ≤ tops f ts
  at_most_tops f q none h = absurd h
  at_most_tops f q (more t ts) h = ⊎_elim (λ i. omega (arith, at_most_top f q t i)) (λ i. omega (arith, at_most_tops f q ts i)) h

mutual
  pub Mentions-plain : (q : Variable) (t : Term Variable) → Mentions q (plain t) → Mentions q t
  Mentions-plain q (number z) h = h
  Mentions-plain q (string z) h = h
  Mentions-plain q nil h = h
  Mentions-plain q (cons a b) h = ⊎_elim (λ i. inl (Mentions-plain q a i)) (λ i. inr (Mentions-plain q b i)) h
  Mentions-plain q (tuple ts) h = MentionsOne-plains q ts h
  Mentions-plain q (var p) h = h
  Mentions-plain q (ro p) h = h
  Mentions-plain q (first k) h = h

  MentionsOne-plains : (q : Variable) (ts : Terms Variable) → MentionsOne q (plains ts) → MentionsOne q ts
  MentionsOne-plains q none h = h
  MentionsOne-plains q (more t ts) h = ⊎_elim (λ i. inl (Mentions-plain q t i)) (λ i. inr (MentionsOne-plains q ts i)) h

module _ (s : Bindings) (r : Ranked s) (p : Variable) (t : Term Variable) where
  -- whether q leads to p
  abbrev leads : Variable → Bool
  leads q = reach (length s) s p q

  abbrev new_rank : Variable → ℕ
  new_rank q = r.rank q + cond (leads q) (suc (top r.rank t)) 0

  leads_back : (q q' : Variable) (u : Term Variable) → find s q ≡ Some u → Mentions q' u → leads q ≡ false → leads q' ≡ false
  leads_back q q' u at in_u free =
      let e : leads q ≡ any_leaf leads u = reach_step s r p q ∙ ap (reach_on (any_leaf leads) p q) at in
      any_no leads q' u (sym e ∙ free) in_u

  old_falls : (q q' : Variable) (u : Term Variable) → find s q ≡ Some u → Mentions q' u → new_rank q' < new_rank q
  old_falls q q' u at in_u = go (leads q) (leads q') refl refl
    where
      less : r.rank q' < r.rank q
      less = r.falls q q' u at in_u

      go : (c d : Bool) → leads q ≡ c → leads q' ≡ d → r.rank q' + cond d (suc (top r.rank t)) 0 < r.rank q + cond c (suc (top r.rank t)) 0
      go true true e f = omega (arith, less)
      go true false e f = omega (arith, less)
      go false false e f = omega (arith, less)
      go false true e f = absurd (let free = leads_back q q' u at in_u e in cc)

  new_falls : (q' : Variable) → find s p ≡ None → LeadsNowhere s p t → Mentions q' t → new_rank q' < new_rank p
  new_falls q' unbound free in_t =
      let e : leads p ≡ true = reach_step s r p p ∙ (ap (reach_on (any_leaf leads) p p) unbound ∙ is_same_refl p) in
      let f : leads q' ≡ false = free.each q' in_t in
      rw (e, f) (omega (arith, at_most_top r.rank q' t in_t))

  falls_at : (q q' : Variable) (u : Term Variable) → find s p ≡ None → LeadsNowhere s p t → found_or (find s q) (find ((p, plain t) ∷ []) q) ≡ Some u → Mentions q' u → new_rank q' < new_rank q
  falls_at q q' u unbound free at in_u = go (find s q) (is_same p q) refl refl at
    where
      go : (o : Option (Term Variable)) (c : Bool) → find s q ≡ o → is_same p q ≡ c → found_or o (cond c (Some (plain t)) None) ≡ Some u → new_rank q' < new_rank q
      go (Some v) c e f h = old_falls q q' u (e ∙ h) in_u
      go None true e f h =
          let same : plain t ≡ u = cc in
          let in_t : Mentions q' t = Mentions-plain q' t (rw same in_u) in
          rw (← is_same-true p q f) (new_falls q' unbound free in_t)
      go None false e f h = cc

  -- p is bound to t, in which it does not occur
  pub Ranked-bind : find s p ≡ None → LeadsNowhere s p t → Ranked (s ++ (p, plain t) ∷ [])
  Ranked-bind unbound free = record { rank = new_rank; falls = λ q q' u at in_u. falls_at q q' u unbound free (sym (find-append s ((p, plain t) ∷ []) q) ∙ at) in_u }

-- what stands in no bound term is led to by itself alone
pub unreached : (s : Bindings) (p : Variable) → ((q q' : Variable) (t : Term Variable) → find s q ≡ Some t → Mentions q' t → is_same p q' ≡ false) → (n : ℕ) (q : Variable) → is_same p q ≡ false → reach n s p q ≡ false
unreached s p unnamed zero q e = e
unreached s p unnamed (suc n) q e = go (find s q) refl (λ q' f. unreached s p unnamed n q' f)
  where
    go : (o : Option (Term Variable)) → find s q ≡ o → ((q' : Variable) → is_same p q' ≡ false → reach n s p q' ≡ false) → reach_on (any_leaf (reach n s p)) p q o ≡ false
    go None f rec = e
    go (Some t) f rec = all_no (reach n s p) t (λ q' i. rec q' (unnamed q q' t f i))
