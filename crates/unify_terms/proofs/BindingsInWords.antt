-- One binding more, of a place and of its name.
use Rattle.std.proofs.Common.{◌≡◌, ℕ, ◌+◌, Bool, true, false, cond, [], ◌∷◌, ◌++◌, Option}
use Rattle.std.proofs.Common.{Some, None, refl, sym, ap, ◌∙◌, subst, ⊎_elim}
use Rattle.std.specs.Prelude.{nat_eq}
use Rattle.std.proofs.lemmas.Bool.{eqb-true, eq-eqb}
use Rattle.heap_words.specs.Trails.{WordList, Memory, word_at}
use Rattle.heap_words.proofs.Keeps.{still_there, old_or_new, new_there}
use Rattle.ro_unify.specs.Value.{IsOpen}
use Rattle.fcp_model.specs.Places.{Variable, is_same}
use Rattle.fcp_model.specs.Terms.{Term, number, string, nil, cons, tuple, var, ro, first, Terms, none, more, plain, plains, Bindings, find}
use Rattle.unify_terms.specs.Denotes.{Naming, Denotes, DenotesAll, Stands, Names}

-- one binding more on a map
find-append : (s : Bindings) (v : Variable) (t : Term Variable) (q : Variable) → find (s ++ (v, t) ∷ []) q ≡ elim
    (find s q) [ None ↦ cond (is_same v q) (Some t) None | Some u ↦ Some u ]
find-append [] v t q = refl
find-append (b ∷ bs) v t q = go (find-append bs v t q) (is_same b.0 q)
  where
    go : find (bs ++ (v, t) ∷ []) q ≡ elim (find bs q) [ None ↦ cond (is_same v q) (Some t) None | Some u ↦ Some u ] → (c : Bool) → cond c
        (Some b.1) (find (bs ++ (v, t) ∷ []) q) ≡ elim
        (cond c (Some b.1) (find bs q)) [ None ↦ cond (is_same v q) (Some t) None | Some u ↦ Some u ]
    go h true = refl
    go h false = h

module _ (p : Naming) (m : Memory) (names : Names p m) where
  mutual
    pub plain_same : (t : Term Variable) (w : ℕ) → Denotes p m t w → plain t ≡ t
    plain_same (number z) w d = refl
    plain_same (string n) w d = refl
    plain_same nil w d = refl
    plain_same (cons t u) w d =
        ap (λ (z : Term Variable). cons z (plain u)) (plain_same t (m d.0) d.2) ∙ ap (cons t) (plain_same u (m (d.0 + 1)) d.3)
    plain_same (tuple ts) w d = ap (λ (z : Terms Variable). tuple z) (plains_same ts d.0 d.4)
    plain_same (var v) w d = refl
    plain_same (ro v) w d = refl
    plain_same (first k) w d = absurd d

    plains_same : (ts : Terms Variable) (a : ℕ) → DenotesAll p m ts a → plains ts ≡ ts
    plains_same none a d = refl
    plains_same (more t ts) a d =
        ap (λ (z : Term Variable). more z (plains ts)) (plain_same t (m (a + 1)) d.0) ∙ ap (more t) (plains_same ts (a + 1) d.1)

  -- a place that was open is bound on both sides
  pub stands_bound : (bs : WordList) (s : Bindings) (a x : ℕ) (v : Variable) (t : Term Variable) → Stands p m bs s → IsOpen bs m a
      → p.is_place a ≡ true → p.name a ≡ v → Denotes p m t x → Stands p m (bs ++ (a, x) ∷ []) (s ++ (v, t) ∷ [])
  stands_bound bs s a x v t st o h n d = record {
    privately = λ b y i e. ⊎_elim (λ j. let r = st.privately b y i j in (r.0, kept (p.name b) r.0 r.1, r.2))
        (λ j. (t, here b j.0, subst (Denotes p m t) j.1 d)) (old_or_new bs a x b y e);
    bound = λ b i e u. let r = st.bound b i (before b e) u in (r.0, kept (p.name b) r.0 r.1, r.2);
    unbound = λ b i e u. find-append s v t (p.name b) ∙
        (ap (λ (f : Option (Term Variable)). elim f [ None ↦ cond (is_same v (p.name b)) (Some t) None | Some w ↦ Some w ])
        (st.unbound b i (before b e) u) ∙ ap (λ (c : Bool). cond c (Some t) None) (other b i e));
  }
    where
      kept : (q : Variable) (u : Term Variable) → find s q ≡ Some u → find (s ++ (v, t) ∷ []) q ≡ Some u
      kept q u e = find-append s v t q ∙ ap
          (λ (f : Option (Term Variable)). elim f [ None ↦ cond (is_same v q) (Some t) None | Some w ↦ Some w ]) e

      mine : is_same v (p.name a) ≡ true
      mine = subst (λ (z : Variable). is_same z (p.name a) ≡ true) n (names.same a a h h ∙ eq-eqb a a refl)

      here : (b : ℕ) → a ≡ b → find (s ++ (v, t) ∷ []) (p.name b) ≡ Some t
      here b e = subst (λ (z : ℕ). find (s ++ (v, t) ∷ []) (p.name z) ≡ Some t) e
          (find-append s v t (p.name a) ∙
          (ap (λ (f : Option (Term Variable)). elim f [ None ↦ cond (is_same v (p.name a)) (Some t) None | Some w ↦ Some w ])
          (st.unbound a h o.0 o.1) ∙ ap (λ (c : Bool). cond c (Some t) None) mine))

      before : (b : ℕ) → word_at (bs ++ (a, x) ∷ []) b ≡ None → word_at bs b ≡ None
      before b e = go (word_at bs b) refl
        where
          go : (f : Option ℕ) → word_at bs b ≡ f → word_at bs b ≡ None
          go None i = i
          go (Some y) i = absurd (let k : Some y ≡ None = sym (still_there bs a x b y i) ∙ e in cc)

      other : (b : ℕ) → p.is_place b ≡ true → word_at (bs ++ (a, x) ∷ []) b ≡ None → is_same v (p.name b) ≡ false
      other b i e = subst (λ (z : Variable). is_same z (p.name b) ≡ false) n (names.same a b h i ∙ go (nat_eq a b) refl)
        where
          go : (c : Bool) → nat_eq a b ≡ c → nat_eq a b ≡ false
          go false j = j
          go true j = absurd (let k : Some x ≡ None = sym
              (subst (λ (z : ℕ). word_at (bs ++ (a, x) ∷ []) z ≡ Some x) (eqb-true a b j) (new_there bs a x o.0)) ∙ e in cc)
