-- What one pair binds keeps bindings without a cycle and over variables that were met.
use Rattle.std.proofs.Common.{◌≡◌, ℕ, ◌<◌, ◌≤◌, max, Bool, true, false, cond, List, [], ◌∷◌, ◌++◌}
use Rattle.std.proofs.Common.{length, Option, Some, None, refl, sym, subst, arith}
use Rattle.fcp_model.specs.declared.run.Place.{Place}
use Rattle.fcp_model.specs.Places.{Variable, own, is_same, is_older}
use Rattle.fcp_model.specs.Terms.{Term, var, ro, first, plain, Bindings, find}
use Rattle.fcp_model.specs.Value.{Look, writable, read_only, solid, value}
use Rattle.fcp_model.specs.Occurs.{Found, hit, miss, occurs}
use Rattle.fcp_model.specs.Pair.{Pair, Step, nothing, binds, clashes, waits, parts, alike, part_step, Treated}
use Rattle.fcp_model.specs.Pair.{treated, bind_solid, table, both_looks, first_of, pair_on, pair}
use Rattle.fcp_model.specs.Ranks.{Mentions, Ranked}
use Rattle.fcp_model.specs.ClosedPrograms.{Over}
use Rattle.fcp_model.proofs.Finding.{is_same-true, is_same_refl}
use Rattle.fcp_model.proofs.Acyclic.{LeadsNowhere, Ranked-bind, nowhere, not_there, reach}
use Rattle.binding_laws.proofs.OverTerms.{plain_same}
use Rattle.binding_laws.proofs.MetTerms.{IsMet, met_in, IsMarked, met_in_above, Met-above, IsMet-above}
use Rattle.binding_laws.proofs.MetTerms.{plain_is_met}
use Rattle.binding_laws.proofs.MetPairs.{ArePartsMarked, alike_marked}
use Rattle.binding_laws.proofs.MetBindings.{AreMetBindings, IsMetLook, IsMarkedSolid, IsMarkedLook}
use Rattle.binding_laws.proofs.MetBindings.{value_met, value_marked, new_unbound, new_nowhere}

-- a binding of an unbound variable that makes no cycle, over variables that were met
pub record IsMetBinding (K : Place → Type 0) (n : ℕ) (s : Bindings) (p : Variable) (t : Term Variable) : Type 0 where
  pub unbound : find s p ≡ None
  pub variable : IsMet K n p
  pub term : Over (IsMet K n) t
  pub ranked : Ranked (s ++ (p, t) ∷ [])

-- the parts of a pair, whose marks are new
pub record ArePartsMet (K : Place → Type 0) (n n' : ℕ) (qs : List Pair) : Type 0 where
  pub from : ℕ
  pub above : n ≤ from
  pub marked : ArePartsMarked K from n' qs

-- a step of a pair: before it the clause's variables 1 to n were met, and 1 to n' after it
abbrev pub IsMetStep : (Place → Type 0) → ℕ → ℕ → Bindings → Step → Type 0
IsMetStep K n n' s nothing = Unit {0}
IsMetStep K n n' s (binds p t) = IsMetBinding K n' s p t
IsMetStep K n n' s (parts qs) = ArePartsMet K n n' qs
IsMetStep K n n' s clashes = Unit {0}
IsMetStep K n n' s waits = Unit {0}

same_back : (p q : Variable) → is_same p q ≡ false → is_same q p ≡ false
same_back p q e = go (is_same q p) refl
  where
    go : (c : Bool) → is_same q p ≡ c → c ≡ false
    go true f = let g : is_same p q ≡ true = rw (is_same-true q p f) (is_same_refl p) in cc
    go false f = refl

module _ (s : Bindings) (r : Ranked s) where
  other_nowhere : (p q : Variable) (t : Term Variable) → ((x : Variable) → Mentions x t → x ≡ q) → find s q ≡ None → is_same p q ≡ false
      → LeadsNowhere s p t
  other_nowhere p q t only v n =
      record { each = λ x h. subst (λ y. reach (length s) s p y ≡ false) (sym (only x h)) (not_there s r p q v n) }

  ranked_var : (p q : Variable) → find s p ≡ None → find s q ≡ None → is_same p q ≡ false → Ranked (s ++ (p, var q) ∷ [])
  ranked_var p q u v n = Ranked-bind s r p (var q) u (other_nowhere p q (var q) (λ x h. h) v n)

  ranked_ro : (p q : Variable) → find s p ≡ None → find s q ≡ None → is_same p q ≡ false → Ranked (s ++ (p, ro q) ∷ [])
  ranked_ro p q u v n = Ranked-bind s r p (ro q) u (other_nowhere p q (ro q) (λ x h. h) v n)

module _ (K : Place → Type 0) where
  -- a value of an unbound variable
  record IsOpen (n : ℕ) (s : Bindings) (p : Variable) : Type 0 where
    unbound : find s p ≡ None
    met : IsMet K n p

  module _ (n n' : ℕ) (above : n ≤ n') (s : Bindings) (b : AreMetBindings K n s) where
    left_open : (p : Variable) → (find s p ≡ None) × IsMet K n p → IsOpen n' s p
    left_open p f = record { unbound = f.0; met = IsMet-above K n n' above p f.1 }

    right_open : (p : Variable) → (find s p ≡ None) × IsMet K n' p → IsOpen n' s p
    right_open p f = record { unbound = f.0; met = f.1 }

    is_step : (st : Step) (rs : List Variable) (x : Treated) → IsMetStep K n n' s st → treated st rs ≡ Some x → IsMetStep K n n' s x.step
    is_step st rs x f e = let same : record { step = st; reads = rs } ≡ x = cc in subst (λ y. IsMetStep K n n' s y.step) same f

    -- p is bound to a term that is no variable
    bound_solid : (k : ℕ) (p : Variable) (t : Term Variable) → IsOpen n' s p → Over (IsMet K n') (plain t) → (o : Option Found)
        → occurs k s p t ≡ o → (x : Treated) → bind_solid p t o ≡ Some x → IsMetStep K n n' s x.step
    bound_solid k p t f over None e x h = cc
    bound_solid k p t f over (Some (hit rs)) e x h = is_step clashes (p ∷ rs) x tt h
    bound_solid k p t f over (Some (miss rs)) e x h =
        is_step (binds p (plain t)) (p ∷ rs) x
        (record {
          unbound = f.unbound;
          variable = f.met;
          term = over;
          ranked = Ranked-bind s b.ranked p t f.unbound (nowhere s b.ranked p t k rs e);
        }) h

    left_plain : (t : Term Variable) → Over (IsMet K n) t → Over (IsMet K n') (plain t)
    left_plain t o = subst (Over (IsMet K n')) (sym (plain_same (IsMet K n) t o)) (Met-above K n n' above t o)

    right_plain : (t : Term Variable) → IsMarkedSolid K n n' t → Over (IsMet K n') (plain t)
    right_plain t g = subst (λ x. Over (IsMet K x) (plain t)) g.met (plain_is_met K g.from t g.marked)

    binds_var : (p q : Variable) → IsOpen n' s p → IsOpen n' s q → is_same p q ≡ false → IsMetBinding K n' s p (var q)
    binds_var p q f g e =
        record { unbound = f.unbound; variable = f.met; term = g.met; ranked = ranked_var s b.ranked p q f.unbound g.unbound e }

    binds_ro : (p q : Variable) → IsOpen n' s p → IsOpen n' s q → is_same p q ≡ false → IsMetBinding K n' s p (ro q)
    binds_ro p q f g e =
        record { unbound = f.unbound; variable = f.met; term = g.met; ranked = ranked_ro s b.ranked p q f.unbound g.unbound e }

    parts_met : (t u : Term Variable) → Over (IsMet K n) t → IsMarkedSolid K n n' u → (o : Option (List Pair)) → alike t u ≡ o
        → IsMetStep K n n' s (part_step o)
    parts_met t u f g None e = tt
    parts_met t u f g (Some []) e = tt
    parts_met t u f g (Some (ab ∷ qs)) e = record {
      from = g.from;
      above = g.above;
      marked = subst (λ x. ArePartsMarked K g.from x (ab ∷ qs)) g.met
          (alike_marked K g.from t u (ab ∷ qs) (Met-above K n g.from g.above t f) g.marked e);
    }

    two_writable : (p q : Variable) → IsOpen n' s p → IsOpen n' s q → (c d : Bool) → is_same p q ≡ c
        → IsMetStep K n n' s (cond c nothing (cond d (binds q (var p)) (binds p (var q))))
    two_writable p q f g true d e = tt
    two_writable p q f g false true e = binds_var q p g f (same_back p q e)
    two_writable p q f g false false e = binds_var p q f g e

    left_read_only : (p q : Variable) → IsOpen n' s p → IsOpen n' s q → (c : Bool) → is_same p q ≡ c
        → IsMetStep K n n' s (cond c nothing (binds q (ro p)))
    left_read_only p q f g true e = tt
    left_read_only p q f g false e = binds_ro q p g f (same_back p q e)

    right_read_only : (p q : Variable) → IsOpen n' s p → IsOpen n' s q → (c : Bool) → is_same p q ≡ c
        → IsMetStep K n n' s (cond c nothing (binds p (ro q)))
    right_read_only p q f g true e = tt
    right_read_only p q f g false e = binds_ro p q f g e

    two_read_only : (c : Bool) → IsMetStep K n n' s (cond c nothing waits)
    two_read_only true = tt
    two_read_only false = tt

    table_met : (k : ℕ) (l m : Look) → IsMetLook K n s l → IsMarkedLook K n n' s m → (x : Treated) → table k s l m ≡ Some x
        → IsMetStep K n n' s x.step
    table_met k (solid t) (solid u) f g x e = is_step _ _ x (parts_met t u f g (alike t u) refl) e
    table_met k (solid t) (writable q) f g x e = bound_solid k q t (right_open q g) (left_plain t f) (occurs k s q t) refl x e
    table_met k (solid t) (read_only q) f g x e = is_step _ _ x tt e
    table_met k (writable p) (solid u) f g x e = bound_solid k p u (left_open p f) (right_plain u g) (occurs k s p u) refl x e
    table_met k (read_only p) (solid u) f g x e = is_step _ _ x tt e
    table_met k (writable p) (writable q) f g x e =
        is_step _ _ x (two_writable p q (left_open p f) (right_open q g) (is_same p q) (is_older p q) refl) e
    table_met k (writable p) (read_only q) f g x e =
        is_step _ _ x (right_read_only p q (left_open p f) (right_open q g) (is_same p q) refl) e
    table_met k (read_only p) (writable q) f g x e =
        is_step _ _ x (left_read_only p q (left_open p f) (right_open q g) (is_same p q) refl) e
    table_met k (read_only p) (read_only q) f g x e = is_step _ _ x (two_read_only (is_same p q)) e

    looks_met : (k : ℕ) (o o' : Option Look) → ((l : Look) → o ≡ Some l → IsMetLook K n s l)
        → ((m : Look) → o' ≡ Some m → IsMarkedLook K n n' s m) → (x : Treated) → both_looks (table k s) o o' ≡ Some x
        → IsMetStep K n n' s x.step
    looks_met k None o' f g x e = cc
    looks_met k (Some l) None f g x e = cc
    looks_met k (Some l) (Some m) f g x e = table_met k l m (f l refl) (g m refl) x e

  is_first : (t : Term Variable) (k : ℕ) → first_of t ≡ Some k → t ≡ first k
  is_first (first j) k e = cc
  is_first _ k e = cc

  first_met : (n k : ℕ) (s : Bindings) (a : Term Variable) → AreMetBindings K n s → n < k → Over (IsMet K n) a
      → IsMetBinding K (max n k) s (own k) a
  first_met n k s a b h o = record {
    unbound = new_unbound K n k s b h;
    variable = (omega (arith, h), omega arith);
    term = Met-above K n _ (omega arith) a o;
    ranked = subst (λ t. Ranked (s ++ (own k, t) ∷ [])) (plain_same (IsMet K n) a o)
        (Ranked-bind s b.ranked (own k) a (new_unbound K n k s b h) (new_nowhere K n k s a b h o));
  }

  -- what a pair comes to, where its left side is over variables that were met and the marks of its right side are new
  pub pair_met : (n : ℕ) (s : Bindings) → AreMetBindings K n s → (k : ℕ) (a t : Term Variable) → Over (IsMet K n) a → IsMarked K n t
      → (x : Treated) → pair k s a t ≡ Some x → IsMetStep K n (met_in n t) s x.step
  pair_met n s b k a t f g x e = go (first_of t) refl e
    where
      go : (o : Option ℕ) → first_of t ≡ o → pair_on k s a t o ≡ Some x → IsMetStep K n (met_in n t) s x.step
      go None h i = looks_met n (met_in n t) (met_in_above n t) s b k (value k s a) (value k s t) (λ l. value_met K n s b k a l f)
          (λ m. value_marked K n s b k t m g) x i
      go (Some j) h i =
          let same : first j ≡ t = sym (is_first t j h) in
          let new : n < j = subst (IsMarked K n) (sym same) g in
          let bound : IsMetStep K n (met_in n t) s (binds (own j) a) =
          subst (λ y. IsMetBinding K (met_in n y) s (own j) a) same (first_met n j s a b new f) in
          is_step n (met_in n t) (met_in_above n t) s b (binds (own j) a) [] x bound i
