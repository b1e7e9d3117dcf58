-- Bindings without a cycle over variables that were met, and the values of terms there.
use Rattle.std.proofs.Common.{◌≡◌, ℕ, zero, suc, ◌<◌, ◌≤◌, max, Bool, true, false, cond, [], ◌∷◌, ◌++◌, length}
use Rattle.std.proofs.Common.{Option, Some, None, refl, sym, ◌∙◌, subst, arith, inl, inr}
use Rattle.std.specs.Prelude.{nat_eq}
use Rattle.std.proofs.lemmas.Bool.Decides.{nat_tests}
use Rattle.fcp_model.specs.declared.run.Place.{Place}
use Rattle.fcp_model.specs.Places.{Variable, made, own, is_same}
use Rattle.fcp_model.specs.Terms.{Term, number, string, nil, cons, tuple, var, ro, first, Terms, none, more, Bindings, find}
use Rattle.fcp_model.specs.Value.{Look, writable, read_only, solid, open_place, through, value_of, value}
use Rattle.fcp_model.specs.Ranks.{Mentions, MentionsOne, Ranked}
use Rattle.fcp_model.specs.ClosedPrograms.{Over, PartsOver}
use Rattle.fcp_model.proofs.Finding.{is_same-true, found_or, find-append}
use Rattle.fcp_model.proofs.Acyclic.{LeadsNowhere, unreached}
use Rattle.binding_laws.proofs.MetTerms.{IsMet, met_in, met_with_above, IsMarked, IsMet-above}
use Rattle.binding_laws.proofs.MetTerms.{Met-above, named_is_met, met_in_met, met_is_marked}

-- each variable of the term has the property
mutual
  pub over_at : (P : Variable → Type 0) (q : Variable) (t : Term Variable) → Over P t → Mentions q t → P q
  over_at P q (number z) o m = absurd m
  over_at P q (string z) o m = absurd m
  over_at P q nil o m = absurd m
  over_at P q (cons a b) o m = elim m [ inl i ↦ over_at P q a o.0 i | inr i ↦ over_at P q b o.1 i ]
  over_at P q (tuple ts) o m = overs_at P q ts o m
  over_at P q (var v) o m = subst P (sym m) o
  over_at P q (ro v) o m = subst P (sym m) o
  over_at P q (first k) o m = absurd o

  overs_at : (P : Variable → Type 0) (q : Variable) (ts : Terms Variable) → PartsOver P ts → MentionsOne q ts → P q
  overs_at P q none o m = absurd m
  overs_at P q (more t ts) o m = elim m [ inl i ↦ over_at P q t o.0 i | inr i ↦ overs_at P q ts o.1 i ]

-- a bound variable has the property, and so has each variable of its term
abbrev pub BindsOver : (Variable → Type 0) → Bindings → Type 0
BindsOver P s = (v : Variable) (t : Term Variable) → find s v ≡ Some t → P v × Over P t

-- bindings without a cycle, over the places with the property K and the clause's variables 1 to n
pub record AreMetBindings (K : Place → Type 0) (n : ℕ) (s : Bindings) : Type 0 where
  pub ranked : Ranked s
  pub over : BindsOver (IsMet K n) s

-- one binding more, put last
pub binds-append : (P : Variable → Type 0) (s bs : Bindings) → BindsOver P s → BindsOver P bs → BindsOver P (s ++ bs)
binds-append P s bs f g v t e = go (find s v) refl (sym (find-append s bs v) ∙ e)
  where
    go : (o : Option (Term Variable)) → find s v ≡ o → found_or o (find bs v) ≡ Some t → P v × Over P t
    go None h i = g v t i
    go (Some u) h i = f v t (h ∙ i)

pub binds_one : (P : Variable → Type 0) (p : Variable) (t : Term Variable) → P p → Over P t → BindsOver P ((p, t) ∷ [])
binds_one P p t f g v u e = go (is_same p v) refl e
  where
    go : (c : Bool) → is_same p v ≡ c → cond c (Some t) None ≡ Some u → P v × Over P u
    go true h i = let same : t ≡ u = cc in (subst P (is_same-true p v h) f, subst (Over P) same g)
    go false h i = cc

module _ (K : Place → Type 0) where
  pub bindings_above : (n n' : ℕ) (s : Bindings) → n ≤ n' → AreMetBindings K n s → AreMetBindings K n' s
  bindings_above n n' s h b =
      record { ranked = b.ranked; over = λ v t e. (IsMet-above K n n' h v (b.over v t e).0, Met-above K n n' h t (b.over v t e).1) }

  -- a value over variables that were met
  abbrev pub IsMetLook : ℕ → Bindings → Look → Type 0
  IsMetLook n s (writable p) = (find s p ≡ None) × IsMet K n p
  IsMetLook n s (read_only p) = (find s p ≡ None) × IsMet K n p
  IsMetLook n s (solid t) = Over (IsMet K n) t

  opened : (n : ℕ) (s : Bindings) (only : Bool) (p : Variable) → find s p ≡ None → IsMet K n p → IsMetLook n s (open_place only p)
  opened n s true p e i = (e, i)
  opened n s false p e i = (e, i)

  module _ (n : ℕ) (s : Bindings) (b : AreMetBindings K n s) where
    bound_at : (p : Variable) (t : Term Variable) → find s p ≡ Some t → Over (IsMet K n) t
    bound_at p t e = (b.over p t e).1

    solid_at : (p : Variable) (t : Term Variable) (l : Look) → find s p ≡ Some t → Some (solid t) ≡ Some l → IsMetLook n s l
    solid_at p t l at e = let same : solid t ≡ l = cc in subst (IsMetLook n s) same (bound_at p t at)

    value_of_met : (k : ℕ) (only : Bool) (p : Variable) (l : Look) → IsMet K n p → value_of k s only p ≡ Some l → IsMetLook n s l
    value_of_met zero only p l i e = cc
    value_of_met (suc k) only p l i e = go (λ c q j f. value_of_met k c q l j f) (find s p) refl e
      where
        go : ((c : Bool) (q : Variable) → IsMet K n q → value_of k s c q ≡ Some l → IsMetLook n s l) → (o : Option (Term Variable))
            → find s p ≡ o → through (value_of k s) only p o ≡ Some l → IsMetLook n s l
        go rec None at f = let same : open_place only p ≡ l = cc in subst (IsMetLook n s) same (opened n s only p at i)
        go rec (Some (var q)) at f = rec only q (bound_at p (var q) at) f
        go rec (Some (ro q)) at f = rec true q (bound_at p (ro q) at) f
        go rec (Some (first j)) at f = absurd (bound_at p (first j) at)
        go rec (Some (number z)) at f = solid_at p (number z) l at f
        go rec (Some (string z)) at f = solid_at p (string z) l at f
        go rec (Some nil) at f = solid_at p nil l at f
        go rec (Some (cons x y)) at f = solid_at p (cons x y) l at f
        go rec (Some (tuple ts)) at f = solid_at p (tuple ts) l at f

    solid_is : (t : Term Variable) (l : Look) → Over (IsMet K n) t → Some (solid t) ≡ Some l → IsMetLook n s l
    solid_is t l o e = let same : solid t ≡ l = cc in subst (IsMetLook n s) same o

    -- the value of a left side
    pub value_met : (k : ℕ) (t : Term Variable) (l : Look) → Over (IsMet K n) t → value k s t ≡ Some l → IsMetLook n s l
    value_met k (var q) l o e = value_of_met k false q l o e
    value_met k (ro q) l o e = value_of_met k true q l o e
    value_met k (first j) l o e = absurd o
    value_met k (number z) l o e = solid_is (number z) l o e
    value_met k (string z) l o e = solid_is (string z) l o e
    value_met k nil l o e = solid_is nil l o e
    value_met k (cons x y) l o e = solid_is (cons x y) l o e
    value_met k (tuple ts) l o e = solid_is (tuple ts) l o e

  -- a term with new marks from some number on, n or more, after which the variables 1 to n' were met
  pub record IsMarkedSolid (n n' : ℕ) (t : Term Variable) : Type 0 where
    pub from : ℕ
    pub above : n ≤ from
    pub marked : IsMarked K from t
    pub met : met_in from t ≡ n'

  -- the value of a right side
  abbrev pub IsMarkedLook : ℕ → ℕ → Bindings → Look → Type 0
  IsMarkedLook n n' s (writable p) = (find s p ≡ None) × IsMet K n' p
  IsMarkedLook n n' s (read_only p) = (find s p ≡ None) × IsMet K n' p
  IsMarkedLook n n' s (solid t) = IsMarkedSolid n n' t

  met_look : (n n' : ℕ) (s : Bindings) (l : Look) → n ≤ n' → IsMetLook n' s l → IsMarkedLook n n' s l
  met_look n n' s (writable p) h i = i
  met_look n n' s (read_only p) h i = i
  met_look n n' s (solid t) h i = record { from = n'; above = h; marked = met_is_marked K n' t i; met = met_in_met K n' t i }

  marked_is : (n : ℕ) (s : Bindings) (t : Term Variable) (l : Look) → IsMarked K n t → Some (solid t) ≡ Some l
      → IsMarkedLook n (met_in n t) s l
  marked_is n s t l i e =
      let same : solid t ≡ l = cc in
      subst (IsMarkedLook n (met_in n t) s) same (record { from = n; above = omega arith; marked = i; met = refl })

  -- the value of a right side that is no mark
  pub value_marked : (n : ℕ) (s : Bindings) → AreMetBindings K n s → (k : ℕ) (t : Term Variable) (l : Look) → IsMarked K n t
      → value k s t ≡ Some l → IsMarkedLook n (met_in n t) s l
  value_marked n s b k (var q) l i e =
      met_look n _ s l (met_with_above n q)
      (value_of_met _ s (bindings_above n _ s (met_with_above n q) b) k false q l (named_is_met K n q i) e)
  value_marked n s b k (ro q) l i e =
      met_look n _ s l (met_with_above n q)
      (value_of_met _ s (bindings_above n _ s (met_with_above n q) b) k true q l (named_is_met K n q i) e)
  value_marked n s b k (first j) l i e =
      let above : n ≤ max n j = omega arith in
      met_look n _ s l above (value_of_met _ s (bindings_above n _ s above b) k false (own j) l (omega (arith, i), omega arith) e)
  value_marked n s b k (number z) l i e = marked_is n s (number z) l i e
  value_marked n s b k (string z) l i e = marked_is n s (string z) l i e
  value_marked n s b k nil l i e = marked_is n s nil l i e
  value_marked n s b k (cons x y) l i e = marked_is n s (cons x y) l i e
  value_marked n s b k (tuple ts) l i e = marked_is n s (tuple ts) l i e

  differ : (n k : ℕ) (q : Variable) → n < k → IsMet K n q → is_same (own k) q ≡ false
  differ n k (made p) h i = refl
  differ n k (own j) h i = other k j (omega (arith, i.1))
    where
      other : (x y : ℕ) → y < x → nat_eq x y ≡ false
      other x y g = grind (arith, nat_tests)

  -- a variable that was not met is unbound, and no term over variables that were met leads to it
  pub new_unbound : (n k : ℕ) (s : Bindings) → AreMetBindings K n s → n < k → find s (own k) ≡ None
  new_unbound n k s b h = go (find s (own k)) refl
    where
      go : (o : Option (Term Variable)) → find s (own k) ≡ o → o ≡ None
      go None e = refl
      go (Some t) e = absurd (let i = b.over (own k) t e in omega (arith, i.0.1))

  pub new_nowhere : (n k : ℕ) (s : Bindings) (t : Term Variable) → AreMetBindings K n s → n < k → Over (IsMet K n) t
      → LeadsNowhere s (own k) t
  new_nowhere n k s t b h o =
      record {
        each = λ q m. unreached s (own k) (λ v q' u e i. differ n k q' h (over_at (IsMet K n) q' u (b.over v u e).1 i)) (length s) q
            (differ n k q h (over_at (IsMet K n) q t o m));
      }
