-- A unification keeps bindings without a cycle and over variables that were met.
use Rattle.std.proofs.Common.{◌≡◌, ℕ, zero, suc, ◌≤◌, Bool, true, false, cond, List, [], ◌∷◌, ◌++◌}
use Rattle.std.proofs.Common.{Option, Some, None, refl, sym, ap, ◌∙◌, subst, append_assoc}
use Rattle.fcp_model.specs.declared.run.Place.{Place}
use Rattle.fcp_model.specs.Places.{Variable, is_same}
use Rattle.fcp_model.specs.Terms.{Term, Bindings, find}
use Rattle.fcp_model.specs.Pair.{Pair, Step, nothing, binds, clashes, waits, parts, Treated, pair}
use Rattle.fcp_model.specs.Unification.{done, step_on, go_on, unify}
use Rattle.fcp_model.specs.ClosedPrograms.{Over}
use Rattle.fcp_model.proofs.Finding.{is_same-true}
use Rattle.binding_laws.proofs.OverTerms.{Over-more}
use Rattle.binding_laws.proofs.MetTerms.{IsMet, met_in, met_in_above, IsMet-above}
use Rattle.binding_laws.proofs.MetPairs.{pairs_met, ArePairsMarked, pairs_met-append, marked-append}
use Rattle.binding_laws.proofs.MetBindings.{BindsOver, AreMetBindings, bindings_above, binds-append, binds_one}
use Rattle.binding_laws.proofs.MetSteps.{IsMetBinding, ArePartsMet, IsMetStep, pair_met}

-- each binding of the list is of a variable with the property, to a term over such
abbrev pub EachBound : (Variable → Type 0) → Bindings → Type 0
EachBound P [] = Unit {0}
EachBound P (b ∷ bs) = P b.0 × Over P b.1 × EachBound P bs

pub EachBound-more : (P Q : Variable → Type 0) → ((v : Variable) → P v → Q v) → (bs : Bindings) → EachBound P bs → EachBound Q bs
EachBound-more P Q h [] e = tt
EachBound-more P Q h (b ∷ bs) e = (h b.0 e.0, Over-more P Q h b.1 e.1, EachBound-more P Q h bs e.2)

pub EachBound-append : (P : Variable → Type 0) (as' bs : Bindings) → EachBound P as' → EachBound P bs → EachBound P (as' ++ bs)
EachBound-append P [] bs f g = g
EachBound-append P (a ∷ as') bs f g = (f.0, f.1, EachBound-append P as' bs f.2 g)

-- what is found in such a list
pub each_found : (P : Variable → Type 0) (bs : Bindings) → EachBound P bs → BindsOver P bs
each_found P [] f v t e = cc
each_found P (b ∷ bs) f v t e = go (is_same b.0 v) refl e (each_found P bs f.2 v t)
  where
    go : (c : Bool) → is_same b.0 v ≡ c → cond c (Some b.1) (find bs v) ≡ Some t → (find bs v ≡ Some t → P v × Over P t) → P v × Over P t
    go true h i rec = let same : b.1 ≡ t = cc in (subst P (is_same-true b.0 v h) f.0, subst (Over P) same f.1)
    go false h i rec = rec i

-- a map s with the bindings of a try over it, where the clause's variables 1 to n were met
pub record IsMetTry (K : Place → Type 0) (n : ℕ) (s bs : Bindings) : Type 0 where
  pub bindings : AreMetBindings K n (s ++ bs)
  pub each : EachBound (IsMet K n) bs

module _ (K : Place → Type 0) where
  pub try_above : (n n' : ℕ) (s bs : Bindings) → n ≤ n' → IsMetTry K n s bs → IsMetTry K n' s bs
  try_above n n' s bs h t =
      record {
        bindings = bindings_above K n n' (s ++ bs) h t.bindings;
        each = EachBound-more (IsMet K n) (IsMet K n') (IsMet-above K n n' h) bs t.each;
      }

  -- one binding more
  pub bindings_more : (n n' : ℕ) (s : Bindings) (p : Variable) (t : Term Variable) → n ≤ n' → AreMetBindings K n s
      → IsMetBinding K n' s p t → AreMetBindings K n' (s ++ (p, t) ∷ [])
  bindings_more n n' s p t h b f = record {
    ranked = f.ranked;
    over = binds-append (IsMet K n') s ((p, t) ∷ []) (bindings_above K n n' s h b).over (binds_one (IsMet K n') p t f.variable f.term);
  }

  pub try_more : (n n' : ℕ) (s bs : Bindings) (p : Variable) (t : Term Variable) → n ≤ n' → IsMetTry K n s bs
      → IsMetBinding K n' (s ++ bs) p t → IsMetTry K n' s (bs ++ (p, t) ∷ [])
  try_more n n' s bs p t h i f = record {
    bindings = subst (AreMetBindings K n') (append_assoc s bs ((p, t) ∷ [])) (bindings_more n n' (s ++ bs) p t h i.bindings f);
    each = EachBound-append (IsMet K n') bs ((p, t) ∷ []) (try_above n n' s bs h i).each (f.variable, f.term, tt);
  }

  -- the pairs that are left, after the parts of a pair
  pub parts_marked : (n n' : ℕ) (qs ps : List Pair) → (f : ArePartsMet K n n' qs) → ArePairsMarked K n' ps
      → ArePairsMarked K f.from (qs ++ ps)
  parts_marked n n' qs ps f g = marked-append K f.from qs ps f.marked.marked (subst (λ x. ArePairsMarked K x ps) (sym f.marked.met) g)

  pub parts_meet : (n n' : ℕ) (qs ps : List Pair) → (f : ArePartsMet K n n' qs) → pairs_met f.from (qs ++ ps) ≡ pairs_met n' ps
  parts_meet n n' qs ps f = pairs_met-append f.from qs ps ∙ ap (λ x. pairs_met x ps) f.marked.met

  module _ (s to : Bindings) (read : List Variable) where
    -- a unification that ends so keeps the try
    abbrev Keeps : ℕ → Type 0
    Keeps k = (n : ℕ) (bs : Bindings) (rs : List Variable) (ps : List Pair) → IsMetTry K n s bs → ArePairsMarked K n ps
        → unify k s bs rs ps ≡ Some (done to read) → IsMetTry K (pairs_met n ps) s to

    step_keeps : (k : ℕ) → Keeps k → (n n' : ℕ) (bs : Bindings) (rs : List Variable) (ps : List Pair) → n ≤ n' → IsMetTry K n s bs
        → ArePairsMarked K n' ps → (st : Step) → IsMetStep K n n' (s ++ bs) st
        → step_on (unify k s) bs rs ps st ≡ Some (done to read) → IsMetTry K (pairs_met n' ps) s to
    step_keeps k rec n n' bs rs ps h t g nothing f e = rec n' bs rs ps (try_above n n' s bs h t) g e
    step_keeps k rec n n' bs rs ps h t g (binds p u) f e = rec n' (bs ++ (p, u) ∷ []) rs ps (try_more n n' s bs p u h t f) g e
    step_keeps k rec n n' bs rs ps h t g (parts qs) f e =
        subst (λ x. IsMetTry K x s to) (parts_meet n n' qs ps f)
        (rec f.from bs rs (qs ++ ps) (try_above n f.from s bs f.above t) (parts_marked n n' qs ps f g) e)
    step_keeps k rec n n' bs rs ps h t g clashes f e = cc
    step_keeps k rec n n' bs rs ps h t g waits f e = cc

    pub unify_keeps : (k n : ℕ) (bs : Bindings) (rs : List Variable) (ps : List Pair) → IsMetTry K n s bs → ArePairsMarked K n ps
        → unify k s bs rs ps ≡ Some (done to read) → IsMetTry K (pairs_met n ps) s to
    unify_keeps zero n bs rs ps t g e = cc
    unify_keeps (suc k) n bs rs [] t g e = let same : bs ≡ to = cc in subst (IsMetTry K n s) same t
    unify_keeps (suc k) n bs rs (ab ∷ ps) t g e = go (unify_keeps k) (pair k (s ++ bs) ab.0 ab.1) refl e
      where
        go : Keeps k → (o : Option Treated) → pair k (s ++ bs) ab.0 ab.1 ≡ o → go_on (unify k s) bs rs ps o ≡ Some (done to read)
            → IsMetTry K (pairs_met n (ab ∷ ps)) s to
        go rec None h i = cc
        go rec (Some x) h i =
            step_keeps k rec n (met_in n ab.1) bs (rs ++ x.reads) ps (met_in_above n ab.1) t g.2 x.step
            (pair_met K n (s ++ bs) t.bindings k ab.0 ab.1 g.0 g.1 x h) i
