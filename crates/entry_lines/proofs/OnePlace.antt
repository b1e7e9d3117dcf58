-- A place that is bound once is bound to what stands beside it.
use Rattle.std.proofs.Common.{◌≡◌, ℕ, zero, suc, Bool, true, false, cond, [], ◌∷◌, Some, refl, sym, ap, ◌∙◌, subst}
use Rattle.std.specs.Prelude.{slice_get}
use Rattle.std.proofs.lemmas.Option.{same_Some}
use Rattle.fcp_model.specs.declared.run.Place.{Place}
use Rattle.fcp_model.specs.Places.{Variable, made, is_same}
use Rattle.fcp_model.specs.Terms.{Term, Bindings, find}
use Rattle.fcp_model.proofs.Finding.{is_same-true, is_same_refl}
use Rattle.entry_lines.specs.Lines.{OnlyOnce}

-- what is found stands in the list, and of what stands there something is found
found_at : (bs : Bindings) (v : Variable) (t : Term Variable) → find bs v ≡ Some t → (k : ℕ) × (slice_get bs k ≡ Some (v, t))
found_at [] v t e = cc
found_at (b ∷ bs) v t e = go (is_same b.0 v) refl e (λ f. found_at bs v t f)
  where
    go : (c : Bool) → is_same b.0 v ≡ c → cond c (Some b.1) (find bs v) ≡ Some t
        → (find bs v ≡ Some t → (k : ℕ) × (slice_get bs k ≡ Some (v, t))) → (k : ℕ) × (slice_get (b ∷ bs) k ≡ Some (v, t))
    go true i f rec =
        let p : b.0 ≡ v = is_same-true b.0 v i in
        let q : b.1 ≡ t = same_Some b.1 t f in
        (0, λ i. Some (p i, q i))
    go false i f rec = let r = rec f in (suc r.0, r.1)

is_found : (bs : Bindings) (k : ℕ) (v : Variable) (t : Term Variable) → slice_get bs k ≡ Some (v, t)
    → (u : Term Variable) × (find bs v ≡ Some u)
is_found [] k v t e = cc
is_found (b ∷ bs) zero v t e =
    let p : b.0 ≡ v = ap (λ (c : Variable × Term Variable). c.0) (same_Some b (v, t) e) in
    let i : is_same b.0 v ≡ true = subst (λ (u : Variable). is_same b.0 u ≡ true) p (is_same_refl b.0) in
    (b.1, ap (λ (c : Bool). cond c (Some b.1) (find bs v)) i)
is_found (b ∷ bs) (suc k) v t e = go (is_same b.0 v) (is_found bs k v t e)
  where
    go : (c : Bool) → (u : Term Variable) × (find bs v ≡ Some u) → (u : Term Variable) × (cond c (Some b.1) (find bs v) ≡ Some u)
    go true r = (b.1, refl)
    go false r = r

pub bound_once : (bs : Bindings) → ((j : Place) (t : Term Variable) → find bs (made j) ≡ Some t → OnlyOnce bs j)
    → (k : ℕ) (j : Place) (t : Term Variable) → slice_get bs k ≡ Some (made j, t) → find bs (made j) ≡ Some t
bound_once bs once k j t e =
    let u = is_found bs k (made j) t e in
    let l = found_at bs (made j) u.0 u.1 in
    let same : l.0 ≡ k = once j u.0 u.1 l.0 k u.0 t l.1 e in
    let p : (made j, u.0) ≡ (made j, t) = same_Some (made j, u.0) (made j, t) (sym l.1 ∙ (ap (slice_get bs) same ∙ e)) in
    u.1 ∙ ap (λ (c : Variable × Term Variable). Some c.1) p
