-- The value of a word is the value of its term.
use Rattle.std.proofs.Common.{◌≡◌, ℕ, suc, Bool, true, false, cond, ℤ, Option, Some, None, refl, sym, ap, ◌∙◌, subst}
use Rattle.heap_words.specs.Cells.{decoded}
use Rattle.heap_words.specs.Trails.{WordList, Memory, word_at}
use Rattle.heap_words.specs.declared.cell.Cell.{Cell}
use Rattle.heap_words.specs.declared.cell.Cell.TheVariants as cell
use Rattle.ro_unify.specs.Value.{Values, ends, goes, step_of, step_at, bound_step, open_at, is_unbound, leads_on}
use Rattle.ro_unify.specs.declared.look.Look.{Look}
use Rattle.ro_unify.specs.declared.look.Look.TheVariants as look
use Rattle.ro_unify.specs.declared.look.Step.TheVariants.{End, On}
use Rattle.fcp_model.specs.Places.{Variable}
use Rattle.fcp_model.specs.Terms.{Term, number, string, nil, cons, tuple, var, ro, first, Bindings, find}
use Rattle.fcp_model.specs.Value.{writable, read_only, solid, value, value_of, through, open_place}
use Rattle.fcp_model.specs.Value as terms
use Rattle.unify_terms.specs.Denotes.{Naming, Denotes, Stands, LookIs, HasValue, value_as, NumberIn}

pub no_place : (m : Memory) (only : Bool) (c : Cell) (z : ℤ) → NumberIn m c z → leads_on only (Some c) ≡ None
no_place m only (cell.Small y) z e = refl
no_place m only (cell.Wide a h) z e = refl
no_place m only (cell.Unbound k) z e = refl
no_place m only (cell.Ref a) z e = absurd e
no_place m only (cell.RoRef a) z e = absurd e
no_place m only (cell.Str s) z e = refl
no_place m only cell.Nil z e = refl
no_place m only (cell.Cons a) z e = refl
no_place m only (cell.Tuple a) z e = refl
no_place m only (cell.Status d) z e = refl
no_place m only (cell.Raw k) z e = refl
no_place m only (cell.Top a) z e = refl

-- where no mark was met before, it is the value of the term
pub value_is : (p : Naming) (m : Memory) (n : ℕ) (s : Bindings) (t : Term Variable) → value n s t ≡ value_as p m n s false t
value_is p m n s (var q) = refl
value_is p m n s (ro q) = refl
value_is p m n s (first k) = refl
value_is p m n s (number z) = refl
value_is p m n s (string z) = refl
value_is p m n s nil = refl
value_is p m n s (cons t u) = refl
value_is p m n s (tuple ts) = refl

module _ (p : Naming) (bs : WordList) (m : Memory) (s : Bindings) (stands : Stands p m bs s) where
  -- a word that is no place ends at once
  pub solid_end : (only : Bool) (w : ℕ) (l : Look) → leads_on only (decoded w) ≡ None → step_of bs m only w ≡ End l → l ≡ look.Solid w
  solid_end only w l e f = let h : step_at bs m w None ≡ End l = ap (step_at bs m w) (sym e) ∙ f in cc

  pub solid_on : (only : Bool) (w : ℕ) (o : Bool) (x : ℕ) → leads_on only (decoded w) ≡ None → step_of bs m only w ≡ On o x → ⊥
  solid_on only w o x e f = let h : step_at bs m w None ≡ On o x = ap (step_at bs m w) (sym e) ∙ f in cc

  has_solid : (only : Bool) (t : Term Variable) (w : ℕ) (l : Look) → Denotes p m t w → value_as p m 0 s only t ≡ Some (solid t)
      → l ≡ look.Solid w → HasValue p m s only t l
  has_solid only t w l d v e = record { look = solid t; is = subst (λ (k : Look). LookIs p m k (solid t)) (sym e) d; steps = 0; value = v }

  -- a place that is unbound
  pub open_end : (only : Bool) (a : ℕ) (l : Look) (v : Variable) → p.is_place a ≡ true → p.name a ≡ v
      → bound_step only a (word_at bs a) (m a) ≡ End l → (k : terms.Look) × (LookIs p m l k) × (value_of 1 s only v ≡ Some k)
  open_end only a l v h e f = go (word_at bs a) (is_unbound (decoded (m a))) refl refl f
    where
      look_is : (only : Bool) → LookIs p m (open_at only a) (open_place only v)
      look_is true = (h, e)
      look_is false = (h, e)

      go : (o : Option ℕ) (u : Bool) → word_at bs a ≡ o → is_unbound (decoded (m a)) ≡ u → bound_step only a o (m a) ≡ End l
          → (k : terms.Look) × (LookIs p m l k) × (value_of 1 s only v ≡ Some k)
      go (Some x) u i j g = cc
      go None true i j g =
          let q : End (open_at only a) ≡ End l = sym (ap (λ c. cond c (End (open_at only a)) (On only (m a))) j) ∙ g in
          let r : open_at only a ≡ l = cc in (
            open_place only v,
            subst (λ (k : Look). LookIs p m k (open_place only v)) r (look_is only),
            ap (through (value_of 0 s) only v)
                (ap (find s) (sym e) ∙ stands.unbound a h i j),
          )
      go None false i j g =
          let q : On only (m a) ≡ End l = sym (ap (λ c. cond c (End (open_at only a)) (On only (m a))) j) ∙ g in cc

  -- a place that is bound
  pub bound_on : (only : Bool) (a : ℕ) (o : Bool) (x : ℕ) (v : Variable) → p.is_place a ≡ true → p.name a ≡ v
      → bound_step only a (word_at bs a) (m a) ≡ On o x → (o ≡ only) × ((t : Term Variable) × (find s v ≡ Some t) × Denotes p m t x)
  bound_on only a o x v h e f = go (word_at bs a) (is_unbound (decoded (m a))) refl refl f
    where
      named : (y : ℕ) → y ≡ x → ((t : Term Variable) × (find s (p.name a) ≡ Some t) × Denotes p m t y)
          → (t : Term Variable) × (find s v ≡ Some t) × Denotes p m t x
      named y q d = (d.0, ap (find s) (sym e) ∙ d.1, subst (Denotes p m d.0) q d.2)

      go : (c : Option ℕ) (u : Bool) → word_at bs a ≡ c → is_unbound (decoded (m a)) ≡ u → bound_step only a c (m a) ≡ On o x
          → (o ≡ only) × ((t : Term Variable) × (find s v ≡ Some t) × Denotes p m t x)
      go (Some y) u i j g = let q : y ≡ x = cc in let r : o ≡ only = cc in (r, named y q (stands.privately a y h i))
      go None true i j g =
          let q : End (open_at only a) ≡ On o x = sym (ap (λ c. cond c (End (open_at only a)) (On only (m a))) j) ∙ g in cc
      go None false i j g =
          let q : On only (m a) ≡ On o x = sym (ap (λ c. cond c (End (open_at only a)) (On only (m a))) j) ∙ g in
          let y : m a ≡ x = cc in let r : o ≡ only = cc in (r, named (m a) y (stands.bound a h i j))

  through_as : (n : ℕ) (only : Bool) (v : Variable) (t : Term Variable) → value_as p m n s only t ≡ through (value_of n s) only v (Some t)
  through_as n only v (var q) = refl
  through_as n only v (ro q) = refl
  through_as n only v (first k) = refl
  through_as n only v (number z) = refl
  through_as n only v (string z) = refl
  through_as n only v nil = refl
  through_as n only v (cons t u) = refl
  through_as n only v (tuple ts) = refl

  one_more : (only : Bool) (v : Variable) (t : Term Variable) (l : Look) → find s v ≡ Some t → HasValue p m s only t l
      → (k : terms.Look) × (LookIs p m l k) × ((n : ℕ) × (value_of n s only v ≡ Some k))
  one_more only v t l e h =
      (h.look, h.is, (suc h.steps, ap (through (value_of h.steps s) only v) e ∙ (sym (through_as h.steps only v t) ∙ h.value)))

  -- the value of a word is the value of its term
  pub values_so : (only : Bool) (w : ℕ) (l : Look) → Values bs m only w l → (t : Term Variable) → Denotes p m t w → HasValue p m s only t l
  values_so _ _ _ (ends only w l f) (number z) d =
      has_solid only (number z) w l d refl (solid_end only w l (ap (leads_on only) d.1 ∙ no_place m only d.0 z d.2) f)
  values_so _ _ _ (ends only w l f) (string z) d = has_solid only (string z) w l d refl (solid_end only w l (ap (leads_on only) d.1) f)
  values_so _ _ _ (ends only w l f) nil d = has_solid only nil w l d refl (solid_end only w l (ap (leads_on only) d) f)
  values_so _ _ _ (ends only w l f) (cons t u) d = has_solid only (cons t u) w l d refl (solid_end only w l (ap (leads_on only) d.1) f)
  values_so _ _ _ (ends only w l f) (tuple ts) d = has_solid only (tuple ts) w l d refl (solid_end only w l (ap (leads_on only) d.1) f)
  values_so _ _ _ (ends only w l f) (var v) d =
      let r = open_end only d.0 l v d.2.0 d.2.1 (sym (ap (λ c. step_at bs m w (leads_on only c)) d.1) ∙ f) in
      record { look = r.0; is = r.1; steps = 1; value = r.2 }
  values_so _ _ _ (ends only w l f) (ro v) d =
      let r = open_end true d.0 l v d.2.0 d.2.1 (sym (ap (λ c. step_at bs m w (leads_on only c)) d.1) ∙ f) in
      record { look = r.0; is = r.1; steps = 1; value = r.2 }
  values_so _ _ _ (ends only w l f) (first k) d = absurd d
  values_so _ _ _ (goes only w o x l f v) (number z) d = absurd (solid_on only w o x (ap (leads_on only) d.1 ∙ no_place m only d.0 z d.2) f)
  values_so _ _ _ (goes only w o x l f v) (string z) d = absurd (solid_on only w o x (ap (leads_on only) d.1) f)
  values_so _ _ _ (goes only w o x l f v) nil d = absurd (solid_on only w o x (ap (leads_on only) d) f)
  values_so _ _ _ (goes only w o x l f v) (cons t u) d = absurd (solid_on only w o x (ap (leads_on only) d.1) f)
  values_so _ _ _ (goes only w o x l f v) (tuple ts) d = absurd (solid_on only w o x (ap (leads_on only) d.1) f)
  values_so _ _ _ (goes only w o x l f v) (var q) d =
      let r = bound_on only d.0 o x q d.2.0 d.2.1 (sym (ap (λ c. step_at bs m w (leads_on only c)) d.1) ∙ f) in
      let i = values_so o x l v r.1.0 r.1.2 in
      let h = one_more only q r.1.0 l r.1.1 (subst (λ (b : Bool). HasValue p m s b r.1.0 l) r.0 i) in
      record { look = h.0; is = h.1; steps = h.2.0; value = h.2.1 }
  values_so _ _ _ (goes only w o x l f v) (ro q) d =
      let r = bound_on true d.0 o x q d.2.0 d.2.1 (sym (ap (λ c. step_at bs m w (leads_on only c)) d.1) ∙ f) in
      let i = values_so o x l v r.1.0 r.1.2 in
      let h = one_more true q r.1.0 l r.1.1 (subst (λ (b : Bool). HasValue p m s b r.1.0 l) r.0 i) in
      record { look = h.0; is = h.1; steps = h.2.0; value = h.2.1 }
  values_so _ _ _ (goes only w o x l f v) (first k) d = absurd d
