-- One word of an occurs check.
use Rattle.std.proofs.Common.{◌≡◌, ℕ, true, false, List, [], ◌∷◌, ◌++◌, Some, refl, sym, ap, ◌∙◌, subst}
use Rattle.std.specs.Prelude.{nat_eq, reverse}
use Rattle.heap_words.specs.Trails.{WordList, Memory}
use Rattle.ro_unify.specs.Value.{Values}
use Rattle.ro_unify.specs.Occurs.{Occurs, here, leaf, node, at_end, Visits, is_leaf, Found, hit, miss, open_of, stack}
use Rattle.ro_unify.specs.declared.look.Look.{Look}
use Rattle.ro_unify.specs.declared.look.Look.TheVariants.{Solid, Writable, ReadOnly}
use Rattle.ro_unify.proofs.Stacks.{stack-push}

-- a visit as a step of the occurs check
hit_at : (bs : WordList) (m : Memory) (p w : ℕ) (ws rs rs' : List ℕ) (l : Look) (a : ℕ) → Values bs m false w l → open_of l ≡ Some a
    → rs' ≡ rs ++ a ∷ [] → nat_eq a p ≡ true → Occurs bs m p (w ∷ ws) rs (hit rs')
hit_at bs m p w ws rs rs' l a v o e t = subst (λ (qs : List ℕ). Occurs bs m p (w ∷ ws) rs (hit qs)) (sym e) (here w ws rs l a v o t)

miss_at : (bs : WordList) (m : Memory) (p w : ℕ) (ws rs ws' rs' : List ℕ) (l : Look) (a : ℕ) (f : Found) → Values bs m false w l
    → open_of l ≡ Some a → ws' ≡ ws → rs' ≡ rs ++ a ∷ [] → nat_eq a p ≡ false → Occurs bs m p ws' rs' f → Occurs bs m p (w ∷ ws) rs f
miss_at bs m p w ws rs ws' rs' l a f v o k e t h =
    leaf w ws rs l a f v o t (subst (λ (qs : List ℕ). Occurs bs m p ws qs f) e (subst (λ (us : List ℕ). Occurs bs m p us rs' f) k h))

visit_hit : (bs : WordList) (m : Memory) (p w : ℕ) (ws rs ws' rs' : List ℕ) (l : Look) → Visits bs m w ws rs ws' rs' l → is_leaf l p ≡ true
    → Occurs bs m p (w ∷ ws) rs (hit rs')
visit_hit bs m p w ws rs ws' rs' (Writable a) v t = hit_at bs m p w ws rs rs' (Writable a) a v.0 refl v.2 t
visit_hit bs m p w ws rs ws' rs' (ReadOnly a) v t = hit_at bs m p w ws rs rs' (ReadOnly a) a v.0 refl v.2 t
visit_hit bs m p w ws rs ws' rs' (Solid x) v t = cc

visit_on : (bs : WordList) (m : Memory) (p w : ℕ) (ws rs ws' rs' : List ℕ) (l : Look) (f : Found) → Visits bs m w ws rs ws' rs' l
    → is_leaf l p ≡ false → Occurs bs m p ws' rs' f → Occurs bs m p (w ∷ ws) rs f
visit_on bs m p w ws rs ws' rs' (Writable a) f v t h = miss_at bs m p w ws rs ws' rs' (Writable a) a f v.0 refl v.1 v.2 t h
visit_on bs m p w ws rs ws' rs' (ReadOnly a) f v t h = miss_at bs m p w ws rs ws' rs' (ReadOnly a) a f v.0 refl v.1 v.2 t h
visit_on bs m p w ws rs ws' rs' (Solid x) f v t h =
    node w ws rs x f v.0 (subst (λ (us : List ℕ). Occurs bs m p us rs f) v.1 (subst (λ (qs : List ℕ). Occurs bs m p ws' qs f) v.2 h))

-- the first word of a work list
pub first_on : (old new : List ℕ) (x : ℕ) → old ≡ [] → new ≡ old ++ x ∷ [] → stack new ≡ x ∷ []
first_on old new x e f = ap stack (f ∙ ap (λ (ws : List ℕ). ws ++ x ∷ []) e)

-- the next word of a work list
pub next_on : {A : Type 0} (old new : List A) (x : A) → old ≡ new ++ x ∷ [] → reverse old ≡ x ∷ reverse new
next_on old new x e = ap reverse e ∙ stack-push new x

pub none_left : (bs : WordList) (m : Memory) (p : ℕ) (ws rs : List ℕ) → ws ≡ [] → Occurs bs m p (stack ws) rs (miss rs)
none_left bs m p ws rs e = subst (λ (us : List ℕ). Occurs bs m p (stack us) rs (miss rs)) (sym e) (at_end rs)

pub visited_hit : (bs : WordList) (m : Memory) (p w : ℕ) (old new rs ws' rs' : List ℕ) (l : Look) → old ≡ new ++ w ∷ []
    → Visits bs m w (stack new) rs ws' rs' l → is_leaf l p ≡ true → Occurs bs m p (stack old) rs (hit rs')
visited_hit bs m p w old new rs ws' rs' l e v t =
    subst (λ (us : List ℕ). Occurs bs m p us rs (hit rs')) (sym (next_on old new w e)) (visit_hit bs m p w (stack new) rs ws' rs' l v t)

pub visited_on : (bs : WordList) (m : Memory) (p w : ℕ) (old new rs ws' rs' : List ℕ) (l : Look) (f : Found) → old ≡ new ++ w ∷ []
    → Visits bs m w (stack new) rs ws' rs' l → is_leaf l p ≡ false → Occurs bs m p ws' rs' f → Occurs bs m p (stack old) rs f
visited_on bs m p w old new rs ws' rs' l f e v t h =
    subst (λ (us : List ℕ). Occurs bs m p us rs f) (sym (next_on old new w e)) (visit_on bs m p w (stack new) rs ws' rs' l f v t h)
