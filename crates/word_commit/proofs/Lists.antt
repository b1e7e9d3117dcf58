-- Lists: what stands in them, and what stands where after a change.
use Rattle.std.proofs.Common.{◌≡◌, ◌≢◌, ◌⊎◌, ℕ, zero, suc, ◌/◌, ◌<◌, ◌≤◌, List, [], ◌∷◌, ◌++◌, length, set, drop, Some}
use Rattle.std.proofs.Common.{None, true, cond, refl, sym, ap, ◌∙◌, subst, ⊎_elim, inl, inr, arith, eq-eqb, ne_eqb}
use Rattle.std.proofs.Common.{append_assoc, append-nil}
use Rattle.std.specs.Prelude.{slice_get, unwrap_or}
use mathlib.Core.Logic.{dite}
use native.Mathlib.Decide.{ℕ_discrete}
use mathlib.Core.Option.{some, some-ne-none}
use lib.ListN.{get_elem?}
use Rattle.atomic_table.proofs.Lists.{at_set}
use Rattle.word_commit.specs.Meanings.{Meaning, Among}
use Rattle.word_commit.specs.Histories.{Distinct, Inside, Closed, AddsNothing}
use Rattle.word_commit.specs.Views.{elsewhere, outside, rest}
use Rattle.word_commit.specs.Kept.{Plain}

module _ {A : Type 0} where
  pub among_left : (l r : List A) (x : A) → Among l x → Among (l ++ r) x
  among_left [] r x h = absurd h
  among_left (y ∷ ys) r x (inl e) = inl e
  among_left (y ∷ ys) r x (inr h) = inr (among_left ys r x h)

  pub among_right : (l r : List A) (x : A) → Among r x → Among (l ++ r) x
  among_right [] r x h = h
  among_right (y ∷ ys) r x h = inr (among_right ys r x h)

  pub among_either : (l r : List A) (x : A) → Among (l ++ r) x → Among l x ⊎ Among r x
  among_either [] r x h = inr h
  among_either (y ∷ ys) r x (inl e) = inl (inl e)
  among_either (y ∷ ys) r x (inr h) = ⊎_elim (λ (t : Among ys x). inl (inr t)) (λ (t : Among r x). inr t) (among_either ys r x h)

  pub at_length : (l : List A) (i : ℕ) (v : A) → get_elem? l i ≡ some v → i < length l
  at_length [] i v e = absurd (some-ne-none v (sym e))
  at_length (x ∷ xs) zero v e = omega arith
  at_length (x ∷ xs) (suc i) v e = let h = at_length xs i v e in omega arith

  -- a fact about each element, after one of them changed
  pub each_set : (P : ℕ → A → Type 0) (vs : List A) (id : ℕ) (w : A) → P id w
      → ((j : ℕ) (u : A) → j ≢ id → get_elem? vs j ≡ some u → P j u)
      → (j : ℕ) (u : A) → get_elem? (set vs id w) j ≡ some u → P j u
  each_set P vs id w mine others j u e = ⊎_elim (λ (t : (j ≡ id) × (w ≡ u)). subst (λ (y : ℕ × _). P y.0 y.1)
      (λ i. (sym t.0 i, t.1 i)) mine)
      (λ (t : (j ≢ id) × (get_elem? vs j ≡ some u)). others j u t.0 t.1) (at_set vs id j w u e)

pub among_rest : (l : List (ℕ × ℕ)) (x : ℕ × ℕ) → Among (rest l) x → Among l x
among_rest [] x h = h
among_rest (y ∷ ys) x h = inr h

pub among_elsewhere : (a : ℕ) (l : List (ℕ × ℕ)) (x : ℕ × ℕ) → Among (elsewhere a l) x → Among l x × (x.0 ≢ a)
among_elsewhere a [] x h = absurd h
among_elsewhere a (y ∷ ys) x h = dite (ℕ_discrete y.0 a)
    (λ e. let t = among_elsewhere a ys x (subst (λ b. Among (cond b (elsewhere a ys) (y ∷ elsewhere a ys)) x) (eq-eqb y.0 a e) h) in
    (inr t.0, t.1))
    (λ ne. ⊎_elim (λ (t : y ≡ x). (inl t, (λ k. ne (ap (λ (z : ℕ × ℕ). z.0) t ∙ k))))
    (λ (t : Among (elsewhere a ys) x). let u = among_elsewhere a ys x t in (inr u.0, u.1))
    (subst (λ b. Among (cond b (elsewhere a ys) (y ∷ elsewhere a ys)) x) (ne_eqb y.0 a ne) h))

pub among_outside : (p : ℕ) (l : List (ℕ × ℕ)) (x : ℕ × ℕ) → Among (outside p l) x → Among l x × (x.0 / 1024 ≢ p)
among_outside p [] x h = absurd h
among_outside p (y ∷ ys) x h = dite (ℕ_discrete (y.0 / 1024) p)
    (λ e. let t = among_outside p ys x (subst (λ b. Among (cond b (outside p ys) (y ∷ outside p ys)) x) (eq-eqb (y.0 / 1024) p e) h) in
    (inr t.0, t.1))
    (λ ne. ⊎_elim (λ (t : y ≡ x). (inl t, subst (λ (z : ℕ × ℕ). z.0 / 1024 ≢ p) t ne))
    (λ (t : Among (outside p ys) x). let u = among_outside p ys x t in (inr u.0, u.1))
    (subst (λ b. Among (cond b (outside p ys) (y ∷ outside p ys)) x) (ne_eqb (y.0 / 1024) p ne) h))

module _ {E : Type 0} (m : Meaning E) where
  plain_closed : (ever : List (ℕ × ℕ)) (w : List ℕ) → Closed m.words ever w → (l r : List (ℕ × ℕ)) (a : ℕ)
      → ((x : ℕ × ℕ) → Among l x → Among ever x)
      → ((x : ℕ × ℕ) → Among r x → Plain m ever x) → m.words.refers (l ++ r) a ≡ true → Inside m.words w a × (a < length w)
  plain_closed ever w closed l [] a good plain h = closed l a good
      (subst (λ (z : List (ℕ × ℕ)). m.words.refers z a ≡ true) (append-nil l) h)
  plain_closed ever w closed l (x ∷ r) a good plain h = ⊎_elim
      (λ (t : Among ever x). plain_closed ever w closed (l ++ x ∷ []) r a
      (λ y g. ⊎_elim (λ (q : Among l y). good y q) (λ (q : Among (x ∷ []) y). only y q t) (among_either l (x ∷ []) y g))
      (λ y g. plain y (inr g))
      (subst (λ (z : List (ℕ × ℕ)). m.words.refers z a ≡ true) (sym (append_assoc l (x ∷ []) r)) h))
      (λ (t : AddsNothing m.words x). plain_closed ever w closed l r a good (λ y g. plain y (inr g)) (sym (t l r a) ∙ h))
      (plain x (inl refl))
    where
      only : (y : ℕ × ℕ) → Among (x ∷ []) y → Among ever x → Among ever y
      only y (inl e) g = subst (Among ever) e g
      only y (inr f) g = absurd f

  -- words that stood inside or add nothing refer together to nothing but addresses inside
  pub plain_inside : (ever : List (ℕ × ℕ)) (w : List ℕ) (l : List (ℕ × ℕ)) (a : ℕ) → Closed m.words ever w
      → ((x : ℕ × ℕ) → Among l x → Plain m ever x)
      → m.words.refers l a ≡ true → Inside m.words w a × (a < length w)
  plain_inside ever w l a closed plain h = plain_closed ever w closed [] l a (λ x g. absurd g) plain h

elsewhere_none : (a : ℕ) (l : List (ℕ × ℕ)) → ((y : ℕ) → Among l (a, y) → ⊥) → elsewhere a l ≡ l
elsewhere_none a [] none_there = refl
elsewhere_none a (x ∷ xs) none_there = dite (ℕ_discrete x.0 a)
    (λ e. absurd (none_there x.1 (inl (λ i. (e i, x.1)))))
    (λ ne. subst (λ b. cond b (elsewhere a xs) (x ∷ elsewhere a xs) ≡ x ∷ xs) (sym (ne_eqb x.0 a ne))
    (ap (λ l. x ∷ l) (elsewhere_none a xs (λ y h. none_there y (inr h)))))

elsewhere_shorter : (a : ℕ) (l : List (ℕ × ℕ)) → Distinct l → length l ≤ suc (length (elsewhere a l))
elsewhere_shorter a [] d = omega arith
elsewhere_shorter a (x ∷ xs) d = dite (ℕ_discrete x.0 a)
    (λ e. subst (λ b. suc (length xs) ≤ suc (length (cond b (elsewhere a xs) (x ∷ elsewhere a xs)))) (sym (eq-eqb x.0 a e))
    (let s : length (elsewhere a xs) ≡ length xs = ap length (elsewhere_none a xs
    (λ y h. d.0 y (subst (λ (k : ℕ). Among xs (k, y)) (sym e) h))) in omega arith))
    (λ ne. subst (λ b. suc (length xs) ≤ suc (length (cond b (elsewhere a xs) (x ∷ elsewhere a xs)))) (sym (ne_eqb x.0 a ne))
    (let s = elsewhere_shorter a xs d.1 in let t : length (x ∷ elsewhere a xs) ≡ suc (length (elsewhere a xs)) = refl in omega arith))

distinct_elsewhere : (a : ℕ) (l : List (ℕ × ℕ)) → Distinct l → Distinct (elsewhere a l)
distinct_elsewhere a [] d = d
distinct_elsewhere a (x ∷ xs) d = dite (ℕ_discrete x.0 a)
    (λ e. subst (λ b. Distinct (cond b (elsewhere a xs) (x ∷ elsewhere a xs))) (sym (eq-eqb x.0 a e)) (distinct_elsewhere a xs d.1))
    (λ ne. subst (λ b. Distinct (cond b (elsewhere a xs) (x ∷ elsewhere a xs)))
    (sym (ne_eqb x.0 a ne)) ((λ y h. d.0 y (among_elsewhere a xs (x.0, y) h).0), distinct_elsewhere a xs d.1))

-- there are no more words at different addresses than addresses
pub distinct_few : (n : ℕ) (l : List (ℕ × ℕ)) → Distinct l → ((x : ℕ × ℕ) → Among l x → x.0 < n) → length l ≤ n
distinct_few zero [] d below = omega arith
distinct_few zero (x ∷ xs) d below = absurd (let h = below x (inl refl) in omega arith)
distinct_few (suc n) l d below =
    let shorter = elsewhere_shorter n l d in
    let few = distinct_few n (elsewhere n l) (distinct_elsewhere n l d)
    (λ x h. let t = among_elsewhere n l x h in let lt = below x t.0 in let ne = t.1 in omega arith) in omega arith

-- the elements of a list from one on
pub drop_here : (l : List (ℕ × ℕ)) (i : ℕ) (x : ℕ × ℕ) → slice_get l i ≡ Some x → (drop i l ≡ x ∷ drop (suc i) l) × (i < length l)
drop_here [] i x e = absurd (none_some x e)
  where
    none_some : (x : ℕ × ℕ) → None ≡ Some x → ⊥
    none_some x e = cc
drop_here (y ∷ ys) zero x e = (ap (λ z. z ∷ ys) (some_same y x e), (let t : length (y ∷ ys) ≡ suc (length ys) = refl in omega arith))
  where
    some_same : (y x : ℕ × ℕ) → Some y ≡ Some x → y ≡ x
    some_same y x e = ap (λ o. unwrap_or o y) e
drop_here (y ∷ ys) (suc i) x e = let r = drop_here ys i x e in
    (r.0, (let h = r.1 in let t : length (y ∷ ys) ≡ suc (length ys) = refl in omega arith))

pub drop_end : (l : List (ℕ × ℕ)) (i : ℕ) → slice_get l i ≡ None → drop i l ≡ []
drop_end [] zero e = refl
drop_end [] (suc i) e = refl
drop_end (y ∷ ys) zero e = absurd (some_none y e)
  where
    some_none : (x : ℕ × ℕ) → Some x ≡ None → ⊥
    some_none x e = cc
drop_end (y ∷ ys) (suc i) e = drop_end ys i e
