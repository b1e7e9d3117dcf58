-- How often a number stands in a list, and lists of pages.
use Rattle.std.proofs.Common.{◌≡◌, ◌≢◌, ◌⊎◌, ℕ, suc, ◌+◌, ◌≤◌, eqb, List, [], ◌∷◌, ◌++◌, Bool, true, false, true≢false, cond}
use Rattle.std.proofs.Common.{refl, sym, ap, ◌∙◌, subst, ⊎_elim, inl, inr, arith, eq-eqb, ne_eqb}
use mathlib.Core.Logic.{dite}
use native.Mathlib.Decide.{ℕ_discrete}
use Rattle.std.proofs.Math.Nat.{zero-add}
use Rattle.word_commit.specs.declared.view.Numbered.{Numbered}
use Rattle.word_commit.specs.Views.{times, without, is_in}
use Rattle.word_commit.specs.Kept.{numbers_of}

pub in_times : (p : ℕ) (l : List ℕ) → is_in p l ≡ true → 1 ≤ times p l
in_times p [] h = absurd (true≢false (sym h))
in_times p (q ∷ qs) h = dite (ℕ_discrete q p)
    (λ e. subst (λ b. 1 ≤ cond b (suc (times p qs)) (times p qs)) (sym (eq-eqb q p e)) (omega arith))
    (λ ne. let t : is_in p qs ≡ true = subst (λ b. cond b true (is_in p qs) ≡ true) (ne_eqb q p ne) h in subst
    (λ b. 1 ≤ cond b (suc (times p qs)) (times p qs)) (sym (ne_eqb q p ne)) (in_times p qs t))

pub out_times : (p : ℕ) (l : List ℕ) → is_in p l ≡ false → times p l ≡ 0
out_times p [] h = refl
out_times p (q ∷ qs) h = dite (ℕ_discrete q p)
    (λ e. absurd (true≢false (subst (λ b. cond b true (is_in p qs) ≡ false) (eq-eqb q p e) h)))
    (λ ne. let t : is_in p qs ≡ false = subst (λ b. cond b true (is_in p qs) ≡ false) (ne_eqb q p ne) h in subst
    (λ b. cond b (suc (times p qs)) (times p qs) ≡ 0) (sym (ne_eqb q p ne)) (out_times p qs t))

pub times_without : (p : ℕ) (l : List ℕ) → times p (without p l) ≡ 0
times_without p [] = refl
times_without p (q ∷ qs) = dite (ℕ_discrete q p)
    (λ e. subst (λ b. times p (cond b (without p qs) (q ∷ without p qs)) ≡ 0) (sym (eq-eqb q p e)) (times_without p qs))
    (λ ne. subst (λ b. times p (cond b (without p qs) (q ∷ without p qs)) ≡ 0) (sym (ne_eqb q p ne))
    (subst (λ b. cond b (suc (times p (without p qs))) (times p (without p qs)) ≡ 0) (sym (ne_eqb q p ne)) (times_without p qs)))

pub times_else : (p r : ℕ) (l : List ℕ) → r ≢ p → times r (without p l) ≡ times r l
times_else p r [] n = refl
times_else p r (q ∷ qs) n = dite (ℕ_discrete q p)
    (λ e. subst (λ b. times r (cond b (without p qs) (q ∷ without p qs)) ≡ cond (eqb q r) (suc (times r qs)) (times r qs))
    (sym (eq-eqb q p e))
    (subst (λ b. times r (without p qs) ≡ cond b (suc (times r qs)) (times r qs))
    (sym (ne_eqb q r (λ k. n (sym k ∙ e)))) (times_else p r qs n)))
    (λ ne. subst (λ b. times r (cond b (without p qs) (q ∷ without p qs)) ≡ cond (eqb q r) (suc (times r qs)) (times r qs))
    (sym (ne_eqb q p ne)) (ap (λ (k : ℕ). cond (eqb q r) (suc k) k) (times_else p r qs n)))

pub in_without : (p r : ℕ) (l : List ℕ) → is_in r (without p l) ≡ true → (is_in r l ≡ true) × (r ≢ p)
in_without p r [] h = absurd (true≢false (sym h))
in_without p r (q ∷ qs) h = dite (ℕ_discrete q p)
    (λ e. let t = in_without p r qs (subst (λ b. is_in r (cond b (without p qs) (q ∷ without p qs)) ≡ true) (eq-eqb q p e) h) in
    (subst (λ b. cond b true (is_in r qs) ≡ true) (sym (ne_eqb q r (λ k. t.1 (sym k ∙ e)))) t.0, t.1))
    (λ ne. let g : cond (eqb q r) true (is_in r (without p qs)) ≡ true = subst
    (λ b. is_in r (cond b (without p qs) (q ∷ without p qs)) ≡ true) (ne_eqb q p ne) h in
    dite (ℕ_discrete q r)
    (λ e. (subst (λ b. cond b true (is_in r qs) ≡ true) (sym (eq-eqb q r e)) refl, (λ k. ne (e ∙ k))))
    (λ nr. let t = in_without p r qs (subst (λ b. cond b true (is_in r (without p qs)) ≡ true) (ne_eqb q r nr) g) in
    (subst (λ b. cond b true (is_in r qs) ≡ true) (sym (ne_eqb q r nr)) t.0, t.1)))

pub times_more : (p : ℕ) (l : List ℕ) → times p (p ∷ l) ≡ suc (times p l)
times_more p l = subst (λ b. cond b (suc (times p l)) (times p l) ≡ suc (times p l)) (sym (eq-eqb p p refl)) refl

pub times_same : (p q : ℕ) (l : List ℕ) → q ≢ p → times q (p ∷ l) ≡ times q l
times_same p q l n = subst (λ b. cond b (suc (times q l)) (times q l) ≡ times q l) (sym (ne_eqb p q (λ e. n (sym e)))) refl

pub in_more : (p q : ℕ) (l : List ℕ) → is_in q l ≡ true → is_in q (p ∷ l) ≡ true
in_more p q l h = dite (ℕ_discrete p q) (λ e. subst (λ b. cond b true (is_in q l) ≡ true) (sym (eq-eqb p q e)) refl)
    (λ n. subst (λ b. cond b true (is_in q l) ≡ true) (sym (ne_eqb p q n)) h)

pub in_less : (p q : ℕ) (l : List ℕ) → is_in q (p ∷ l) ≡ true → (q ≡ p) ⊎ (is_in q l ≡ true)
in_less p q l h = dite (ℕ_discrete p q) (λ e. inl (sym e)) (λ n. inr (subst (λ b. cond b true (is_in q l) ≡ true) (ne_eqb p q n) h))

pub in_still : (p r : ℕ) (l : List ℕ) → is_in r l ≡ true → r ≢ p → is_in r (without p l) ≡ true
in_still p r [] h n = h
in_still p r (q ∷ qs) h n = dite (ℕ_discrete q p)
    (λ e. subst (λ b. is_in r (cond b (without p qs) (q ∷ without p qs)) ≡ true)
    (sym (eq-eqb q p e)) (in_still p r qs (subst (λ b. cond b true (is_in r qs) ≡ true) (ne_eqb q r (λ k. n (sym k ∙ e))) h) n))
    (λ ne. subst (λ b. is_in r (cond b (without p qs) (q ∷ without p qs)) ≡ true) (sym (ne_eqb q p ne))
    (⊎_elim (λ (t : r ≡ q). subst (λ b. cond b true (is_in r (without p qs)) ≡ true) (sym (eq-eqb q r (sym t))) refl)
    (λ (t : is_in r qs ≡ true). in_more q r (without p qs) (in_still p r qs t n)) (in_less q r qs h)))

cond_suc : (b : Bool) (m n : ℕ) → m ≡ suc n → cond b (suc m) m ≡ suc (cond b (suc n) n)
cond_suc true m n e = ap suc e
cond_suc false m n e = e

cond_add : (b : Bool) (m n t : ℕ) → m ≡ n + t → cond b (suc m) m ≡ cond b (suc n) n + t
cond_add true m n t e = omega arith
cond_add false m n t e = e

pub times_both : (l r : List ℕ) (n : ℕ) → times n (l ++ r) ≡ times n l + times n r
times_both [] r n = sym (zero-add (times n r))
times_both (q ∷ qs) r n = cond_add (eqb q n) (times n (qs ++ r)) (times n qs) (times n r) (times_both qs r n)

module _ {E : Type 0} where
  pub numbers_both : (es fs : List (Numbered E)) → numbers_of (es ++ fs) ≡ numbers_of es ++ numbers_of fs
  numbers_both [] fs = refl
  numbers_both (x ∷ es) fs = ap (λ l. x.number ∷ l) (numbers_both es fs)

  -- one more entry, with the number c
  pub times_snoc : (es : List (Numbered E)) (e : E) (c n : ℕ)
      → (n ≡ c → times n (numbers_of (es ++ record { number = c; entry = e } ∷ [])) ≡ suc (times n (numbers_of es)))
      × (n ≢ c → times n (numbers_of (es ++ record { number = c; entry = e } ∷ [])) ≡ times n (numbers_of es))
  times_snoc es e c n =
      let f : List (Numbered E) = record { number = c; entry = e } ∷ [] in
      let b : times n (numbers_of (es ++ f)) ≡ times n (numbers_of es) + times n (c ∷ []) = ap (times n) (numbers_both es f)
      ∙ times_both (numbers_of es) (c ∷ []) n in (
        (λ is. let h : times n (c ∷ []) ≡ 1 = subst (λ (k : ℕ). times n (k ∷ []) ≡ 1) is (times_more n []) in omega arith),
        (λ ne. let h : times n (c ∷ []) ≡ 0 = times_same c n [] ne in omega arith),
      )
