-- For crates above: what calls leave in a view.
use Rattle.std.proofs.Common.{◌≡◌, ◌≢◌, ℕ, zero, suc, ◌+◌, ◌*◌, ◌/◌, ◌≤◌, List, [], ◌∷◌, true, cond, refl, sym}
use Rattle.std.proofs.Common.{ap, ◌∙◌, subst, ⊎_elim, inl, inr, arith, eq-eqb, ne_eqb}
use mathlib.Core.Logic.{dite}
use native.Mathlib.Decide.{ℕ_discrete}
use Rattle.std.proofs.Common.{subst}
use Rattle.std.specs.Prelude.{slice_index}
use Rattle.word_commit.specs.declared.view.View.{View}
use Rattle.word_commit.specs.declared.view.Grip.{Grip}
use Rattle.word_commit.specs.Meanings.{Wording, Among}
use Rattle.word_commit.specs.Histories.{tops}
use Rattle.word_commit.specs.Views.{is_in, elsewhere, gripped, published, all_published}

-- a word that is loaded in a held page is known
pub gripped_held_page : (g : Grip) (a x : ℕ) → is_in (a / 1024) g.held ≡ true → gripped g a x ≡ record g { known = (a, x) ∷ g.known }
gripped_held_page g a x h = subst (λ b. cond b (record g { known = (a, x) ∷ g.known }) g ≡ record g { known = (a, x) ∷ g.known })
    (sym h) refl

-- the sum of tops where no page's first word changed
pub same_tops : (m : Wording) (n : ℕ) (w u : List ℕ) → ((p : ℕ) → slice_index u (1024 * p) ≡ slice_index w (1024 * p)) → tops m n u
    ≡ tops m n w
same_tops m zero w u h = refl
same_tops m (suc p) w u h = λ i. m.top (h p i) + same_tops m p w u h i

module _ {E : Type 0} where
  -- words that are published change nothing but what is known and due
  pub published_held : (v : View E) (l : List (ℕ × ℕ)) → (all_published v l).grip.held ≡ v.grip.held
  published_held v [] = refl
  published_held v (x ∷ xs) = published_held (published v x.0 x.1) xs

-- a word at another address is still known after a write
pub elsewhere_keeps : (a : ℕ) (l : List (ℕ × ℕ)) (x : ℕ × ℕ) → Among l x → x.0 ≢ a → Among (elsewhere a l) x
elsewhere_keeps a [] x h n = h
elsewhere_keeps a (y ∷ ys) x h n = dite (ℕ_discrete y.0 a)
    (λ e. subst (λ b. Among (cond b (elsewhere a ys) (y ∷ elsewhere a ys)) x) (sym (eq-eqb y.0 a e))
    (⊎_elim (λ (t : y ≡ x). absurd (n (ap (λ (z : ℕ × ℕ). z.0) (sym t) ∙ e))) (λ (t : Among ys x). elsewhere_keeps a ys x t n) h))
    (λ ne. subst (λ b. Among (cond b (elsewhere a ys) (y ∷ elsewhere a ys)) x) (sym (ne_eqb y.0 a ne))
    (⊎_elim (λ (t : y ≡ x). inl t) (λ (t : Among ys x). inr (elsewhere_keeps a ys x t n)) h))

-- the sum of tops where one page's top rose by one at most
pub one_top : (m : Wording) (n p : ℕ) (w u : List ℕ) → ((q : ℕ) → q ≢ p → slice_index u (1024 * q) ≡ slice_index w (1024 * q))
    → m.top (slice_index u (1024 * p)) ≤ m.top (slice_index w (1024 * p)) + 1 → (tops m n u ≤ tops m n w + 1)
    × (n ≤ p → tops m n u ≤ tops m n w)
one_top m zero p w u h le = ((omega arith), (λ _. omega arith))
one_top m (suc k) p w u h le =
    let again = one_top m k p w u h le in
    let a = again.0 in
    dite (ℕ_discrete k p)
    (λ e. let b = again.1 (omega arith) in
    let top : m.top (slice_index u (1024 * k)) ≤ m.top (slice_index w (1024 * k)) + 1
    = subst (λ (i : ℕ). m.top (slice_index u (1024 * i)) ≤ m.top (slice_index w (1024 * i)) + 1) (sym e) le in
    ((omega arith), (λ z. absurd (omega arith))))
    (λ ne. let top : m.top (slice_index u (1024 * k)) ≡ m.top (slice_index w (1024 * k)) = ap m.top (h k ne) in
    ((omega arith), (λ z. let b = again.1 (omega arith) in omega arith)))
