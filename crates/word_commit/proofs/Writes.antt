-- The write of a word in a held page keeps the rule: above the page's top, or of a word that was to be published.
use Rattle.std.proofs.Common.{◌≡◌, ◌≢◌, ℕ, ◌+◌, ◌*◌, ◌/◌, ◌<◌, ◌≤◌, List, [], ◌∷◌, set, true, refl, sym, ap, ◌∙◌}
use Rattle.std.proofs.Common.{subst, ⊎_elim, inl, inr, arith, length-set, get_or-set_same, get_or-set_other}
use Rattle.std.specs.Prelude.{slice_index}
use mathlib.Core.Option.{some}
use mathlib.Core.Logic.{dite}
use native.Mathlib.Decide.{ℕ_discrete}
use lib.ListN.{get_elem?}
use Rattle.atomic_table.specs.Table.{Me, keeps, Allows}
use Rattle.word_commit.specs.declared.view.View.{View}
use Rattle.word_commit.specs.declared.view.Given.{Given}
use Rattle.word_commit.specs.declared.view.Nothing.{Nothing}
use Rattle.word_commit.specs.Meanings.{Meaning, Among}
use Rattle.word_commit.specs.Histories.{start_of, Inside}
use Rattle.word_commit.specs.Views.{is_in, elsewhere, rest, primed, published}
use Rattle.word_commit.specs.Kept.{words_of, page_at, clock_at, IsTrueOf, Kept}
use Rattle.word_commit.proofs.Lists.{among_elsewhere, among_rest}
use Rattle.word_commit.proofs.Keeping.{S, one_holder, holder_lags, changed}
use Rattle.word_commit.proofs.Sights.{tops_rose}

module _ {E : Type 0} (m : Meaning E) (g : Given) where
  -- the view after the word x was written at a, with this left to publish
  abbrev written_view : View E → ℕ → ℕ → List (ℕ × ℕ) → View E
  written_view v a x due = record v { grip = record v.grip { known = (a, x) ∷ elsewhere a v.grip.known; due = due } }

  cell_written : (s : S E) (k : Kept m g s) (id : ℕ) (v : View E) (a x : ℕ) (due : List (ℕ × ℕ)) → get_elem? s.views id ≡ some v
      → is_in (a / 1024) v.grip.held ≡ true
      → ((y : ℕ × ℕ) → Among due y → Among v.grip.due y) → (Inside m.words k.fold a → x ≡ slice_index k.fold a)
      → ((b : ℕ) → b ≢ a → Among v.grip.due (b, slice_index k.fold b) → Among due (b, slice_index k.fold b))
      → Kept m g record { words = set s.words a x; homes = s.homes; views = set s.views id (written_view v a x due) }
  cell_written s k id v a x due at mine fewer right still =
      let words = set s.words a x in
      let u = written_view v a x due in
      let f = k.views id v at in
      let lt = f.held (a / 1024) mine in
      let range : a < 1024 * g.pages = omega arith in
      let size = k.size in
      let here : slice_index words a ≡ x = get_or-set_same s.words a x 0 (omega arith) in
      let away : (b : ℕ) → b ≢ a → slice_index words b ≡ slice_index s.words b =
      (λ b ne. get_or-set_other s.words a b x 0 (λ e. ne (omega arith))) in
      let truth : IsTrueOf m g words k.log k.ever k.fold u = record {
        held = f.held;
        known = λ y h. ⊎_elim (λ (t : (a, x) ≡ y). subst (λ (y : ℕ × ℕ). (is_in (y.0 / 1024) v.grip.held ≡ true)
            × (slice_index words y.0 ≡ y.1)) t (mine, here))
            (λ (t : Among (elsewhere a v.grip.known) y). let q = among_elsewhere a v.grip.known y t in let r = f.known y q.0 in
            (r.0, away y.0 q.1 ∙ r.1)) h;
        due = λ y h. f.due y (fewer y h);
        shown = f.shown;
        entries = f.entries;
        front = f.front;
        spent = f.spent;
      } in
      changed m g s k id v u words record {
        at = at;
        entries = refl;
        purse = refl;
        size = length-set s.words a x;
        clock = away (clock_at g) (λ e. let c : clock_at g ≡ 1024 * g.pages + g.pages = refl in omega arith);
        holders = λ p q. let r : slice_index words (page_at g p) ≡ slice_index s.words (page_at g p) = away (page_at g p)
            (λ e. let c : page_at g p ≡ 1024 * g.pages + p = refl in omega arith) in
            let o = (k.holders p q).1 in (omega arith, omega arith);
        store = λ b within inside. dite (ℕ_discrete b a)
            (λ e. inl (subst (λ (b : ℕ). slice_index words b ≡ slice_index k.fold b)
            (sym e) (here ∙ right (subst (Inside m.words k.fold) e inside))))
            (λ ne. inr (away b ne, still b ne));
        mine = truth;
        others = λ j y ne e z h. away z.0 (λ same. ne (one_holder m g s k j id y v (z.0 / 1024) e at ((k.views j y e).known z h).0
            (subst (λ (b : ℕ). is_in (b / 1024) v.grip.held ≡ true) (sym same) mine)));
      }

  -- above a known top nothing is inside
  above_top : (s : S E) (k : Kept m g s) (id : ℕ) (v : View E) (a t : ℕ) → get_elem? s.views id ≡ some v → v.grip.due ≡ []
      → Among v.grip.known (start_of a, t) → m.words.top t ≤ a
      → (is_in (a / 1024) v.grip.held ≡ true) × (Inside m.words k.fold a → ⊥)
  above_top s k id v a t at idle known above =
      let f = k.views id v at in
      let h = f.known (start_of a, t) known in
      let page : start_of a / 1024 ≡ a / 1024 = omega arith in
      let mine : is_in (a / 1024) v.grip.held ≡ true = subst (λ (p : ℕ). is_in p v.grip.held ≡ true) page h.0 in
      let lt = f.held (a / 1024) mine in
      let start : start_of a ≡ start_of (start_of a) = omega arith in
      let same : slice_index s.words (start_of a) ≡ slice_index k.fold (start_of a) = ⊎_elim (λ e. e)
      (λ (d : Among v.grip.due (start_of a, slice_index k.fold (start_of a))). absurd
      (subst (λ l. Among l (start_of a, slice_index k.fold (start_of a))) idle d))
      (holder_lags m g s k id v (start_of a) at h.0 (omega arith) (inl start)) in
      let top : m.words.top (slice_index k.fold (start_of a)) ≡ m.words.top t = ap m.words.top (sym same ∙ h.1) in
      let rose = tops_rose m g s k (a / 1024) lt in
      let opens = k.opens (a / 1024) lt in
      let turn : 1024 * (a / 1024) ≡ start_of a = omega arith in
      let rose' : m.words.top (slice_index (words_of g) (1024 * (a / 1024))) ≤ m.words.top (slice_index k.fold (start_of a))
      = subst (λ (i : ℕ). m.words.top (slice_index (words_of g) (1024 * (a / 1024))) ≤ m.words.top (slice_index k.fold i)) turn rose in (
        mine,
        (λ inside. ⊎_elim (λ (e : a ≡ start_of a). omega arith)
            (λ (l : a < m.words.top (slice_index k.fold (start_of a))). omega arith) inside),
      )

  pub primes : (slots id : ℕ) (me : Me Nothing (View E)) (a x t : ℕ) → me.0.grip.due ≡ [] → Among me.0.grip.known (start_of a, t)
      → m.words.top t ≤ a
      → Allows (Kept m g) slots id me a (λ _. x) (λ found after. after ≡ (primed me.0 a x, me.1))
  primes slots id me a x t idle known above s k homes at fits64 =
      let v = me.0 in
      let r = above_top s k id v a t at idle known above in (
        primed v a x,
        keeps,
        tt,
        cell_written s k id v a x v.grip.due at r.0 (λ y h. h) (λ inside. absurd (r.1 inside))
            (λ b ne h. h),
        refl,
      )

  later : (l : List (ℕ × ℕ)) (y : ℕ × ℕ) (a x : ℕ) → l ≡ (a, x) ∷ rest l → y.0 ≢ a → Among l y → Among (rest l) y
  later l y a x e ne h = ⊎_elim (λ (t : (a, x) ≡ y). absurd (ne (sym (ap (λ (z : ℕ × ℕ). z.0) t)))) (λ (t : Among (rest l) y). t)
      (subst (λ l. Among l y) e h)

  pub publishes : (slots id : ℕ) (me : Me Nothing (View E)) (a x : ℕ) → me.0.grip.due ≡ (a, x) ∷ rest me.0.grip.due
      → Allows (Kept m g) slots id me a (λ _. x) (λ found after. after ≡ (published me.0 a x, me.1))
  publishes slots id me a x owed s k homes at fits64 =
      let v = me.0 in
      let d = (k.views id v at).due (a, x) (subst (λ l. Among l (a, x)) (sym owed) (inl refl)) in (
        published v a x,
        keeps,
        tt,
        cell_written s k id v a x (rest v.grip.due) at d.0 (λ y h. among_rest v.grip.due y h) (λ inside. sym d.1)
            (λ b ne h. later v.grip.due (b, slice_index k.fold b) a x owed ne h),
        refl,
      )
