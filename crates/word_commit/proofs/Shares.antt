-- To share a seat, and to join two, keeps the rule.
use Rattle.std.proofs.Common.{◌≡◌, ℕ, ◌+◌, ◌<◌, ◌≤◌, List, [], ◌∷◌, ◌++◌, length, set}
use Rattle.std.proofs.Common.{true≢false, refl, sym, ap, ◌∙◌, subst, ⊎_elim, inl, inr, arith}
use Rattle.std.specs.Prelude.{slice_index}
use mathlib.Core.Option.{some}
use lib.ListN.{get_elem?}
use lib.Seq.{set-get_or}
use Rattle.atomic_table.specs.Table.{Me, keeps, Allows, Splits, Joins}
use Rattle.atomic_table.proofs.Lists.{at_snoc, at_longer, set_else, set_again}
use Rattle.word_commit.specs.declared.quota.Quota.{Quota}
use Rattle.word_commit.specs.declared.view.View.{View}
use Rattle.word_commit.specs.declared.view.Given.{Given}
use Rattle.word_commit.specs.declared.view.Nothing.{Nothing}
use Rattle.word_commit.specs.Meanings.{Meaning, Among}
use Rattle.word_commit.specs.Views.{Charge, Commits, Moves, Cells, Extra, left, granted, times, shared, part, joined, spent}
use Rattle.word_commit.specs.Kept.{words_of, total, Once, numbers_of, IsTrueOf, Lags, Kept}
use Rattle.word_commit.specs.Conditions.{IsWithin}
use Rattle.word_commit.proofs.Lists.{each_set, among_either}
use Rattle.word_commit.proofs.Totals.{total_set, total_snoc, total_part}
use Rattle.word_commit.proofs.Pages.{times_both, numbers_both}
use Rattle.word_commit.proofs.Keeping.{lags_set}

module _ {E : Type 0} (m : Meaning E) (g : Given) where
  cut : (c : Charge) (v : View E) (q : Quota) → IsWithin q v → left c (shared v q).purse + left c (part v q).purse ≡ left c v.purse
  cut Commits v q h = let a = h.0 in omega arith
  cut Moves v q h = let a = h.1 in omega arith
  cut Cells v q h = let a = h.2 in omega arith
  cut Extra v q h = omega arith

  pub splits : (id : ℕ) (v : View E) (q : Quota) → 1 < v.purse.rights → IsWithin q v → Splits (Kept m g) id v (shared v q) (part v q)
  splits id v q two enough s k at =
      let a = shared v q in
      let b = part v q in
      let both : (f : View E → ℕ) → f a + f b ≡ f v → total f (set s.views id a ++ b ∷ []) ≡ total f s.views
      = (λ f e. let t = total_set f s.views id v a at in let u = total_snoc f (set s.views id a) b in omega arith) in
      let f = k.views id v at in
      let mine : IsTrueOf m g s.words k.log k.ever k.fold a = record {
        held = f.held;
        known = f.known;
        due = f.due;
        shown = f.shown;
        entries = f.entries;
        front = f.front;
        spent = λ none_left. absurd (omega arith);
      } in
      let new : IsTrueOf m g s.words k.log k.ever k.fold b = record {
        held = λ p h. absurd (true≢false (sym h));
        known = λ x h. absurd h;
        due = λ x h. absurd h;
        shown = λ x h. absurd h;
        entries = λ x h. absurd h;
        front = f.front;
        spent = λ none_left. absurd (omega arith);
      } in record {
        log = k.log;
        fold = k.fold;
        folds = k.folds;
        lawful = k.lawful;
        ever = k.ever;
        stood = k.stood;
        within = k.within;
        closed = k.closed;
        size = k.size;
        wide = k.wide;
        opens = k.opens;
        clock = k.clock;
        numbers = λ n. subst (λ (z : ℕ). Once (length k.log) n z)
            (sym (both (λ v. times n (numbers_of v.entries)) (omega arith))) (k.numbers n);
        holders = λ p lt. let t = both (λ v. times p v.grip.held) (omega arith) in let h = k.holders p lt in (h.0 ∙ sym t, h.1);
        budget = λ c. let t = both (λ v. left c v.purse) (cut c v q enough) in let o = k.budget c in omega arith;
        few = k.few;
        rights = let t = both (λ v. v.purse.rights) (omega arith) in let o = k.rights in omega arith;
        store = λ i range inside. ⊎_elim (λ (t : slice_index s.words i ≡ slice_index k.fold i). inl t)
            (λ (l : Lags m (words_of g) k.ever k.fold s.views i (slice_index s.words i)).
            let n = lags_set m g k.ever k.fold s.views id v a i (slice_index s.words i) at (λ h. h) l in
            inr record {
              id = n.id;
              view = n.view;
              at = at_longer (set s.views id a) (b ∷ []) n.id n.view n.at;
              due = n.due;
              soft = n.soft;
              plain = n.plain;
              top = n.top;
            })
            (k.store i range inside);
        views = λ j u e. ⊎_elim
            (λ (was : get_elem? (set s.views id a) j ≡ some u). each_set
            (λ _ y. IsTrueOf m g s.words k.log k.ever k.fold y) s.views id a mine (λ j u ne e. k.views j u e) j u was)
            (λ (is : b ≡ u). subst (IsTrueOf m g s.words k.log k.ever k.fold) is new)
            (at_snoc (set s.views id a) b u j e);
      }

  pub splits_as : (id : ℕ) (v : View E) (named q : Quota) → named ≡ q → 1 < v.purse.rights → IsWithin q v
      → Splits (Kept m g) id v (shared v named) (part v named)
  splits_as id v named q e two enough = rw e (splits id v q two enough)

  pub joins : (id : ℕ) (v : View E) (other : ℕ) (w : View E) → 0 < v.purse.rights → 0 < w.purse.rights → w.grip.held ≡ [] → w.grip.due
      ≡ []
      → Joins (Kept m g) id v other w (joined v w) spent
  joins id v other w alive alive' free idle s k at apart there =
      let a = joined v w in
      let here : get_elem? s.views other ≡ some w = sym (set_else s.views id other a apart) ∙ there in
      let both : (f : View E → ℕ) → f a + f spent ≡ f v + f w → total f (set (set s.views id a) other spent) ≡ total f s.views
      = (λ f e. let t = total_set f s.views id v a at in let u = total_set f (set s.views id a) other w spent there in omega arith) in
      let f = k.views id v at in
      let h = k.views other w here in
      let mine : IsTrueOf m g s.words k.log k.ever k.fold a = record {
        held = f.held;
        known = f.known;
        due = f.due;
        shown = f.shown;
        entries = λ x y. ⊎_elim (λ (t : Among v.entries x). let r = f.entries x t in let le = r.1 in (r.0, (omega arith)))
            (λ (t : Among w.entries x). let r = h.entries x t in let le = r.1 in
            (r.0, (omega arith))) (among_either v.entries w.entries x y);
        front = let p = f.front in let q = h.front in omega arith;
        spent = λ none_left. absurd (omega arith);
      } in
      let gone : IsTrueOf m g s.words k.log k.ever k.fold spent = record {
        held = λ p h. absurd (true≢false (sym h));
        known = λ x h. absurd h;
        due = λ x h. absurd h;
        shown = λ x h. absurd h;
        entries = λ x h. absurd h;
        front = omega arith;
        spent = λ _. (refl, refl);
      } in record {
        log = k.log;
        fold = k.fold;
        folds = k.folds;
        lawful = k.lawful;
        ever = k.ever;
        stood = k.stood;
        within = k.within;
        closed = k.closed;
        size = k.size;
        wide = k.wide;
        opens = k.opens;
        clock = k.clock;
        numbers = λ n. subst (λ (z : ℕ). Once (length k.log) n z) (sym (both (λ v. times n (numbers_of v.entries))
            (let z = ap (times n) (numbers_both v.entries w.entries) ∙ times_both (numbers_of v.entries) (numbers_of w.entries) n in
            let y : times n (numbers_of {E = E} []) ≡ 0 = refl in omega arith))) (k.numbers n);
        holders = λ p lt. let t = both (λ v. times p v.grip.held)
            (let z : times p w.grip.held ≡ 0 = ap (times p) free in let y : times p [] ≡ 0 = refl in omega arith) in
            let h = k.holders p lt in (h.0 ∙ sym t, h.1);
        budget = λ c. let t = both (λ v. left c v.purse) (sum c) in let o = k.budget c in omega arith;
        few = k.few;
        rights = let t = both (λ v. v.purse.rights) (omega arith) in let o = k.rights in omega arith;
        store = λ i range inside. ⊎_elim (λ (t : slice_index s.words i ≡ slice_index k.fold i). inl t)
            (λ (l : Lags m (words_of g) k.ever k.fold s.views i (slice_index s.words i)).
            let n = lags_set m g k.ever k.fold s.views id v a i (slice_index s.words i) at (λ h. h) l in
            inr (lags_set m g k.ever k.fold (set s.views id a) other w spent i (slice_index s.words i) there
            (λ h. absurd (subst (λ d. Among d (i, slice_index k.fold i)) idle h)) n))
            (k.store i range inside);
        views = each_set (λ _ y. IsTrueOf m g s.words k.log k.ever k.fold y) (set s.views id a) other spent gone
            (λ j u ne e. each_set (λ _ y. IsTrueOf m g s.words k.log k.ever k.fold y) s.views id a mine (λ j u n e. k.views j u e) j u e);
      }
    where
      sum : (c : Charge) → left c (joined v w).purse + left c (spent {E = E}).purse ≡ left c v.purse + left c w.purse
      sum Commits = omega arith
      sum Moves = omega arith
      sum Cells = omega arith
      sum Extra = omega arith

  -- A load that tells a seat that it has no more left than was given.
  pub audits : (slots id : ℕ) (me : Me Nothing (View E)) (i : ℕ)
      → Allows (Kept m g) slots id me i (λ n. n) (λ found after. (after ≡ me) × ((c : Charge) → left c me.0.purse ≤ granted c g))
  audits slots id me i s k homes at fits64 =
      let v = me.0 in (
        v,
        keeps,
        tt,
        subst (λ (z : List ℕ × List (View E)). Kept m g record { words = z.0; homes = s.homes; views = z.1 })
            (λ j. (sym (set-get_or s.words i 0) j, sym (set_again s.views id v at) j)) k,
        (refl, (λ c. let t = total_part (λ (v : View E). left c v.purse) s.views id v at in let o = k.budget c in omega arith)),
      )
