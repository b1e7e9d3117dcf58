-- A take and a give keep the rule.
use Rattle.std.proofs.Common.{◌≡◌, ◌≢◌, ℕ, ◌+◌, ◌*◌, ◌/◌, ◌<◌, ◌≤◌, eqb, List, ◌∷◌, set, true, false}
use Rattle.std.proofs.Common.{cond, refl, sym, ap, ◌∙◌, subst, ⊎_elim, inr, arith, eq-eqb, ne_eqb, length-set}
use Rattle.std.proofs.Common.{get_or-set_same, get_or-set_other}
use Rattle.std.specs.Prelude.{slice_index}
use mathlib.Core.Option.{some}
use mathlib.Core.Logic.{dite}
use native.Mathlib.Decide.{ℕ_discrete}
use lib.ListN.{get_elem?}
use Rattle.atomic_table.specs.Table.{Me, keeps, Allows}
use Rattle.word_commit.specs.declared.view.View.{View}
use Rattle.word_commit.specs.declared.view.Given.{Given}
use Rattle.word_commit.specs.declared.view.Nothing.{Nothing}
use Rattle.word_commit.specs.Meanings.{Meaning, Among}
use Rattle.word_commit.specs.Views.{all_rights, is_in, times, without, took, gave}
use Rattle.word_commit.specs.Kept.{page_at, clock_at, total, IsTrueOf, Kept}
use Rattle.word_commit.proofs.Lists.{among_outside}
use Rattle.word_commit.proofs.Totals.{total_part, total_alone}
use Rattle.word_commit.proofs.Pages.{in_times, out_times, times_without, times_else, in_without, times_more, times_same, in_more, in_less}
use Rattle.word_commit.proofs.Pages.{in_still}
use Rattle.word_commit.proofs.Keeping.{S, others_spent, changed}

module _ {E : Type 0} (m : Meaning E) (g : Given) where
  -- The word of a page changed, and with it who holds the page.
  page_changes : (s : S E) (k : Kept m g s) (id : ℕ) (v u : View E) (p x : ℕ) → get_elem? s.views id ≡ some v → p < g.pages → x ≤ 1
      → u.entries ≡ v.entries → u.purse ≡ v.purse → u.grip.due ≡ v.grip.due
      → x + times p v.grip.held ≡ slice_index s.words (page_at g p) + times p u.grip.held
      → ((q : ℕ) → q ≢ p → times q u.grip.held ≡ times q v.grip.held)
      → IsTrueOf m g s.words k.log k.ever k.fold u → Kept m g record {
        words = set s.words (page_at g p) x;
        homes = s.homes;
        views = set s.views id u;
      }
  page_changes s k id v u p x at lt small entries purse due here else truth =
      let words = set s.words (page_at g p) x in
      let size = k.size in
      let away : (i : ℕ) → i ≢ page_at g p → slice_index words i ≡ slice_index s.words i =
      (λ i ne. get_or-set_other s.words (page_at g p) i x 0 (λ e. ne (omega arith))) in
      let cell : (a : ℕ) → a < 1024 * g.pages → slice_index words a ≡ slice_index s.words a =
      (λ a range. away a (λ e. let i : page_at g p ≡ 1024 * g.pages + p = refl in omega arith)) in
      let known : (y : View E) → ((p : ℕ) → is_in p y.grip.held ≡ true → p < g.pages) → (z : ℕ × ℕ) → is_in (z.0 / 1024) y.grip.held
      ≡ true → slice_index words z.0 ≡ slice_index s.words z.0
      = (λ y held z h. let q = held (z.0 / 1024) h in cell z.0 (omega arith)) in
      changed m g s k id v u words record {
        at = at;
        entries = entries;
        purse = purse;
        size = length-set s.words (page_at g p) x;
        clock = away (clock_at g) (λ e. let i : page_at g p ≡ 1024 * g.pages + p = refl in let c : clock_at g
            ≡ 1024 * g.pages + g.pages = refl in omega arith);
        holders = λ q inside. dite (ℕ_discrete q p)
            (λ e. subst (λ (q : ℕ). (slice_index words (page_at g q) + times q v.grip.held
            ≡ slice_index s.words (page_at g q) + times q u.grip.held) × (slice_index words (page_at g q) ≤ 1)) (sym e)
            (let r : slice_index words (page_at g p) ≡ x = get_or-set_same s.words (page_at g p) x 0
            (let i : page_at g p ≡ 1024 * g.pages + p = refl in omega arith) in (omega arith, omega arith)))
            (λ ne. let r : slice_index words (page_at g q) ≡ slice_index s.words (page_at g q)
            = away (page_at g q) (λ e. ne (let i : page_at g p ≡ 1024 * g.pages + p = refl in let j : page_at g q
            ≡ 1024 * g.pages + q = refl in omega arith)) in
            let o = (k.holders q inside).1 in let t = else q ne in (omega arith, omega arith));
        store = λ a range inside. inr (cell a range, (λ h. subst (λ l. Among l (a, slice_index k.fold a)) (sym due) h));
        mine = record {
          held = truth.held;
          known = λ z h. let r = truth.known z h in (r.0, known u truth.held z r.0 ∙ r.1);
          due = truth.due;
          shown = truth.shown;
          entries = truth.entries;
          front = truth.front;
          spent = truth.spent;
        };
        others = λ j y ne e z h. let f = k.views j y e in known y f.held z (f.known z h).0;
      }

  took_list : (P : List ℕ → Type 0) (held : List ℕ) (p n : ℕ) → (n ≡ 0 → P (p ∷ held)) → (n ≢ 0 → P held)
      → P (cond (eqb n 0) (p ∷ held) held)
  took_list P held p n free busy = dite (ℕ_discrete n 0) (λ e. subst (λ b. P (cond b (p ∷ held) held)) (sym (eq-eqb n 0 e)) (free e))
      (λ ne. subst (λ b. P (cond b (p ∷ held) held)) (sym (ne_eqb n 0 ne)) (busy ne))

  pub takes : (slots id : ℕ) (me : Me Nothing (View E)) (p : ℕ) → p < g.pages → 0 < me.0.purse.rights → is_in p me.0.grip.held ≡ false
      → Allows (Kept m g) slots id me (page_at g p) (λ _. 1)
      (λ found after. (after ≡ (took me.0 p found, me.1)) × (found < 2) × (me.0.purse.rights ≡ all_rights → found ≡ 0))
  takes slots id me p lt alive out s k homes at range =
      let v = me.0 in
      let n = slice_index s.words (page_at g p) in
      let u = took v p n in
      let h = k.holders p lt in
      let le : n ≤ 1 = h.1 in
      let f = k.views id v at in
      let none : times p v.grip.held ≡ 0 = out_times p v.grip.held out in
      let truth : IsTrueOf m g s.words k.log k.ever k.fold u = record {
        held = took_list (λ l. (q : ℕ) → is_in q l ≡ true → q < g.pages) v.grip.held p n
            (λ _ q y. ⊎_elim (λ (t : q ≡ p). subst (λ (q : ℕ). q < g.pages) (sym t) lt)
            (λ (t : is_in q v.grip.held ≡ true). f.held q t) (in_less p q v.grip.held y)) (λ _. f.held);
        known = λ x y. let r = f.known x y in (
          took_list (λ l. is_in (x.0 / 1024) l ≡ true) v.grip.held p n
              (λ _. in_more p (x.0 / 1024) v.grip.held r.0) (λ _. r.0),
          r.1,
        );
        due = λ x y. let r = f.due x y in (
          took_list (λ l. is_in (x.0 / 1024) l ≡ true) v.grip.held p n
              (λ _. in_more p (x.0 / 1024) v.grip.held r.0) (λ _. r.0),
          r.1,
        );
        shown = f.shown;
        entries = f.entries;
        front = f.front;
        spent = λ z. absurd (omega arith);
      } in (
        u,
        keeps,
        tt,
        page_changes s k id v u p 1 at lt (omega arith) refl refl refl
            (took_list (λ l. 1 + times p v.grip.held ≡ n + times p l) v.grip.held p n
            (λ e. let t = times_more p v.grip.held in omega arith) (λ ne. omega arith))
            (λ q ne. took_list (λ l. times q l ≡ times q v.grip.held) v.grip.held p n (λ e. times_same p q v.grip.held ne)
            (λ _. refl)) truth,
        (
          refl,
          omega arith,
          (λ all. let t : total (λ (v : View E). times p v.grip.held) s.views ≡ times p v.grip.held
              = total_alone (λ (v : View E). times p v.grip.held) s.views id v at
              (λ j y ne e. ap (times p) (others_spent m g s k id v at all j y ne e).1) in let h0 = h.0 in omega arith),
        ),
      )

  pub gives : (slots id : ℕ) (me : Me Nothing (View E)) (p : ℕ) → p < g.pages → is_in p me.0.grip.held ≡ true
      → ((x : ℕ × ℕ) → Among me.0.grip.due x → x.0 / 1024 ≢ p) → Allows (Kept m g) slots id me (page_at g p) (λ _. 0)
      (λ found after. after ≡ (gave me.0 p, me.1))
  gives slots id me p lt has over s k homes at range =
      let v = me.0 in
      let u = gave v p in
      let h = k.holders p lt in
      let f = k.views id v at in
      let one = in_times p v.grip.held has in
      let none_left = times_without p v.grip.held in
      let part = total_part (λ (v : View E). times p v.grip.held) s.views id v at in
      let truth : IsTrueOf m g s.words k.log k.ever k.fold u = record {
        held = λ q y. f.held q (in_without p q v.grip.held y).0;
        known = λ x y. let t = among_outside p v.grip.known x y in let r = f.known x t.0 in
            (in_still p (x.0 / 1024) v.grip.held r.0 t.1, r.1);
        due = λ x y. let r = f.due x y in (in_still p (x.0 / 1024) v.grip.held r.0 (over x y), r.1);
        shown = f.shown;
        entries = f.entries;
        front = f.front;
        spent = λ z. let r = f.spent z in (r.0, ap (without p) r.1);
      } in (
        u,
        keeps,
        tt,
        page_changes s k id v u p 0 at lt (omega arith) refl refl refl (let a = h.0 in let b = h.1 in omega arith)
            (λ q ne. times_else p q v.grip.held ne) truth,
        refl,
      )

  pub takes_at : (slots id : ℕ) (me : Me Nothing (View E)) (p i q : ℕ) → i ≡ page_at g p → q ≡ p → p < g.pages → 0 < me.0.purse.rights
      → is_in p me.0.grip.held ≡ false
      → Allows (Kept m g) slots id me i (λ _. 1) (λ found after. (after ≡ (took me.0 q found, me.1)) × (found < 2)
      × (me.0.purse.rights ≡ all_rights → found ≡ 0))
  takes_at slots id me p i q e f lt alive out = rw (e, f) (takes slots id me p lt alive out)

  pub gives_at : (slots id : ℕ) (me : Me Nothing (View E)) (p i q : ℕ) → i ≡ page_at g p → q ≡ p → p < g.pages → is_in p me.0.grip.held
      ≡ true
      → ((x : ℕ × ℕ) → Among me.0.grip.due x → x.0 / 1024 ≢ p) → Allows (Kept m g) slots id me i (λ _. 0)
      (λ found after. after ≡ (gave me.0 q, me.1))
  gives_at slots id me p i q e f lt has over = rw (e, f) (gives slots id me p lt has over)
