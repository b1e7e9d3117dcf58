-- A load of the clock keeps the rule.
use Rattle.std.proofs.Common.{◌≡◌, ℕ, ◌≤◌, List, set, refl, sym, subst, inr, arith}
use Rattle.std.specs.Prelude.{slice_index}
use lib.Seq.{set-get_or}
use Rattle.atomic_table.specs.Table.{Me, keeps, Allows}
use Rattle.atomic_table.proofs.Lists.{set_here}
use Rattle.word_commit.specs.declared.view.View.{View}
use Rattle.word_commit.specs.declared.view.Given.{Given}
use Rattle.word_commit.specs.declared.view.Nothing.{Nothing}
use Rattle.word_commit.specs.Meanings.{Meaning}
use Rattle.word_commit.specs.Views.{clocked}
use Rattle.word_commit.specs.Kept.{clock_at, IsTrueOf, Kept}
use Rattle.word_commit.specs.Sights.{Sees}
use Rattle.word_commit.proofs.Lists.{at_length}
use Rattle.word_commit.proofs.Keeping.{changed}
use Rattle.word_commit.proofs.Sights.{sees}

module _ {E : Type 0} (m : Meaning E) (g : Given) where
  pub clocks : (slots id : ℕ) (me : Me Nothing (View E))
      → Allows (Kept m g) slots id me (clock_at g) (λ n. n)
      (λ found after. (after ≡ (clocked me.0 found, me.1)) × (me.0.front ≤ found) × Sees m g after.0)
  clocks slots id me s k homes at fits64 =
      let v = me.0 in
      let n = slice_index s.words (clock_at g) in
      let u = clocked v n in
      let f = k.views id v at in
      let c = k.clock in
      let front = f.front in
      let rose : v.front ≤ n = omega arith in
      let truth : IsTrueOf m g s.words k.log k.ever k.fold u = record {
        held = f.held;
        known = f.known;
        due = f.due;
        shown = f.shown;
        entries = λ x h. let r = f.entries x h in let le = r.1 in (r.0, (omega arith));
        front = omega arith;
        spent = f.spent;
      } in
      let next = changed m g s k id v u s.words record {
        at = at;
        entries = refl;
        purse = refl;
        size = refl;
        clock = refl;
        holders = λ p lt. (refl, (k.holders p lt).1);
        store = λ b within inside. inr (refl, (λ h. h));
        mine = truth;
        others = λ j y ne e x h. refl;
      } in (
        u,
        keeps,
        tt,
        subst (λ (ws : List ℕ). Kept m g record { words = ws; homes = s.homes; views = set s.views id u })
            (sym (set-get_or s.words (clock_at g) 0)) next,
        (
          refl,
          rose,
          (sees m g record {
            words = s.words;
            homes = s.homes;
            views = set s.views id u;
          } next id u (set_here s.views id u (at_length s.views id v at))),
        ),
      )

  pub clocks_at : (slots id : ℕ) (me : Me Nothing (View E)) (i : ℕ) → i ≡ clock_at g
      → Allows (Kept m g) slots id me i (λ n. n) (λ found after. (after ≡ (clocked me.0 found, me.1)) × (me.0.front ≤ found)
      × Sees m g after.0)
  clocks_at slots id me i e = rw e (clocks slots id me)
