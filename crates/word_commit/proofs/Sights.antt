-- What a seat may conclude holds by the rule.
use Rattle.std.proofs.Common.{◌≡◌, ℕ, zero, suc, ◌+◌, ◌*◌, ◌/◌, ◌<◌, ◌≤◌, List, [], ◌∷◌, length, set, true}
use Rattle.std.proofs.Common.{true≢false, cond, refl, sym, ap, ◌∙◌, subst, ⊎_elim, inl, inr, arith, eq-eqb, ne_eqb, length-set}
use Rattle.std.specs.Prelude.{slice_index}
use mathlib.Core.Option.{some, some-injective}
use mathlib.Core.Logic.{dite}
use native.Mathlib.Decide.{ℕ_discrete}
use lib.ListN.{get_elem?}
use Rattle.word_commit.specs.declared.quota.Quota.{Quota}
use Rattle.word_commit.specs.declared.view.View.{View}
use Rattle.word_commit.specs.declared.view.Given.{Given}
use Rattle.word_commit.specs.Meanings.{Wording, Meaning, Among}
use Rattle.word_commit.specs.Histories.{start_of, applied, tops, Inside, Lawful, world}
use Rattle.word_commit.specs.Views.{Moves, Cells, Extra, price, left, granted, all_rights, is_in, times, shown, last_top}
use Rattle.word_commit.specs.Views.{shown_tops}
use Rattle.word_commit.specs.Kept.{words_of, total, Once, numbers_of, Lags, Kept}
use Rattle.word_commit.specs.Sights.{Sees}
use Rattle.word_commit.proofs.Totals.{total_part, total_alone}
use Rattle.word_commit.proofs.Keeping.{S, others_spent}

pub length-applied : (w : List ℕ) (ws : List (ℕ × ℕ)) → length (applied w ws) ≡ length w
length-applied w [] = refl
length-applied w (x ∷ xs) = length-applied (set w x.0 x.1) xs ∙ length-set w x.0 x.1

module _ (m : Wording) where
  last_below : (start given limit : ℕ) (xs : List (ℕ × ℕ)) → given ≤ limit
      → ((x : ℕ × ℕ) → Among xs x → x.0 ≡ start → m.top x.1 ≤ limit) → last_top m start given xs ≤ limit
  last_below start given limit [] le all = le
  last_below start given limit (x ∷ xs) le all = dite (ℕ_discrete x.0 start)
      (λ e. subst (λ b. cond b (m.top x.1) (last_top m start given xs) ≤ limit) (sym (eq-eqb x.0 start e)) (all x (inl refl) e))
      (λ ne. subst (λ b. cond b (m.top x.1) (last_top m start given xs) ≤ limit)
      (sym (ne_eqb x.0 start ne)) (last_below start given limit xs le (λ y h. all y (inr h))))

  pub shown_below : (n : ℕ) (first w : List ℕ) (xs : List (ℕ × ℕ))
      → ((p : ℕ) → p < n → m.top (slice_index first (1024 * p)) ≤ m.top (slice_index w (1024 * p)))
      → ((x : ℕ × ℕ) → Among xs x → x.0 ≡ start_of x.0 → m.top x.1 ≤ m.top (slice_index w x.0)) → shown_tops m n first xs ≤ tops m n w
  shown_below zero first w xs given all = omega arith
  shown_below (suc p) first w xs given all =
      let a = last_below (1024 * p) (m.top (slice_index first (1024 * p))) (m.top (slice_index w (1024 * p))) xs (given p (omega arith))
      (λ x h e. subst (λ (k : ℕ). m.top x.1 ≤ m.top (slice_index w k)) e (all x h (let k : x.0 ≡ start_of x.0 = omega arith in k))) in
      let b = shown_below p first w xs (λ q lt. given q (omega arith)) all in omega arith

-- a cost takes a move, or an extra entry
pub takes_one : (q : Quota) → 1 ≤ price Moves q + price Extra q
takes_one q = dite (ℕ_discrete q.moves 0)
    (λ e. subst (λ b. 1 ≤ q.moves + cond b 1 0) (sym (eq-eqb q.moves 0 e)) (omega arith))
    (λ ne. subst (λ b. 1 ≤ q.moves + cond b 1 0) (sym (ne_eqb q.moves 0 ne)) (omega arith))

module _ {E : Type 0} (m : Meaning E) where
  pub length-world : (n : ℕ) (w : List ℕ) (es : List E) → length (world m n w es) ≡ length w
  length-world n w [] = refl
  length-world n w (e ∷ es) = length-world (suc n) (applied w (m.writes e n)) es ∙ length-applied w (m.writes e n)

  tops_world : (n : ℕ) (w : List ℕ) (es : List E) (p : ℕ) → length w ≡ 1024 * p → Lawful m n w es
      → tops m.words p (world m n w es) ≤ tops m.words p w + total (λ e. price Cells (m.cost e)) es
  tops_world n w [] p size law = omega arith
  tops_world n w (e ∷ es) p size law =
      let w' = applied w (m.writes e n) in
      let pages : length w / 1024 ≡ p = omega arith in
      let one : tops m.words p w' ≤ tops m.words p w + (m.cost e).cells = subst
      (λ (k : ℕ). tops m.words k w' ≤ tops m.words k w + (m.cost e).cells) pages law.0.cells in
      let further = tops_world (suc n) w' es p (length-applied w (m.writes e n) ∙ size) law.1 in omega arith

  -- each entry takes a move or an extra entry
  pub entries_below : (es : List E) → length es ≤ total (λ e. price Moves (m.cost e)) es + total (λ e. price Extra (m.cost e)) es
  entries_below [] = omega arith
  entries_below (e ∷ es) = let a = takes_one (m.cost e) in let b = entries_below es in omega arith

  module _ (g : Given) where
    pub few_entries : (s : S E) (k : Kept m g s) → length k.log ≤ granted Moves g + granted Extra g
    few_entries s k = let a = entries_below k.log in let b = k.budget Moves in let c = k.budget Extra in omega arith

    pub wide_fold : (s : S E) (k : Kept m g s) → length k.fold ≡ 1024 * g.pages
    wide_fold s k = ap length (sym k.folds) ∙ length-world 1 (words_of g) k.log ∙ k.wide

    -- the tops of the words given are not above those of the history
    pub tops_rose : (s : S E) (k : Kept m g s) (p : ℕ) → p < g.pages
        → m.words.top (slice_index (words_of g) (1024 * p)) ≤ m.words.top (slice_index k.fold (1024 * p))
    tops_rose s k p lt =
        let start : 1024 * p ≡ start_of (1024 * p) = omega arith in
        ((k.within (1024 * p, slice_index k.fold (1024 * p)) (k.stood (1024 * p) (omega arith) (inl start))).1 start).0

    pub sees : (s : S E) (k : Kept m g s) (id : ℕ) (v : View E) → get_elem? s.views id ≡ some v → Sees m g v
    sees s k id v at = let f = k.views id v at in record {
      log = k.log;
      fold = k.fold;
      folds = k.folds;
      lawful = k.lawful;
      few = let a = few_entries s k in let b = k.few in omega arith;
      wide = wide_fold s k;
      ever = k.ever;
      stood = k.stood;
      closed = k.closed;
      shown = f.shown;
      entries = f.entries;
      front = f.front;
      cells = let a = shown_below m.words g.pages (words_of g) k.fold (shown v.looks) (tops_rose s k)
          (λ x h start. ((f.shown x h).top start).1) in
          let b : tops m.words g.pages k.fold ≤ tops m.words g.pages (words_of g) + total (λ e. price Cells (m.cost e)) k.log
          = subst (λ (w : List ℕ). tops m.words g.pages w ≤ tops m.words g.pages (words_of g) + total
          (λ e. price Cells (m.cost e)) k.log) k.folds (tops_world 1 (words_of g) k.log g.pages k.wide k.lawful) in
          let c = k.budget Cells in let d = total_part (λ (v : View E). left Cells v.purse) s.views id v at in omega arith;
      budget = λ c. let b = k.budget c in let d = total_part (λ (v : View E). left c v.purse) s.views id v at in omega arith;
      whole = λ all n. let t : total (λ (v : View E). times n (numbers_of v.entries)) s.views ≡ times n (numbers_of v.entries)
          = total_alone (λ (v : View E). times n (numbers_of v.entries)) s.views id v at
          (λ j u ne e. ap (λ es. times n (numbers_of es)) (others_spent m g s k id v at all j u ne e).0) in
          subst (Once (length k.log) n) t (k.numbers n);
    }

    -- a seat that is the only one left, with nothing to publish, finds the history's words
    pub sees_alone : (s : S E) (k : Kept m g s) (id : ℕ) (v : View E) → get_elem? s.views id ≡ some v
        → (h : Sees m g v) × ((a : ℕ) → a < 1024 * g.pages → v.purse.rights ≡ all_rights → v.grip.due ≡ [] → Inside m.words h.fold a
        → slice_index s.words a ≡ slice_index h.fold a)
    unfolding sees
    sees_alone s k id v at = (
      sees s k id v at,
      (λ a range all none_due inside. ⊎_elim (λ t. t)
          (λ (l : Lags m (words_of g) k.ever k.fold s.views a (slice_index s.words a)). absurd (dite (ℕ_discrete l.id id)
          (λ e. let is : l.view ≡ v = some-injective l.view v (sym l.at ∙ ap (get_elem? s.views) e ∙ at) in
          subst (λ l. Among l (a, slice_index k.fold a)) (ap (λ (z : View E). z.grip.due) is ∙ none_due) l.due)
          (λ ne. let free = (others_spent m g s k id v at all l.id l.view ne l.at).1 in
          let h = (k.views l.id l.view l.at).due (a, slice_index k.fold a) l.due in true≢false
          (sym (subst (λ l. is_in (a / 1024) l ≡ true) free h.0)))))
          (k.store a range inside)),
    )
