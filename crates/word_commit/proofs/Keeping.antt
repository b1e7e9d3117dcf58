-- What a step leaves as it was.
use Rattle.std.proofs.Common.{◌≡◌, ◌≢◌, ◌⊎◌, ℕ, ◌+◌, ◌*◌, ◌/◌, ◌<◌, ◌≤◌, List, [], length, set, true}
use Rattle.std.proofs.Common.{refl, sym, ap, ◌∙◌, subst, ⊎_elim, inl, inr, arith}
use Rattle.std.specs.Prelude.{slice_index}
use mathlib.Core.Option.{some, some-injective}
use mathlib.Core.Logic.{dite}
use native.Mathlib.Decide.{ℕ_discrete}
use lib.ListN.{get_elem?}
use Rattle.atomic_table.specs.Table.{State}
use Rattle.atomic_table.proofs.Lists.{set_here, set_else}
use Rattle.word_commit.specs.declared.view.View.{View}
use Rattle.word_commit.specs.declared.view.Purse.{Purse}
use Rattle.word_commit.specs.declared.view.Given.{Given}
use Rattle.word_commit.specs.declared.view.Nothing.{Nothing}
use Rattle.word_commit.specs.Meanings.{Meaning, Among}
use Rattle.word_commit.specs.Histories.{Inside}
use Rattle.word_commit.specs.Views.{left, all_rights, is_in, times}
use Rattle.word_commit.specs.Kept.{words_of, page_at, clock_at, total, Once, numbers_of, IsTrueOf, Lags, Kept}
use Rattle.word_commit.proofs.Lists.{at_length, each_set}
use Rattle.word_commit.proofs.Totals.{total_set, total_same, total_two}
use Rattle.word_commit.proofs.Pages.{in_times}

-- a store's table
abbrev pub S : Type 0 → Type 0
S E = State Nothing (View E)

module _ {E : Type 0} (m : Meaning E) (g : Given) where
  -- who holds a page holds it alone
  pub one_holder : (s : S E) (k : Kept m g s) (i j : ℕ) (v u : View E) (p : ℕ) → get_elem? s.views i ≡ some v → get_elem? s.views j
      ≡ some u
      → is_in p v.grip.held ≡ true → is_in p u.grip.held ≡ true → i ≡ j
  one_holder s k i j v u p ei ej hv hu = dite (ℕ_discrete j i) (λ e. sym e)
      (λ ne. let t = total_two (λ (v : View E). times p v.grip.held) s.views i j v u ne ei ej in
      let h = k.holders p ((k.views i v ei).held p hv) in let a = h.0 in let b = h.1 in
      let x = in_times p v.grip.held hv in let y = in_times p u.grip.held hu in absurd (omega arith))

  -- where one seat has all rights the others are spent
  pub others_spent : (s : S E) (k : Kept m g s) (id : ℕ) (v : View E) → get_elem? s.views id ≡ some v → v.purse.rights ≡ all_rights
      → (j : ℕ) (u : View E) → j ≢ id → get_elem? s.views j ≡ some u → (u.entries ≡ []) × (u.grip.held ≡ [])
  others_spent s k id v at all j u ne e = let t = total_two (λ (v : View E). v.purse.rights) s.views id j v u ne at e in
      let r = k.rights in (k.views j u e).spent (let a : all_rights ≡ 1048576 = refl in omega arith)

  -- what a seat has to publish does not lag for its own eyes: in a page that it holds the store lags by what it owes alone
  pub holder_lags : (s : S E) (k : Kept m g s) (id : ℕ) (v : View E) (a : ℕ) → get_elem? s.views id ≡ some v
      → is_in (a / 1024) v.grip.held ≡ true
      → a < 1024 * g.pages → Inside m.words k.fold a → (slice_index s.words a ≡ slice_index k.fold a)
      ⊎ Among v.grip.due (a, slice_index k.fold a)
  holder_lags s k id v a at mine range inside = ⊎_elim (λ (t : slice_index s.words a ≡ slice_index k.fold a). inl t)
      (λ (l : Lags m (words_of g) k.ever k.fold s.views a (slice_index s.words a)). inr
      (let theirs = (k.views l.id l.view l.at).due (a, slice_index k.fold a) l.due in
      let one : l.id ≡ id = one_holder s k l.id id l.view v (a / 1024) l.at at theirs.0 mine in
      let is : l.view ≡ v = some-injective l.view v (sym l.at ∙ ap (get_elem? s.views) one ∙ at) in
      subst (λ (z : View E). Among z.grip.due (a, slice_index k.fold a)) is l.due))
      (k.store a range inside)

  -- a word that lags still does, after one view changed and kept what it had to publish there
  pub lags_set : (ever : List (ℕ × ℕ)) (w : List ℕ) (views : List (View E)) (id : ℕ) (v u : View E) (a x : ℕ) → get_elem? views id
      ≡ some v
      → (Among v.grip.due (a, slice_index w a) → Among u.grip.due (a, slice_index w a)) → Lags m (words_of g) ever w views a x
      → Lags m (words_of g) ever w (set views id u) a x
  lags_set ever w views id v u a x at keep l = dite (ℕ_discrete l.id id)
      (λ e. let same : l.view ≡ v = some-injective l.view v (sym l.at ∙ ap (get_elem? views) e ∙ at) in record {
        id = id;
        view = u;
        at = set_here views id u (at_length views id v at);
        due = keep (subst (λ (y : View E). Among y.grip.due (a, slice_index w a)) same l.due);
        soft = l.soft;
        plain = l.plain;
        top = l.top;
      })
      (λ ne. record {
        id = l.id;
        view = l.view;
        at = set_else views id l.id u ne ∙ l.at;
        due = l.due;
        soft = l.soft;
        plain = l.plain;
        top = l.top;
      })

  abbrev Holders : List ℕ → List (View E) → Type 0
  Holders words views = (p : ℕ) → p < g.pages → (slice_index words (page_at g p) ≡ total (λ v. times p v.grip.held) views)
      × (slice_index words (page_at g p) ≤ 1)

  -- One view changed, which made no entry and spent nothing: what is left to show of such a step.
  pub record Changes (s : S E) (k : Kept m g s) (id : ℕ) (v u : View E) (words : List ℕ) : Type 0 where
    pub at : get_elem? s.views id ≡ some v
    pub entries : u.entries ≡ v.entries
    pub purse : u.purse ≡ v.purse
    pub size : length words ≡ length s.words
    pub clock : slice_index words (clock_at g) ≡ slice_index s.words (clock_at g)
    pub holders : (p : ℕ) → p < g.pages → (slice_index words (page_at g p) + times p v.grip.held
        ≡ slice_index s.words (page_at g p) + times p u.grip.held) × (slice_index words (page_at g p) ≤ 1)
    pub store : (a : ℕ) → a < 1024 * g.pages → Inside m.words k.fold a
        → (slice_index words a ≡ slice_index k.fold a) ⊎ ((slice_index words a ≡ slice_index s.words a)
        × (Among v.grip.due (a, slice_index k.fold a) → Among u.grip.due (a, slice_index k.fold a)))
    pub mine : IsTrueOf m g words k.log k.ever k.fold u
    pub others : (j : ℕ) (y : View E) → j ≢ id → get_elem? s.views j ≡ some y → (x : ℕ × ℕ) → Among y.grip.known x
        → slice_index words x.0 ≡ slice_index s.words x.0

  pub changed : (s : S E) (k : Kept m g s) (id : ℕ) (v u : View E) (words : List ℕ) → Changes s k id v u words
      → Kept m g record { words = words; homes = s.homes; views = set s.views id u }
  changed s k id v u words c = record {
    log = k.log;
    fold = k.fold;
    folds = k.folds;
    lawful = k.lawful;
    ever = k.ever;
    stood = k.stood;
    within = k.within;
    closed = k.closed;
    size = c.size ∙ k.size;
    wide = k.wide;
    opens = k.opens;
    clock = c.clock ∙ k.clock;
    numbers = λ n. subst (λ (z : ℕ). Once (length k.log) n z)
        (sym (total_same (λ (v : View E). times n (numbers_of v.entries)) s.views id v u c.at
        (ap (λ es. times n (numbers_of es)) c.entries))) (k.numbers n);
    holders = λ p inside. let t = total_set (λ (v : View E). times p v.grip.held) s.views id v u c.at in let h = c.holders p inside in
        let o = (k.holders p inside).0 in (let h0 = h.0 in omega arith, h.1);
    budget = λ b. let t = total_same (λ (v : View E). left b v.purse) s.views id v u c.at (ap (left b) c.purse) in let o = k.budget b in
        omega arith;
    few = k.few;
    rights = total_same (λ (v : View E). v.purse.rights) s.views id v u c.at (ap (λ (p : Purse). p.rights) c.purse) ∙ k.rights;
    store = λ a range inside. ⊎_elim (λ (t : slice_index words a ≡ slice_index k.fold a). inl t)
        (λ (t : (slice_index words a ≡ slice_index s.words a)
        × (Among v.grip.due (a, slice_index k.fold a) → Among u.grip.due (a, slice_index k.fold a))).
        ⊎_elim (λ (q : slice_index s.words a ≡ slice_index k.fold a). inl (t.0 ∙ q))
        (λ (q : Lags m (words_of g) k.ever k.fold s.views a (slice_index s.words a)). inr
        (subst (Lags m (words_of g) k.ever k.fold (set s.views id u) a)
        (sym t.0) (lags_set k.ever k.fold s.views id v u a (slice_index s.words a) c.at t.1 q)))
        (k.store a range inside)) (c.store a range inside);
    views = each_set (λ _ y. IsTrueOf m g words k.log k.ever k.fold y) s.views id u c.mine (λ j y ne e. let f = k.views j y e in record {
      held = f.held;
      known = λ x h. let r = f.known x h in (r.0, c.others j y ne e x h ∙ r.1);
      due = f.due;
      shown = f.shown;
      entries = f.entries;
      front = f.front;
      spent = f.spent;
    });
  }
