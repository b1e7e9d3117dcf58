-- The stamp of an entry keeps the rule.
use Rattle.std.proofs.Common.{◌≡◌, ◌≢◌, ◌⊎◌, ℕ, suc, ◌+◌, ◌-◌, ◌*◌, ◌/◌, ◌%◌, ◌^◌, ◌<◌, ◌≤◌, List, [], ◌∷◌, ◌++◌, length, set, true}
use Rattle.std.proofs.Common.{false, refl, sym, ap, ◌∙◌, subst, ⊎_elim, inl, inr, arith, get_or-set_same, get_or-set_other}
use Rattle.std.proofs.Common.{length-set, length-append}
use Rattle.std.specs.Prelude.{slice_index}
use mathlib.Core.Option.{some, some-injective}
use mathlib.Core.Logic.{dite}
use native.Mathlib.Decide.{ℕ_discrete}
use lib.ListN.{get_elem?}
use Rattle.std.proofs.Math.Nat.{mod-eq_of_lt}
use Rattle.atomic_table.specs.Table.{Me, keeps, Allows}
use Rattle.atomic_table.proofs.Lists.{set_here, set_else, at_last}
use Rattle.word_commit.specs.declared.quota.Quota.{Quota}
use Rattle.word_commit.specs.declared.view.View.{View}
use Rattle.word_commit.specs.declared.view.Purse.{Purse}
use Rattle.word_commit.specs.declared.view.Numbered.{Numbered}
use Rattle.word_commit.specs.declared.view.Given.{Given}
use Rattle.word_commit.specs.declared.view.Nothing.{Nothing}
use Rattle.word_commit.specs.Meanings.{Meaning, Among}
use Rattle.word_commit.specs.Histories.{start_of, applied, tops, Inside, Closed, AddsNothing, MayWrite, Laws, MayFollow}
use Rattle.word_commit.specs.Views.{Charge, Commits, Moves, Cells, Extra, price, left, granted, is_in, times, shown, paid, stamped}
use Rattle.word_commit.specs.Kept.{words_of, page_at, clock_at, total, Once, numbers_of, IsLogged, Plain, IsBetween, IsTrueOf}
use Rattle.word_commit.specs.Kept.{Lags, Kept}
use Rattle.word_commit.specs.Conditions.{IsUsed, CouldBe, Affords, MayStamp}
use Rattle.word_commit.proofs.Lists.{at_length, each_set, among_left, among_right, among_either, distinct_few}
use Rattle.word_commit.proofs.Totals.{total_set, total_same, total_snoc, total_part}
use Rattle.word_commit.proofs.Pages.{times_snoc}
use Rattle.word_commit.proofs.Keeping.{S, one_holder, holder_lags}
use Rattle.word_commit.proofs.Begins.{inside_or_not}
use Rattle.word_commit.proofs.Sights.{takes_one, entries_below, few_entries, wide_fold, tops_rose}
use Rattle.word_commit.proofs.Growth.{applied_else, applied_here, written, world_snoc, lawful_snoc, inside_after, still_plain}
use Rattle.word_commit.proofs.Growth.{still_logged, still_between, still_shown}

-- what is left after a cost that can be paid
left_paid : (c : Charge) (p : Purse) (q : Quota) → left c (paid p q) ≡ left c p - price c q
left_paid Commits p q = refl
left_paid Moves p q = refl
left_paid Cells p q = refl
left_paid Extra p q = refl

module _ {E : Type 0} (m : Meaning E) where
  module _ (g : Given) where
    -- What is so when the entry e gets the number n, over the words and views that a seat may find.
    record Stamping (s : S E) (k : Kept m g s) (id : ℕ) (v : View E) (e : E) (n : ℕ) : Type 0 where
      at : get_elem? s.views id ≡ some v
      number : n ≡ suc (length k.log)
      small : n < 2 ^ 32
      alive : 0 < v.purse.rights
      funds : Affords m v e
      may : MayStamp m g v e n
      wide : length k.fold ≡ 1024 * g.pages

    module _ (s : S E) (k : Kept m g s) (id : ℕ) (v : View E) (e : E) (n : ℕ) (c : Stamping s k id v e n) where
      abbrev ws : List (ℕ × ℕ)
      ws = m.writes e n

      abbrev fold' : List ℕ
      fold' = applied k.fold ws

      abbrev words' : List ℕ
      words' = set s.words (clock_at g) n

      abbrev view' : View E
      view' = stamped m v e (suc (length k.log))

      same : (i : ℕ) → i < 1024 * g.pages + g.pages → slice_index words' i ≡ slice_index s.words i
      same i lt = get_or-set_other s.words (clock_at g) i n 0 (λ z. let a : clock_at g ≡ 1024 * g.pages + g.pages = refl in omega arith)

      -- in a page that the seat holds the store has the history's word
      sure : (a : ℕ) → a < 1024 * g.pages → Inside m.words k.fold a → is_in (a / 1024) v.grip.held ≡ true → slice_index s.words a
          ≡ slice_index k.fold a
      sure a range inside mine = ⊎_elim (λ t. t) (λ (t : Among v.grip.due (a, slice_index k.fold a)). absurd
          (subst (λ l. Among l (a, slice_index k.fold a)) c.may.idle t)) (holder_lags m g s k id v a c.at mine range inside)

      could : CouldBe m.words g.pages v.grip.known k.fold
      could = (
        c.wide,
        (λ y h inside. let f = k.views id v c.at in let r = f.known y h in let p = f.held (y.0 / 1024) r.0 in
            sym (sure y.0 (omega arith) inside r.0) ∙ r.1),
      )

      ok : MayWrite m.words k.fold ws
      ok = c.may.writes k.fold could

      here : (x : ℕ × ℕ) → Among ws x → slice_index fold' x.0 ≡ x.1
      here x h = applied_here k.fold ws x ok.distinct h (ok.ranges x h)

      was_inside : (a : ℕ) → ((y : ℕ) → Among ws (a, y) → ⊥) → Inside m.words fold' a → Inside m.words k.fold a
      was_inside a t inside = ⊎_elim (λ h. h) (λ (h : (y : ℕ) × Among ws (a, y)). absurd (t h.0 h.1)) (ok.fills a inside)

      -- what was read stands in the history
      read : (x : ℕ × ℕ) → Among (m.reads e) x → (slice_index k.fold x.0 ≡ x.1) × Among k.ever x × Inside m.words k.fold x.0
          × (x.0 < length k.fold)
      read x h = ⊎_elim
          (λ (t : Among v.grip.known x × IsUsed m.words v.grip.known x.0).
          let f = k.views id v c.at in
          let p = f.held (x.0 / 1024) (f.known x t.0).0 in
          let start : start_of x.0 ≡ start_of (start_of x.0) = omega arith in
          let inside : Inside m.words k.fold x.0 = ⊎_elim (λ (q : x.0 ≡ start_of x.0). inl q)
          (λ (q : (y : ℕ) × Among v.grip.known (start_of x.0, y) × (x.0 < m.words.top y)).
          let top : m.words.top (slice_index k.fold (start_of x.0))
          ≡ m.words.top q.0 = ap m.words.top (could.1 (start_of x.0, q.0) q.1 (inl start)) in let lt = q.2 in inr
          (omega arith)) t.1 in
          let eq = could.1 x t.0 inside in
          (eq, subst (λ (i : ℕ). Among k.ever (x.0, i)) eq (k.stood x.0 (omega arith) inside), inside, (let z = c.wide in omega arith)))
          (λ (t : Among (shown v.looks) x × (m.words.is_final x.1 ≡ true)).
          let r = (k.views id v c.at).shown x t.0 in
          let eq = r.final t.1 in
          let lt = r.there in
          (eq, subst (λ (i : ℕ). Among k.ever (x.0, i)) eq (k.stood x.0 (let z = c.wide in omega arith) r.inside), r.inside, lt))
          (c.may.reads x h)

      follows : MayFollow m n k.fold e
      follows = record {
        sound = c.may.sound;
        reads = λ x h. let r = read x h in (r.0, r.2, r.3);
        writes = ok;
        cells = let p : g.pages ≡ length k.fold / 1024 = (let z = c.wide in omega arith) in subst
            (λ (i : ℕ). tops m.words i fold' ≤ tops m.words i k.fold + (m.cost e).cells) p (c.may.cells k.fold could);
      }

      closed' : Laws m → Closed m.words (k.ever ++ ws) fold'
      closed' laws = laws.keeps e n k.ever k.fold c.small c.may.sound (record {
        read = λ x h. let r = read x h in (r.0, r.1, r.3);
        within = λ x h. (k.within x h).0;
        stood = λ a range h. k.stood a (let z = c.wide in omega arith) h;
        closed = k.closed;
      }) ok

      stood' : (a : ℕ) → a < 1024 * g.pages → Inside m.words fold' a → Among (k.ever ++ ws) (a, slice_index fold' a)
      stood' a range h = ⊎_elim
          (λ (t : (y : ℕ) × Among ws (a, y)). among_right k.ever ws (a, slice_index fold' a)
          (subst (λ (i : ℕ). Among ws (a, i)) (sym (here (a, t.0) t.1)) t.1))
          (λ (t : (y : ℕ) → Among ws (a, y) → ⊥). among_left k.ever ws (a, slice_index fold' a)
          (subst (λ (i : ℕ). Among k.ever (a, i)) (sym (applied_else k.fold ws a t)) (k.stood a range (was_inside a t h)))) (written ws a)

      within' : (x : ℕ × ℕ) → Among (k.ever ++ ws) x → Inside m.words fold' x.0 × IsBetween m (words_of g) fold' x
      within' x h = ⊎_elim
          (λ (t : Among k.ever x). let r = k.within x t in (inside_after m k.fold ws x.0 ok r.0, still_between m g k.fold ws x ok r.1))
          (λ (t : Among ws x). (
            ok.below x t,
            (λ start.
                let lt = ok.ranges x t in
                let p : x.0 / 1024 < g.pages = (let z = c.wide in omega arith) in
                let turn : 1024 * (x.0 / 1024) ≡ x.0 = omega arith in
                let a : m.words.top (slice_index (words_of g) x.0) ≤ m.words.top (slice_index k.fold x.0)
                = subst (λ (i : ℕ). m.words.top (slice_index (words_of g) i) ≤ m.words.top (slice_index k.fold i)) turn
                (tops_rose m g s k (x.0 / 1024) p) in
                let b = ok.rises x.0 start in
                let d : m.words.top (slice_index fold' x.0) ≡ m.words.top x.1 = ap m.words.top (here x t) in (omega arith, omega arith)),
          ))
          (among_either k.ever ws x h)

      abbrev Lagging : ℕ → Type 0
      Lagging a = Lags m (words_of g) (k.ever ++ ws) fold' (set s.views id view') a (slice_index words' a)

      -- what the entry writes the store has, or it lags by what the seat has now to publish
      wrote : (a : ℕ) → a < 1024 * g.pages → (y : ℕ) → Among ws (a, y) → (slice_index words' a ≡ slice_index fold' a) ⊎ Lagging a
      wrote a range y h =
          let is = here (a, y) h in
          let keep : slice_index words' a ≡ slice_index s.words a = same a (omega arith) in
          let owed : Among ws (a, slice_index fold' a) = subst (λ (i : ℕ). Among ws (a, i)) (sym is) h in
          let seat_at : get_elem? (set s.views id view') id ≡ some view' = set_here s.views id view' (at_length s.views id v c.at) in
          let owed' : Among view'.grip.due (a, slice_index fold' a) = subst
          (λ (i : ℕ). Among (m.writes e i) (a, slice_index fold' a)) c.number owed in
          ⊎_elim
          (λ (inside : Inside m.words k.fold a).
          let eq : slice_index k.fold a ≡ slice_index words' a = sym (keep ∙ sure a range inside (c.may.held (a, y) h)) in
          let stands : Among k.ever (a, slice_index words' a) = subst (λ (i : ℕ). Among k.ever (a, i)) eq (k.stood a range inside) in
          inr record {
            id = id;
            view = view';
            at = seat_at;
            due = owed';
            soft = subst (λ (i : ℕ). m.words.is_final i ≡ false) eq (ok.soft (a, y) h inside);
            plain = inl (among_left k.ever ws (a, slice_index words' a) stands);
            top = still_between m g k.fold ws (a, slice_index words' a) ok (k.within (a, slice_index words' a) stands).1;
          })
          (λ (out : Inside m.words k.fold a → ⊥).
          let p = c.may.primed (a, y) h k.fold could out in
          let eq : slice_index words' a ≡ p.0 = keep ∙ ((k.views id v c.at).known (a, p.0) p.1).1 in
          ⊎_elim (λ (t : p.0 ≡ y). inl (eq ∙ t ∙ sym is))
          (λ (t : (m.words.is_final p.0 ≡ false) × AddsNothing m.words (a, p.0)). inr record {
            id = id;
            view = view';
            at = seat_at;
            due = owed';
            soft = ap m.words.is_final eq ∙ t.0;
            plain = inr (subst (λ (i : ℕ). AddsNothing m.words (a, i)) (sym eq) t.1);
            top = λ start. absurd (out (inl start));
          })
          p.2)
          (inside_or_not m.words k.fold a)

      -- elsewhere it lags where it did
      else_lags : (a : ℕ) → a < 1024 * g.pages → ((y : ℕ) → Among ws (a, y) → ⊥)
          → Lags m (words_of g) k.ever k.fold s.views a (slice_index s.words a) → Lagging a
      else_lags a range t l =
          let keep : slice_index words' a ≡ slice_index s.words a = same a (omega arith) in
          let apart : l.id ≢ id = (λ one. let is : l.view ≡ v = some-injective l.view v (sym l.at ∙ ap (get_elem? s.views) one ∙ c.at) in
          absurd (subst (λ d. Among d (a, slice_index k.fold a)) (ap (λ (z : View E). z.grip.due) is ∙ c.may.idle) l.due)) in record {
            id = l.id;
            view = l.view;
            at = set_else s.views id l.id view' apart ∙ l.at;
            due = subst (λ (i : ℕ). Among l.view.grip.due (a, i)) (sym (applied_else k.fold ws a t)) l.due;
            soft = ap m.words.is_final keep ∙ l.soft;
            plain = subst (λ (i : ℕ). Plain m (k.ever ++ ws) (a, i))
                (sym keep) (still_plain m k.ever ws (a, slice_index s.words a) l.plain);
            top = still_between m g k.fold ws (a, slice_index words' a) ok
                (subst (λ (i : ℕ). IsBetween m (words_of g) k.fold (a, i)) (sym keep) l.top);
          }

      store' : (a : ℕ) → a < 1024 * g.pages → Inside m.words fold' a → (slice_index words' a ≡ slice_index fold' a) ⊎ Lagging a
      store' a range inside = ⊎_elim
          (λ (t : (y : ℕ) × Among ws (a, y)). wrote a range t.0 t.1)
          (λ (t : (y : ℕ) → Among ws (a, y) → ⊥). ⊎_elim (λ (q : slice_index s.words a ≡ slice_index k.fold a). inl (same a
          (omega arith) ∙ q ∙ sym (applied_else k.fold ws a t)))
          (λ (l : Lags m (words_of g) k.ever k.fold s.views a (slice_index s.words a)). inr (else_lags a range t l))
          (k.store a range (was_inside a t inside)))
          (written ws a)

      logged' : (x : Numbered E) → Among view'.entries x → IsLogged (k.log ++ e ∷ []) x × (x.number ≤ view'.front)
      logged' x h = ⊎_elim
          (λ (t : Among v.entries x). let f = k.views id v c.at in let r = f.entries x t in let le = r.1 in let front = f.front in
          (still_logged m k.log (e ∷ []) x r.0, (omega arith)))
          (λ (t : Among (record { number = suc (length k.log); entry = e } ∷ []) x). last x t)
          (among_either v.entries (record { number = suc (length k.log); entry = e } ∷ []) x h)
        where
          last : (x : Numbered E) → Among (record { number = suc (length k.log); entry = e } ∷ []) x → IsLogged (k.log ++ e ∷ []) x
              × (x.number ≤ suc (length k.log))
          last x (inl is) = subst (λ (x : Numbered E). IsLogged (k.log ++ e ∷ []) x
              × (x.number ≤ suc (length k.log))) is ((length k.log, refl, at_last k.log e (length k.log) refl), (omega arith))
          last x (inr none_there) = absurd none_there

      mine' : IsTrueOf m g words' (k.log ++ e ∷ []) (k.ever ++ ws) fold' view'
      mine' = let f = k.views id v c.at in record {
        held = f.held;
        known = λ y h. let r = f.known y h in let p = f.held (y.0 / 1024) r.0 in (r.0, same y.0 (omega arith) ∙ r.1);
        due = λ y h. let t : Among ws y = subst (λ (i : ℕ). Among (m.writes e i) y) (sym c.number) h in (c.may.held y t, here y t);
        shown = λ y h. still_shown m g k.ever k.fold ws y ok (f.shown y h);
        entries = logged';
        front = let l = length-append k.log (e ∷ []) in let one : length (e ∷ []) ≡ 1 = refl in omega arith;
        spent = λ none. absurd (let a = c.alive in omega arith);
      }

      others' : (j : ℕ) (y : View E) → j ≢ id → get_elem? s.views j ≡ some y
          → IsTrueOf m g words' (k.log ++ e ∷ []) (k.ever ++ ws) fold' y
      others' j y ne at = let f = k.views j y at in record {
        held = f.held;
        known = λ z h. let r = f.known z h in let p = f.held (z.0 / 1024) r.0 in (r.0, same z.0 (omega arith) ∙ r.1);
        due = λ z h. let r = f.due z h in (
          r.0,
          ⊎_elim
              (λ (t : (x : ℕ) × Among ws (z.0, x)). absurd (ne (one_holder m g s k j id y v (z.0 / 1024) at c.at r.0
              (c.may.held (z.0, t.0) t.1))))
              (λ (t : (x : ℕ) → Among ws (z.0, x) → ⊥). applied_else k.fold ws z.0 t ∙ r.1) (written ws z.0),
        );
        shown = λ z h. still_shown m g k.ever k.fold ws z ok (f.shown z h);
        entries = λ x h. let r = f.entries x h in (still_logged m k.log (e ∷ []) x r.0, r.1);
        front = let l = length-append k.log (e ∷ []) in let old = f.front in omega arith;
        spent = f.spent;
      }

      numbers' : (i : ℕ) → Once (length (k.log ++ e ∷ [])) i (total (λ v. times i (numbers_of v.entries)) (set s.views id view'))
      numbers' i =
          let t = total_set (λ (v : View E). times i (numbers_of v.entries)) s.views id v view' c.at in
          let was = k.numbers i in
          let one = times_snoc v.entries e (suc (length k.log)) i in
          let l : length (k.log ++ e ∷ []) ≡ suc (length k.log) =
          (let l = length-append k.log (e ∷ []) in let o : length (e ∷ []) ≡ 1 = refl in omega arith) in
          subst (λ (z : ℕ). Once z i (total (λ v. times i (numbers_of v.entries)) (set s.views id view'))) (sym l)
          (dite (ℕ_discrete i (suc (length k.log)))
          (λ y. let q = one.0 y in let z = was.1 (omega arith) in ((λ a b. omega arith), (λ a. omega arith), (λ a. omega arith)))
          (λ y. let q = one.1 y in (
            (λ a b. let z = was.0 a (omega arith) in omega arith),
            (λ a. let z = was.1 (omega arith) in omega arith),
            (λ a. let z = was.2 a in omega arith),
          )))

      budget' : (b : Charge) → total (λ e. price b (m.cost e)) (k.log ++ e ∷ []) + total (λ v. left b v.purse) (set s.views id view')
          ≡ granted b g
      budget' b =
          let t = total_set (λ (v : View E). left b v.purse) s.views id v view' c.at in
          let q = total_snoc (λ (e : E). price b (m.cost e)) k.log e in
          let p = left_paid b v.purse (m.cost e) in
          let enough = c.funds b in
          let old = k.budget b in omega arith

      stamped_kept : Laws m → Kept m g record { words = words'; homes = s.homes; views = set s.views id view' }
      stamped_kept laws = let size = k.size in record {
        log = k.log ++ e ∷ [];
        fold = fold';
        folds = world_snoc m 1 (words_of g) k.log e ∙ ap (λ (w : List ℕ). applied w (m.writes e (1 + length k.log))) k.folds
            ∙ ap (λ (i : ℕ). applied k.fold (m.writes e i)) (let h = c.number in let r : 1 + length k.log ≡ n = omega arith in r);
        lawful = lawful_snoc m 1 (words_of g) k.log e k.lawful (subst (λ (w : List ℕ). MayFollow m (1 + length k.log) w e) (sym k.folds)
            (subst (λ (i : ℕ). MayFollow m i k.fold e) (let h = c.number in let r : n ≡ 1 + length k.log = omega arith in r) follows));
        ever = k.ever ++ ws;
        stood = stood';
        within = within';
        closed = closed' laws;
        size = length-set s.words (clock_at g) n ∙ k.size;
        wide = k.wide;
        opens = k.opens;
        clock = get_or-set_same s.words (clock_at g) n 0 (let a : clock_at g ≡ 1024 * g.pages + g.pages = refl in omega arith) ∙ c.number
            ∙ (let l = length-append k.log (e ∷ []) in let o : length (e ∷ []) ≡ 1 = refl in let r : suc (length k.log)
            ≡ length (k.log ++ e ∷ []) = omega arith in r);
        numbers = numbers';
        holders = λ p lt. let h = k.holders p lt in
            let t : total (λ v. times p v.grip.held) (set s.views id view') ≡ total (λ v. times p v.grip.held) s.views = total_same
            (λ (v : View E). times p v.grip.held) s.views id v view' c.at refl in
            let r : slice_index words' (page_at g p) ≡ slice_index s.words (page_at g p) = same (page_at g p)
            (let a : page_at g p ≡ 1024 * g.pages + p = refl in omega arith) in
            (r ∙ h.0 ∙ sym t, (let b = h.1 in omega arith));
        budget = budget';
        few = k.few;
        rights = total_same (λ (v : View E). v.purse.rights) s.views id v view' c.at refl ∙ k.rights;
        store = store';
        views = each_set (λ _ y. IsTrueOf m g words' (k.log ++ e ∷ []) (k.ever ++ ws) fold' y) s.views id view' mine' others';
      }

    pub stamps : (slots id : ℕ) (me : Me Nothing (View E)) (e : E) → Laws m → 0 < me.0.purse.rights → Affords m me.0 e
        → ((n : ℕ) → n < 2 ^ 32 → MayStamp m g me.0 e n)
        → Allows (Kept m g) slots id me (clock_at g) (λ n. (n + 1) % 2 ^ 64)
        (λ found after. (after ≡ (stamped m me.0 e (suc found), me.1)) × (found + 1 < 2 ^ 32) × (me.0.front ≤ found)
        × ((x : ℕ × ℕ) → Among after.0.grip.due x → x.0 < clock_at g) × (length after.0.grip.due ≤ clock_at g))
    stamps slots id me e laws alive funds may s k homes at fits64 =
        let v = me.0 in
        let c = slice_index s.words (clock_at g) in
        let clock = k.clock in
        let front = (k.views id v at).front in
        let all = few_entries m g s k in
        let one = takes_one (m.cost e) in
        let a = funds Moves in
        let b = funds Extra in
        let few = k.few in
        let moves = k.budget Moves in
        let extra = k.budget Extra in
        let my_moves = total_part (λ (v : View E). left Moves v.purse) s.views id v at in
        let my_extra = total_part (λ (v : View E). left Extra v.purse) s.views id v at in
        let below = entries_below m k.log in
        let small : suc c < 2 ^ 32 = omega arith in
        let step : Stamping s k id v e (suc c) = record {
          at = at;
          number = ap (λ (i : ℕ). suc i) clock;
          small = small;
          alive = alive;
          funds = funds;
          may = may (suc c) small;
          wide = wide_fold m g s k;
        } in
        let done = stamped_kept s k id v e (suc c) step laws in
        let there : (x : ℕ × ℕ) → Among (m.writes e (suc c)) x → x.0 < clock_at g =
        (λ x h. let r = (ok s k id v e (suc c) step).ranges x h in let z = wide_fold m g s k in
        let a : clock_at g ≡ 1024 * g.pages + g.pages = refl in omega arith) in
        let few_writes = distinct_few (clock_at g) (m.writes e (suc c)) (ok s k id v e (suc c) step).distinct there in
        let next : (c + 1) % 2 ^ 64 ≡ suc c = mod-eq_of_lt (omega arith) ∙ omega arith in
        let view : stamped m v e (suc (length k.log)) ≡ stamped m v e (suc c) = ap (λ (i : ℕ). stamped m v e (suc i)) (sym clock) in (
          stamped m v e (suc c),
          keeps,
          tt,
          subst (λ (i : ℕ). Kept m g record {
            words = set s.words (clock_at g) i;
            homes = s.homes;
            views = set s.views id (stamped m v e (suc c));
          }) (sym next)
              (subst (λ (u : View E). Kept m g record {
                words = set s.words (clock_at g) (suc c);
                homes = s.homes;
                views = set s.views id u;
              }) view done),
          (refl, (omega arith), (omega arith), there, few_writes),
        )

    pub stamps_at : (slots id i : ℕ) (me : Me Nothing (View E)) (e : E) (next : View E → ℕ → View E) → i ≡ clock_at g → next ≡
        (λ v found. stamped m v e (suc found)) → Laws m → 0 < me.0.purse.rights → Affords m me.0 e
        → ((n : ℕ) → n < 2 ^ 32 → MayStamp m g me.0 e n)
        → Allows (Kept m g) slots id me i (λ n. (n + 1) % 2 ^ 64)
        (λ found after. (after ≡ (next me.0 found, me.1)) × (found + 1 < 2 ^ 32) × (me.0.front ≤ found)
        × ((x : ℕ × ℕ) → Among after.0.grip.due x → x.0 < i) × (length after.0.grip.due ≤ i))
    stamps_at slots id i me e next same is laws alive funds may = rw (same, is) (stamps slots id me e laws alive funds may)
