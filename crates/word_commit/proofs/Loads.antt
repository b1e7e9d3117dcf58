-- A load keeps the rule.
use Rattle.std.proofs.Common.{◌≡◌, ◌⊎◌, ℕ, ◌+◌, ◌*◌, ◌/◌, ◌<◌, ◌≤◌, eqb, List, [], ◌∷◌, length, set, Bool, true, false}
use Rattle.std.proofs.Common.{true≢false, cond, refl, sym, ap, ◌∙◌, subst, ⊎_elim, inl, inr, arith}
use Rattle.std.proofs.lemmas.Bool.{eqb-true, ltb-true}
use Rattle.std.specs.Prelude.{slice_index, nat_lt}
use lib.Seq.{set-get_or}
use Rattle.atomic_table.specs.Table.{Me, keeps, Allows}
use Rattle.atomic_table.proofs.Lists.{set_here}
use Rattle.word_commit.specs.declared.view.View.{View}
use Rattle.word_commit.specs.declared.view.Grip.{Grip}
use Rattle.word_commit.specs.declared.view.Given.{Given}
use Rattle.word_commit.specs.declared.view.Nothing.{Nothing}
use Rattle.word_commit.specs.Meanings.{Meaning, Among}
use Rattle.word_commit.specs.Histories.{start_of, Inside, Closed}
use Rattle.word_commit.specs.Views.{is_in, is_below, is_known, gripped, loaded, shown, times}
use Rattle.word_commit.specs.Kept.{words_of, page_at, IsShown, IsTrueOf, Lags, Kept}
use Rattle.word_commit.specs.Sights.{Tells}
use Rattle.word_commit.proofs.Lists.{at_length, plain_inside}
use Rattle.word_commit.proofs.Keeping.{S, Changes, changed}
use Rattle.word_commit.proofs.Sights.{wide_fold, sees_alone}

either_true : (b c : Bool) → cond b true c ≡ true → (b ≡ true) ⊎ (c ≡ true)
either_true true c h = inl refl
either_true false c h = inr h

module _ {E : Type 0} (m : Meaning E) where
  abbrev Below : ℕ → List (ℕ × ℕ) → Type 0
  Below a l = (x : ℕ × ℕ) × Among l x × (x.0 ≡ start_of a) × (a < m.words.top x.1)

  below_step : (a : ℕ) (x : ℕ × ℕ) (xs : List (ℕ × ℕ)) → (is_below m.words a xs ≡ true → Below a xs) → (b : Bool) → eqb x.0 (start_of a)
      ≡ b
      → cond b (cond (nat_lt a (m.words.top x.1)) true (is_below m.words a xs)) (is_below m.words a xs) ≡ true → Below a (x ∷ xs)
  below_step a x xs again true e t = ⊎_elim (λ (lt : nat_lt a (m.words.top x.1)
      ≡ true). (x, inl refl, eqb-true x.0 (start_of a) e, ltb-true a (m.words.top x.1) lt))
      (λ (l : is_below m.words a xs ≡ true). let r = again l in
      (r.0, inr r.1, r.2, r.3)) (either_true (nat_lt a (m.words.top x.1)) (is_below m.words a xs) t)
  below_step a x xs again false e t = let r = again t in (r.0, inr r.1, r.2, r.3)

  below_one : (a : ℕ) (l : List (ℕ × ℕ)) → is_below m.words a l ≡ true → Below a l
  below_one a [] h = absurd (true≢false (sym h))
  below_one a (x ∷ xs) h = below_step a x xs (below_one a xs) (eqb x.0 (start_of a)) refl h

  -- known addresses are inside
  pub known_inside : (first : List ℕ) (ever : List (ℕ × ℕ)) (w : List ℕ) (xs : List (ℕ × ℕ)) (a : ℕ) → Closed m.words ever w
      → ((x : ℕ × ℕ) → Among xs x → IsShown m first ever w x) → is_known m.words xs a ≡ true → Inside m.words w a
  known_inside first ever w xs a closed all h = ⊎_elim
      (λ (t : eqb a (start_of a) ≡ true). inl (eqb-true a (start_of a) t))
      (λ (t : cond (is_below m.words a xs) true (m.words.refers xs a) ≡ true). ⊎_elim
      (λ (b : is_below m.words a xs ≡ true). let r = below_one a xs b in let s = all r.0 r.1 in
      let page : start_of a ≡ start_of (start_of a) = omega arith in
      let up : m.words.top r.0.1 ≤ m.words.top (slice_index w r.0.0) = (s.top (subst (λ (k : ℕ). k ≡ start_of k) (sym r.2) page)).1 in
      let up' : m.words.top r.0.1 ≤ m.words.top (slice_index w (start_of a)) = subst
      (λ (k : ℕ). m.words.top r.0.1 ≤ m.words.top (slice_index w k)) r.2 up in
      let lt = r.3 in inr (omega arith))
      (λ (r : m.words.refers xs a ≡ true). (plain_inside m ever w xs a closed (λ x g. (all x g).plain) r).0)
      (either_true (is_below m.words a xs) (m.words.refers xs a) t))
      (either_true (eqb a (start_of a)) (cond (is_below m.words a xs) true (m.words.refers xs a)) h)

  gripped_held : (g : Grip) (a x : ℕ) → (gripped g a x).held ≡ g.held
  gripped_held g a x = go (is_in (a / 1024) g.held)
    where
      go : (b : Bool) → (cond b (record g { known = (a, x) ∷ g.known }) g).held ≡ g.held
      go true = refl
      go false = refl

  gripped_due : (g : Grip) (a x : ℕ) → (gripped g a x).due ≡ g.due
  gripped_due g a x = go (is_in (a / 1024) g.held)
    where
      go : (b : Bool) → (cond b (record g { known = (a, x) ∷ g.known }) g).due ≡ g.due
      go true = refl
      go false = refl

  gripped_known : (words : List ℕ) (g : Grip) (a : ℕ)
      → ((x : ℕ × ℕ) → Among g.known x → (is_in (x.0 / 1024) g.held ≡ true) × (slice_index words x.0 ≡ x.1))
      → (x : ℕ × ℕ) → Among (gripped g a (slice_index words a)).known x → (is_in (x.0 / 1024) g.held ≡ true)
      × (slice_index words x.0 ≡ x.1)
  gripped_known words g a old x = go (is_in (a / 1024) g.held) refl
    where
      go : (b : Bool) → is_in (a / 1024) g.held ≡ b → Among (cond b (record g { known = (a, slice_index words a) ∷ g.known }) g).known x
          → (is_in (x.0 / 1024) g.held ≡ true) × (slice_index words x.0 ≡ x.1)
      go true e (inl is) = subst (λ (x : ℕ × ℕ). (is_in (x.0 / 1024) g.held ≡ true) × (slice_index words x.0 ≡ x.1)) is (e, refl)
      go true e (inr h) = old x h
      go false e h = old x h

  module _ (g : Given) where
    -- what is found at an address inside
    found_shown : (s : S E) (k : Kept m g s) (a : ℕ) → a < 1024 * g.pages → Inside m.words k.fold a
        → IsShown m (words_of g) k.ever k.fold (a, slice_index s.words a)
    found_shown s k a range inside =
        let w = k.fold in
        let there : a < length w = let z = wide_fold m g s k in omega arith in
        let c = slice_index s.words a in ⊎_elim
        (λ (e : c ≡ slice_index w a). let stood = subst (λ (n : ℕ). Among k.ever (a, n)) (sym e) (k.stood a range inside) in record {
          plain = inl stood;
          inside = inside;
          there = there;
          final = λ _. sym e;
          top = (k.within (a, c) stood).1;
        })
        (λ (l : Lags m (words_of g) k.ever w s.views a c). record {
          plain = l.plain;
          inside = inside;
          there = there;
          final = λ f. absurd (true≢false (sym f ∙ l.soft));
          top = l.top;
        })
        (k.store a range inside)

    loaded_shown : (ever : List (ℕ × ℕ)) (w : List ℕ) (xs : List (ℕ × ℕ)) (a x : ℕ)
        → ((y : ℕ × ℕ) → Among xs y → IsShown m (words_of g) ever w y)
        → (is_known m.words xs a ≡ true → IsShown m (words_of g) ever w (a, x)) → (y : ℕ × ℕ)
        → Among (cond (is_known m.words xs a) ((a, x) ∷ xs) xs) y → IsShown m (words_of g) ever w y
    loaded_shown ever w xs a x old new y = go (is_known m.words xs a) refl
      where
        go : (b : Bool) → is_known m.words xs a ≡ b → Among (cond b ((a, x) ∷ xs) xs) y → IsShown m (words_of g) ever w y
        go true e (inl is) = subst (IsShown m (words_of g) ever w) is (new e)
        go true e (inr h) = old y h
        go false e h = old y h

    pub loads : (slots id : ℕ) (me : Me Nothing (View E)) (a : ℕ) → a < 1024 * g.pages
        → Allows (Kept m g) slots id me a (λ n. n) (λ found after. (after ≡ (loaded m me.0 a found, me.1))
        × Tells m g me.0 after.0 a found)
    loads slots id me a range s k homes at fits64 =
        let v = me.0 in
        let c = slice_index s.words a in
        let u = loaded m v a c in
        let f = k.views id v at in
        let held : u.grip.held ≡ v.grip.held = gripped_held v.grip a c in
        let due : u.grip.due ≡ v.grip.due = gripped_due v.grip a c in
        let mine : IsTrueOf m g s.words k.log k.ever k.fold u = record {
          held = λ p h. f.held p (subst (λ l. is_in p l ≡ true) held h);
          known = λ x h. let r = gripped_known s.words v.grip a f.known x h in
              (subst (λ l. is_in (x.0 / 1024) l ≡ true) (sym held) r.0, r.1);
          due = λ x h. let r = f.due x (subst (λ l. Among l x) due h) in (subst (λ l. is_in (x.0 / 1024) l ≡ true) (sym held) r.0, r.1);
          shown = loaded_shown k.ever k.fold (shown v.looks) a c f.shown
              (λ t. found_shown s k a range (known_inside (words_of g) k.ever k.fold (shown v.looks) a k.closed f.shown t));
          entries = f.entries;
          front = f.front;
          spent = λ none. let r = f.spent none in (r.0, held ∙ r.1);
        } in
        let step : Changes m g s k id v u s.words = record {
          at = at;
          entries = refl;
          purse = refl;
          size = refl;
          clock = refl;
          holders = λ p lt. (ap (λ l. slice_index s.words (page_at g p) + times p l) (sym held), (k.holders p lt).1);
          store = λ b within inside. inr (refl, (λ h. subst (λ l. Among l (b, slice_index k.fold b)) (sym due) h));
          mine = mine;
          others = λ j y ne e x h. refl;
        } in
        let next = changed m g s k id v u s.words step in
        let told = sees_alone m g record {
          words = s.words;
          homes = s.homes;
          views = set s.views id u;
        } next id u (set_here s.views id u (at_length s.views id v at)) in (
          u,
          keeps,
          tt,
          subst (λ (ws : List ℕ). Kept m g record { words = ws; homes = s.homes; views = set s.views id u })
              (sym (set-get_or s.words a 0)) next,
          (refl, (told.0, (λ all none_due inside. told.1 a range all (due ∙ none_due) inside))),
        )
