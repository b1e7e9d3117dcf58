-- A transfer between the purses of two held pages may be stamped.
use Rattle.std.proofs.Common.{◌≡◌, ◌≢◌, ℕ, ◌+◌, ◌-◌, ◌*◌, ◌/◌, ◌%◌, ◌^◌, ◌<◌, eqb, List, [], ◌∷◌, length, set, Bool}
use Rattle.std.proofs.Common.{true, false, cond, refl, sym, ap, ◌∙◌, subst, ⊎_elim, inl, inr, arith, eq-eqb, ne_eqb, get_or-set_other}
use Rattle.std.specs.Prelude.{slice_index}
use Rattle.word_commit.specs.declared.view.View.{View}
use Rattle.word_commit.specs.declared.view.Grip.{Grip}
use Rattle.word_commit.specs.declared.view.Given.{Given}
use Rattle.word_commit.specs.Meanings.{Among}
use Rattle.word_commit.specs.Histories.{start_of, applied, tops, Inside, MayWrite}
use Rattle.word_commit.specs.Views.{Commits, Moves, Cells, Extra, is_in, without, loaded}
use Rattle.word_commit.specs.Conditions.{IsUsed, CouldBe, Affords, MayStamp}
use Rattle.word_commit.proofs.Effects.{gripped_held_page, same_tops}
use Rattle.store_tests.specs.declared.purses.Transfer.{Transfer}
use Rattle.store_tests.specs.Purses.{purse_words, purses}
use Rattle.store_tests.specs.Transfers.{Looks}

-- two loads in a held page
pub two_loads : (v u w : View Transfer) (page t x : ℕ) → is_in page v.grip.held ≡ true → u ≡ loaded purses v (1024 * page) t → w
    ≡ loaded purses u (1024 * page + 1) x → Looks v w page t x
two_loads v u w page t x held e f =
    let p : page ≡ (1024 * page) / 1024 = omega arith in
    let q : page ≡ (1024 * page + 1) / 1024 = omega arith in
    let a : u.grip ≡ record v.grip { known = (1024 * page, t) ∷ v.grip.known } = ap (λ (z : View Transfer). z.grip) e
    ∙ gripped_held_page v.grip (1024 * page) t (subst (λ (i : ℕ). is_in i v.grip.held ≡ true) p held) in
    let uh : u.grip.held ≡ v.grip.held = ap (λ (z : Grip). z.held) a in
    let b : w.grip ≡ record u.grip { known = (1024 * page + 1, x) ∷ u.grip.known } = ap (λ (z : View Transfer). z.grip) f
    ∙ gripped_held_page u.grip (1024 * page + 1) x (subst (λ (i : ℕ). is_in i u.grip.held ≡ true) q
    (subst (λ l. is_in page l ≡ true) (sym uh) held)) in
    let known : w.grip.known ≡ (1024 * page + 1, x) ∷ (1024 * page, t) ∷ v.grip.known = ap (λ (z : Grip). z.known) b ∙ ap
    (λ l. (1024 * page + 1, x) ∷ l) (ap (λ (z : Grip). z.known) a) in
    let here : (y : ℕ × ℕ) → Among ((1024 * page + 1, x) ∷ (1024 * page, t) ∷ v.grip.known) y → Among w.grip.known y =
    (λ y h. subst (λ l. Among l y) (sym known) h) in
    record {
      before = record {
        entries = ap (λ (z : View Transfer). z.entries) f ∙ ap (λ (z : View Transfer). z.entries) e;
        purse = ap (λ (z : View Transfer). z.purse) f ∙ ap (λ (z : View Transfer). z.purse) e;
        due = ap (λ (z : Grip). z.due) b ∙ ap (λ (z : Grip). z.due) a;
      };
      held = ap (λ (z : Grip). z.held) b ∙ uh;
      top = here (1024 * page, t) (inr (inl refl));
      word = here (1024 * page + 1, x) (inl refl);
      still = λ y h. here y (inr (inr h));
    }

in_first : (p : ℕ) (l : List ℕ) → is_in p (p ∷ l) ≡ true
in_first p l = subst (λ b. cond b true (is_in p l) ≡ true) (sym (eq-eqb p p refl)) refl

in_second : (p q : ℕ) (l : List ℕ) → is_in q l ≡ true → is_in q (p ∷ l) ≡ true
in_second p q l h = go (eqb p q)
  where
    go : (b : Bool) → cond b true (is_in q l) ≡ true
    go true = refl
    go false = h

-- of the two pages that are held each is held
pub both_held : (from to : ℕ) → (is_in from (to ∷ from ∷ []) ≡ true) × (is_in to (to ∷ from ∷ []) ≡ true)
both_held from to = (in_second to from (from ∷ []) (in_first from []), in_first to (from ∷ []))

-- and they are given one after the other
pub both_given : (from to : ℕ) → to ≢ from → (without from (to ∷ from ∷ []) ≡ to ∷ []) × (is_in to (to ∷ []) ≡ true)
    × (without to (to ∷ []) ≡ [])
both_given from to ne = (
  subst (λ b. cond b (without from (from ∷ [])) (to ∷ without from (from ∷ [])) ≡ to ∷ []) (sym (ne_eqb to from ne))
      (ap (λ l. to ∷ l) (subst (λ b. cond b [] (from ∷ []) ≡ []) (sym (eq-eqb from from refl)) refl)),
  in_first to [],
  subst (λ b. cond b [] (to ∷ []) ≡ []) (sym (eq-eqb to to refl)) refl,
)

-- The purses of two pages, whose tops lie above them.
pub record Purse (g : Given) (v : View Transfer) (from to t u had owned : ℕ) : Type 0 where
  pub pages : (from < g.pages) × (to < g.pages) × (to ≢ from)
  pub held : v.grip.held ≡ to ∷ from ∷ []
  pub idle : v.grip.due ≡ []
  pub from_top : Among v.grip.known (1024 * from, t)
  pub from_word : Among v.grip.known (1024 * from + 1, had)
  pub to_top : Among v.grip.known (1024 * to, u)
  pub to_word : Among v.grip.known (1024 * to + 1, owned)
  pub from_above : 1024 * from + 1 < t
  pub to_above : 1024 * to + 1 < u

module _ (g : Given) (v : View Transfer) (from to t u had owned : ℕ) (p : Purse g v from to t u had owned) (n : ℕ) where
  abbrev entry : Transfer
  entry = record { from = 1024 * from + 1; to = 1024 * to + 1; had = had; owned = owned }

  abbrev ws : List (ℕ × ℕ)
  ws = purses.writes entry n

  abbrev after : List ℕ → List ℕ
  after w = applied w ws

  elsewhere : (w : List ℕ) (a : ℕ) → a ≢ 1024 * from + 1 → a ≢ 1024 * to + 1 → slice_index (after w) a ≡ slice_index w a
  elsewhere w a x y = get_or-set_other (set w (1024 * from + 1) (had - 1)) (1024 * to + 1) a ((owned + 1) % 2 ^ 64) 0 y
      ∙ get_or-set_other w (1024 * from + 1) a (had - 1) 0 x

  starts : (w : List ℕ) (a : ℕ) → a ≡ start_of a → slice_index (after w) a ≡ slice_index w a
  starts w a e = elsewhere w a (λ x. omega arith) (λ x. omega arith)

  inside_still : (w : List ℕ) (a : ℕ) → Inside purse_words w a → Inside purse_words (after w) a
  inside_still w a h = ⊎_elim (λ (e : a ≡ start_of a). inl e)
      (λ (l : a < slice_index w (start_of a)). let s = starts w (start_of a)
      (let k : start_of a ≡ start_of (start_of a) = omega arith in k) in inr (omega arith)) h

  inside_was : (w : List ℕ) (a : ℕ) → Inside purse_words (after w) a → Inside purse_words w a
  inside_was w a h = ⊎_elim (λ (e : a ≡ start_of a). inl e)
      (λ (l : a < slice_index (after w) (start_of a)). let s = starts w (start_of a)
      (let k : start_of a ≡ start_of (start_of a) = omega arith in k) in inr (omega arith)) h

  from_inside : (w : List ℕ) → CouldBe purse_words g.pages v.grip.known w → Inside purse_words w (1024 * from + 1)
  from_inside w c =
      let s : 1024 * from ≡ start_of (1024 * from) = omega arith in
      let is = c.1 (1024 * from, t) p.from_top (inl s) in
      let turn : 1024 * from ≡ start_of (1024 * from + 1) = omega arith in
      let above = p.from_above in
      inr (subst (λ (i : ℕ). 1024 * from + 1 < slice_index w i) turn (omega arith))

  to_inside : (w : List ℕ) → CouldBe purse_words g.pages v.grip.known w → Inside purse_words w (1024 * to + 1)
  to_inside w c =
      let s : 1024 * to ≡ start_of (1024 * to) = omega arith in
      let is = c.1 (1024 * to, u) p.to_top (inl s) in
      let turn : 1024 * to ≡ start_of (1024 * to + 1) = omega arith in
      let above = p.to_above in
      inr (subst (λ (i : ℕ). 1024 * to + 1 < slice_index w i) turn (omega arith))

  each_write : (P : ℕ × ℕ → Type 0) → P (1024 * from + 1, had - 1) → P (1024 * to + 1, (owned + 1) % 2 ^ 64) → (x : ℕ × ℕ) → Among ws x
      → P x
  each_write P a b x (inl e) = subst P e a
  each_write P a b x (inr (inl e)) = subst P e b
  each_write P a b x (inr (inr h)) = absurd h

  each_read : (P : ℕ × ℕ → Type 0) → P (1024 * from + 1, had) → P (1024 * to + 1, owned) → (x : ℕ × ℕ) → Among (purses.reads entry) x
      → P x
  each_read P a b x (inl e) = subst P e a
  each_read P a b x (inr (inl e)) = subst P e b
  each_read P a b x (inr (inr h)) = absurd h

  each_inside : (w : List ℕ) → CouldBe purse_words g.pages v.grip.known w → (x : ℕ × ℕ) → Among ws x → Inside purse_words w x.0
  each_inside w c = each_write (λ x. Inside purse_words w x.0) (from_inside w c) (to_inside w c)

  may_write : (w : List ℕ) → CouldBe purse_words g.pages v.grip.known w → MayWrite purse_words w ws
  may_write w c = record {
    distinct = (
      (λ y h. ⊎_elim (λ (e : (1024 * to + 1, (owned + 1) % 2 ^ 64) ≡ (1024 * from + 1, y)). let q = ap (λ (z : ℕ × ℕ). z.0) e in
          p.pages.2 (omega arith)) (λ none_left. absurd none_left) h),
      ((λ y h. h), tt),
    );
    ranges = let l = c.0 in let a = p.pages.0 in let b = p.pages.1 in each_write (λ x. x.0 < length w) (omega arith) (omega arith);
    soft = λ x h inside. refl;
    below = λ x h. inside_still w x.0 (each_inside w c x h);
    rises = λ a e. let s = starts w a e in omega arith;
    ends = λ a y e h. absurd (each_write (λ x. x.0 ≡ start_of x.0 → ⊥) (λ q. omega arith) (λ q. omega arith) (a, y) h e);
    fills = λ a h. inl (inside_was w a h);
  }

  pub may_move : MayStamp purses g v entry n
  may_move =
      let in_both = both_held from to in
      let from_held : is_in from v.grip.held ≡ true = subst (λ l. is_in from l ≡ true) (sym p.held) in_both.0 in
      let to_held : is_in to v.grip.held ≡ true = subst (λ l. is_in to l ≡ true) (sym p.held) in_both.1 in
      let fp : from ≡ (1024 * from + 1) / 1024 = omega arith in
      let tp : to ≡ (1024 * to + 1) / 1024 = omega arith in
      let fs : 1024 * from ≡ start_of (1024 * from + 1) = omega arith in
      let ts : 1024 * to ≡ start_of (1024 * to + 1) = omega arith in record {
        idle = p.idle;
        sound = tt;
        reads = λ x h. inl (each_read (λ x. Among v.grip.known x × IsUsed purse_words v.grip.known x.0)
            (p.from_word, inr (t, subst (λ (i : ℕ). Among v.grip.known (i, t)) fs p.from_top, p.from_above))
            (p.to_word, inr (u, subst (λ (i : ℕ). Among v.grip.known (i, u)) ts p.to_top, p.to_above)) x h);
        held = each_write (λ x. is_in (x.0 / 1024) v.grip.held ≡ true) (subst (λ (i : ℕ). is_in i v.grip.held ≡ true) fp from_held)
            (subst (λ (i : ℕ). is_in i v.grip.held ≡ true) tp to_held);
        writes = may_write;
        cells = λ w c. let s : tops purse_words g.pages (after w)
            ≡ tops purse_words g.pages w = same_tops purse_words g.pages w (after w)
            (λ q. starts w (1024 * q) (let k : 1024 * q ≡ start_of (1024 * q) = omega arith in k)) in omega arith;
        primed = λ x h w c out. absurd (out (each_inside w c x h));
      }

-- a move is all that it costs
pub affords_move : (v : View Transfer) (e : Transfer) → 0 < v.purse.moves → Affords purses v e
affords_move v e h Commits = omega arith
affords_move v e h Moves = omega arith
affords_move v e h Cells = omega arith
affords_move v e h Extra = omega arith

-- of one more worker than b each wants w
pub one_more : (a b w : ℕ) → a ≡ b + 1 → a * w ≡ b * w + w
one_more a b w e = subst (λ (n : ℕ). n * w ≡ b * w + w) (sym e) (omega arith)
