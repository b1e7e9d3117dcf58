-- A note at the top of a held page may be stamped.
use Rattle.std.proofs.Common.{◌≡◌, ◌≢◌, ℕ, ◌+◌, ◌*◌, ◌/◌, ◌^◌, ◌<◌, ◌≤◌, List, [], ◌∷◌, length, set}
use Rattle.std.proofs.Common.{true}
use Rattle.std.proofs.Common.{false, cond, refl, sym, ap, ◌∙◌, subst, ⊎_elim, inl, inr, arith, eq-eqb, get_or-set_other, get_or-set_same}
use Rattle.std.proofs.Common.{length-set}
use Rattle.std.proofs.Math.Nat.{mod-eq_of_lt}
use Rattle.std.proofs.lemmas.Bool.{lt-leb}
use Rattle.std.specs.Prelude.{slice_index, nat_le}
use mathlib.Core.Logic.{dite}
use native.Mathlib.Decide.{ℕ_discrete}
use Rattle.word_commit.specs.declared.view.View.{View}
use Rattle.word_commit.specs.declared.view.Grip.{Grip}
use Rattle.word_commit.specs.declared.view.Given.{Given}
use Rattle.word_commit.specs.Meanings.{Among}
use Rattle.word_commit.specs.Histories.{start_of, applied, tops, Inside, MayWrite}
use Rattle.word_commit.specs.Views.{Commits, Moves, Cells, Extra, is_in, loaded, primed}
use Rattle.word_commit.specs.Conditions.{IsFree, IsUsed, CouldBe, IsPrimed, Affords, MayStamp}
use Rattle.word_commit.proofs.Effects.{gripped_held_page, elsewhere_keeps, one_top}
use Rattle.store_tests.specs.declared.notes.Note.{Note}
use Rattle.store_tests.specs.Notes.{note_words, page_of, notes}

in_one : (p : ℕ) → is_in p (p ∷ []) ≡ true
in_one p = subst (λ b. cond b true false ≡ true) (sym (eq-eqb p p refl)) refl

-- the view after the page's top was loaded: the top is known
pub top_known : (v u : View Note) (page t : ℕ) → v.grip.held ≡ page ∷ [] → u ≡ loaded notes v (1024 * page) t
    → Among u.grip.known (1024 * page, t) × (u.grip.held ≡ page ∷ []) × (u.grip.due ≡ v.grip.due)
top_known v u page t held e =
    let p : page ≡ (1024 * page) / 1024 = omega arith in
    let here : is_in ((1024 * page) / 1024) v.grip.held ≡ true
    = subst (λ (i : ℕ). is_in i v.grip.held ≡ true) p (subst (λ l. is_in page l ≡ true) (sym held) (in_one page)) in
    let a : u.grip ≡ record v.grip { known = (1024 * page, t) ∷ v.grip.known }
    = ap (λ (z : View Note). z.grip) e ∙ gripped_held_page v.grip (1024 * page) t here in (
      subst (λ (z : Grip). Among z.known (1024 * page, t)) (sym a) (inl refl),
      ap (λ (z : Grip). z.held) a ∙ held,
      ap
          (λ (z : Grip). z.due) a,
    )

-- the top is free
pub top_free : (v : View Note) (page t : ℕ) → Among v.grip.known (1024 * page, t) → 1024 * page < t → t < 1024 * page + 1024
    → IsFree note_words v.grip.known t
top_free v page t known low high =
    let s : 1024 * page ≡ start_of t = omega arith in (t, subst (λ (i : ℕ). Among v.grip.known (i, t)) s known, omega arith)

-- A page whose top is known, with the word at the top primed.
pub record Slot (g : Given) (v : View Note) (page t : ℕ) : Type 0 where
  pub page_there : page < g.pages
  pub small : page < 3906250
  pub low : 1024 * page < t
  pub high : t < 1024 * page + 1024
  pub held : v.grip.held ≡ page ∷ []
  pub idle : v.grip.due ≡ []
  pub top : Among v.grip.known (1024 * page, t)
  pub prime : Among v.grip.known (t, 0)

-- the view after the word at the top was primed
pub slot_primed : (g : Given) (v u : View Note) (page t : ℕ) → page < g.pages → page < 3906250 → 1024 * page < t → t < 1024 * page + 1024
    → v.grip.held ≡ page ∷ [] → v.grip.due ≡ [] → Among v.grip.known (1024 * page, t) → u ≡ primed v t 0 → Slot g u page t
slot_primed g v u page t there small low high held idle known e = record {
  page_there = there;
  small = small;
  low = low;
  high = high;
  held = ap (λ (z : View Note). z.grip.held) e ∙ held;
  idle = ap (λ (z : View Note). z.grip.due) e ∙ idle;
  top = subst (λ (z : View Note). Among z.grip.known (1024 * page, t)) (sym e)
      (inr (elsewhere_keeps t v.grip.known (1024 * page, t) known (λ z. omega arith)));
  prime = subst (λ (z : View Note). Among z.grip.known (t, 0)) (sym e) (inl refl);
}

small_soft : (t : ℕ) → t < 2 ^ 40 → nat_le (2 ^ 40) t ≡ false
small_soft t h = lt-leb (2 ^ 40) t h

module _ (g : Given) (v : View Note) (page t : ℕ) (p : Slot g v page t) (n : ℕ) where
  abbrev entry : Note
  entry = record { page = page; top = t }

  abbrev ws : List (ℕ × ℕ)
  ws = notes.writes entry n

  first : page_of entry ≡ 1024 * page
  first = let s = p.small in mod-eq_of_lt (omega arith) ∙ omega arith

  abbrev plain : List (ℕ × ℕ)
  plain = (t, 2 ^ 40 + n) ∷ (1024 * page, t + 1) ∷ []

  ws_plain : ws ≡ plain
  ws_plain = ap (λ (i : ℕ). (t, 2 ^ 40 + n) ∷ (i, t + 1) ∷ []) first

  abbrev after : List ℕ → List ℕ
  after w = set (set w t (2 ^ 40 + n)) (1024 * page) (t + 1)

  elsewhere_same : (w : List ℕ) (a : ℕ) → a ≢ t → a ≢ 1024 * page → slice_index (after w) a ≡ slice_index w a
  elsewhere_same w a x y = get_or-set_other (set w t (2 ^ 40 + n)) (1024 * page) a (t + 1) 0 y ∙ get_or-set_other w t a (2 ^ 40 + n) 0 x

  top_after : (w : List ℕ) → length w ≡ 1024 * g.pages → slice_index (after w) (1024 * page) ≡ t + 1
  top_after w size = let a = p.page_there in let l = length-set w t (2 ^ 40 + n) in
      get_or-set_same (set w t (2 ^ 40 + n)) (1024 * page) (t + 1) 0 (omega arith)

  top_before : (w : List ℕ) → CouldBe note_words g.pages v.grip.known w → slice_index w (1024 * page) ≡ t
  top_before w c = let s : 1024 * page ≡ start_of (1024 * page) = omega arith in c.1 (1024 * page, t) p.top (inl s)

  start_t : start_of t ≡ 1024 * page
  start_t = let a = p.low in let b = p.high in omega arith

  outside : (w : List ℕ) → CouldBe note_words g.pages v.grip.known w → Inside note_words w t → ⊥
  outside w c h = let a = p.low in let s = start_t in ⊎_elim (λ (e : t ≡ start_of t). omega arith)
      (λ (l : t < slice_index w (start_of t)). let b : slice_index w (start_of t) ≡ t = ap (slice_index w) s ∙ top_before w c in
      omega arith) h

  each_write : (P : ℕ × ℕ → Type 0) → P (t, 2 ^ 40 + n) → P (1024 * page, t + 1) → (x : ℕ × ℕ) → Among plain x → P x
  each_write P a b x (inl e) = subst P e a
  each_write P a b x (inr (inl e)) = subst P e b
  each_write P a b x (inr (inr h)) = absurd h

  may_write : (w : List ℕ) → CouldBe note_words g.pages v.grip.known w → MayWrite note_words w plain
  may_write w c =
      let low = p.low in
      let high = p.high in
      let there = p.page_there in
      let small = p.small in
      let size = c.0 in
      let now = top_after w c.0 in
      let was = top_before w c in
      let st = start_t in
      let here : 1024 * page ≡ start_of (1024 * page) = omega arith in record {
        distinct = (
          (λ y h. ⊎_elim (λ (e : (1024 * page, t + 1) ≡ (t, y)). let q = ap (λ (z : ℕ × ℕ). z.0) e in omega arith)
              (λ z. absurd z) h),
          ((λ y h. h), tt),
        );
        ranges = each_write (λ x. x.0 < length w) (omega arith) (omega arith);
        soft = each_write (λ x. Inside note_words w x.0 → nat_le (2 ^ 40) (slice_index w x.0) ≡ false) (λ h. absurd (outside w c h))
            (λ h. small_soft (slice_index w (1024 * page)) (omega arith));
        below = each_write (λ x. Inside note_words (after w) x.0)
            (inr (let b : slice_index (after w) (start_of t) ≡ t + 1 = ap (slice_index (after w)) st ∙ now in omega arith)) (inl here);
        rises = λ a e. dite (ℕ_discrete a (1024 * page))
            (λ is. subst (λ (i : ℕ). slice_index w i ≤ slice_index (after w) i) (sym is) (omega arith))
            (λ ne. let s = elsewhere_same w a (λ z. omega arith) ne in omega arith);
        ends = λ a y e h. each_write (λ x. x.0 ≡ start_of x.0 → x.1 ≤ x.0 + 1024) (λ z. absurd (omega arith))
            (λ z. omega arith) (a, y) h e;
        fills = λ a h. ⊎_elim (λ (e : a ≡ start_of a). inl (inl e))
            (λ (l : a < slice_index (after w) (start_of a)). dite (ℕ_discrete (start_of a) (1024 * page))
            (λ is. let b : slice_index (after w) (start_of a) ≡ t + 1 = ap (slice_index (after w)) is ∙ now in
            let b' : slice_index w (start_of a) ≡ t = ap (slice_index w) is ∙ was in
            dite (ℕ_discrete a t) (λ e. inr (2 ^ 40 + n, inl (λ i. (sym e i, 2 ^ 40 + n)))) (λ ne. inl (inr (omega arith))))
            (λ ne. let s = elsewhere_same w (start_of a) (λ z. omega arith) ne in inl (inr (omega arith)))) h;
      }

  may_note : MayStamp notes g v entry n
  may_note =
      let low = p.low in
      let high = p.high in
      let held : is_in page v.grip.held ≡ true = subst (λ l. is_in page l ≡ true) (sym p.held) (in_one page) in
      let tp : page ≡ t / 1024 = omega arith in
      let fp : page ≡ (1024 * page) / 1024 = omega arith in
      let here : 1024 * page ≡ start_of (1024 * page) = omega arith in
      let in_ws : (x : ℕ × ℕ) → Among ws x → Among plain x = (λ x h. subst (λ l. Among l x) ws_plain h) in record {
        idle = p.idle;
        sound = tt;
        reads = λ x h. ⊎_elim
            (λ (e : (page_of entry, t) ≡ x). inl (subst (λ (x : ℕ × ℕ). Among v.grip.known x × IsUsed note_words v.grip.known x.0) e
            (subst (λ (i : ℕ). Among v.grip.known (i, t) × IsUsed note_words v.grip.known i) (sym first) (p.top, inl here))))
            (λ z. absurd z) h;
        held = λ x h. each_write (λ x. is_in (x.0 / 1024) v.grip.held ≡ true) (subst (λ (i : ℕ). is_in i v.grip.held ≡ true) tp held)
            (subst (λ (i : ℕ). is_in i v.grip.held ≡ true) fp held) x (in_ws x h);
        writes = λ w c. subst (MayWrite note_words w) (sym ws_plain) (may_write w c);
        cells = λ w c. subst (λ l. tops note_words g.pages (applied w l) ≤ tops note_words g.pages w + 1) (sym ws_plain)
            (one_top note_words g.pages page w (after w) (λ q ne. elsewhere_same w (1024 * q) (λ z. omega arith) (λ z. ne (omega arith)))
            (let a = top_after w c.0 in let b = top_before w c in omega arith)).0;
        primed = λ x h w c. each_write (λ x. (Inside note_words w x.0 → ⊥) → IsPrimed note_words v.grip.known x)
            (λ out. (0, p.prime, inr (refl, (λ l r a. refl)))) (λ out. absurd (out (inl here))) x (in_ws x h);
      }

-- a note costs a cell and an extra entry
pub affords_note : (v : View Note) (e : Note) → 0 < v.purse.cells → 0 < v.purse.extra → Affords notes v e
affords_note v e c x Commits = omega arith
affords_note v e c x Moves = omega arith
affords_note v e c x Cells = omega arith
affords_note v e c x Extra = omega arith

pub note_may : (g : Given) (v : View Note) (page t : ℕ) → Slot g v page t → (n : ℕ) → MayStamp notes g v record { page = page; top = t } n
note_may g v page t p n = may_note g v page t p n
