-- One may be added to the second word of a held page.
use Rattle.std.proofs.Common.{◌≡◌, ℕ, ◌+◌, ◌*◌, ◌/◌, ◌%◌, ◌^◌, ◌<◌, ◌≤◌, List, [], ◌∷◌, length}
use Rattle.std.proofs.Common.{true, false, cond, refl, sym, ap, ◌∙◌, subst, ⊎_elim, inl, inr, arith, eq-eqb, get_or-set_other}
use Rattle.std.proofs.Math.Nat.{mul-le-mul_right}
use Rattle.std.specs.Prelude.{slice_index}
use Rattle.word_commit.specs.declared.view.View.{View}
use Rattle.word_commit.specs.declared.view.Grip.{Grip}
use Rattle.word_commit.specs.declared.view.Given.{Given}
use Rattle.word_commit.specs.Meanings.{Among}
use Rattle.word_commit.specs.Histories.{start_of, applied, tops, Inside, MayWrite}
use Rattle.word_commit.specs.Views.{is_in, loaded, published, all_published, stamped}
use Rattle.word_commit.specs.Conditions.{IsUsed, CouldBe, MayStamp}
use Rattle.word_commit.proofs.Effects.{gripped_held_page, same_tops, elsewhere_keeps}
use Rattle.store_bench.specs.declared.counts.Count.{Count}
use Rattle.store_bench.specs.Counts.{count_words, counts}
use Rattle.store_bench.specs.Spells.{Counter}

in_one : (p : ℕ) → is_in p (p ∷ []) ≡ true
in_one p = subst (λ b. cond b true false ≡ true) (sym (eq-eqb p p refl)) refl

-- two loads in a held page
pub two_loads : (g : Given) (v u w : View Count) (page t x : ℕ) → page < g.pages → v.grip.held ≡ page ∷ [] → v.grip.due ≡ []
    → u ≡ loaded counts v (1024 * page) t → w ≡ loaded counts u (1024 * page + 1) x → 1024 * page + 1 < t → Counter g w page t x
two_loads g v u w page t x there held idle e f above =
    let p : page ≡ (1024 * page) / 1024 = omega arith in
    let q : page ≡ (1024 * page + 1) / 1024 = omega arith in
    let vin : is_in page v.grip.held ≡ true = subst (λ l. is_in page l ≡ true) (sym held) (in_one page) in
    let a : u.grip ≡ record v.grip { known = (1024 * page, t) ∷ v.grip.known } = ap (λ (z : View Count). z.grip) e
    ∙ gripped_held_page v.grip (1024 * page) t (subst (λ (i : ℕ). is_in i v.grip.held ≡ true) p vin) in
    let uh : u.grip.held ≡ v.grip.held = ap (λ (z : Grip). z.held) a in
    let b : w.grip ≡ record u.grip { known = (1024 * page + 1, x) ∷ u.grip.known } = ap (λ (z : View Count). z.grip) f
    ∙ gripped_held_page u.grip (1024 * page + 1) x (subst (λ (i : ℕ). is_in i u.grip.held ≡ true) q
    (subst (λ l. is_in page l ≡ true) (sym uh) vin)) in
    let known : w.grip.known ≡ (1024 * page + 1, x) ∷ (1024 * page, t) ∷ v.grip.known = ap (λ (z : Grip). z.known) b ∙ ap
    (λ l. (1024 * page + 1, x) ∷ l) (ap (λ (z : Grip). z.known) a) in
    record {
      there = there;
      held = ap (λ (z : Grip). z.held) b ∙ uh ∙ held;
      idle = ap (λ (z : Grip). z.due) b ∙ ap (λ (z : Grip). z.due) a ∙ idle;
      top = subst (λ l. Among l (1024 * page, t)) (sym known) (inr (inl refl));
      word = subst (λ l. Among l (1024 * page + 1, x)) (sym known) (inl refl);
      above = above;
    }

module _ (g : Given) (v : View Count) (page t had : ℕ) (p : Counter g v page t had) (n : ℕ) where
  abbrev entry : Count
  entry = record { addr = 1024 * page + 1; had = had }

  abbrev ws : List (ℕ × ℕ)
  ws = counts.writes entry n

  abbrev after : List ℕ → List ℕ
  after w = applied w ws

  starts : (w : List ℕ) (a : ℕ) → a ≡ start_of a → slice_index (after w) a ≡ slice_index w a
  starts w a e = get_or-set_other w (1024 * page + 1) a ((had + 1) % 2 ^ 64) 0 (λ x. omega arith)

  inside_still : (w : List ℕ) (a : ℕ) → Inside count_words w a → Inside count_words (after w) a
  inside_still w a h = ⊎_elim (λ (e : a ≡ start_of a). inl e)
      (λ (l : a < slice_index w (start_of a)). let s = starts w (start_of a)
      (let k : start_of a ≡ start_of (start_of a) = omega arith in k) in inr (omega arith)) h

  inside_was : (w : List ℕ) (a : ℕ) → Inside count_words (after w) a → Inside count_words w a
  inside_was w a h = ⊎_elim (λ (e : a ≡ start_of a). inl e)
      (λ (l : a < slice_index (after w) (start_of a)). let s = starts w (start_of a)
      (let k : start_of a ≡ start_of (start_of a) = omega arith in k) in inr (omega arith)) h

  word_inside : (w : List ℕ) → CouldBe count_words g.pages v.grip.known w → Inside count_words w (1024 * page + 1)
  word_inside w c =
      let s : 1024 * page ≡ start_of (1024 * page) = omega arith in
      let is = c.1 (1024 * page, t) p.top (inl s) in
      let turn : 1024 * page ≡ start_of (1024 * page + 1) = omega arith in
      let above = p.above in
      inr (subst (λ (i : ℕ). 1024 * page + 1 < slice_index w i) turn (omega arith))

  only_write : (P : ℕ × ℕ → Type 0) → P (1024 * page + 1, (had + 1) % 2 ^ 64) → (x : ℕ × ℕ) → Among ws x → P x
  only_write P a x (inl e) = subst P e a
  only_write P a x (inr h) = absurd h

  only_read : (P : ℕ × ℕ → Type 0) → P (1024 * page + 1, had) → (x : ℕ × ℕ) → Among (counts.reads entry) x → P x
  only_read P a x (inl e) = subst P e a
  only_read P a x (inr h) = absurd h

  write_inside : (w : List ℕ) → CouldBe count_words g.pages v.grip.known w → (x : ℕ × ℕ) → Among ws x → Inside count_words w x.0
  write_inside w c = only_write (λ x. Inside count_words w x.0) (word_inside w c)

  may_write : (w : List ℕ) → CouldBe count_words g.pages v.grip.known w → MayWrite count_words w ws
  may_write w c = record {
    distinct = ((λ y h. h), tt);
    ranges = let l = c.0 in let a = p.there in only_write (λ x. x.0 < length w) (omega arith);
    soft = λ x h inside. refl;
    below = λ x h. inside_still w x.0 (write_inside w c x h);
    rises = λ a e. let s = starts w a e in omega arith;
    ends = λ a y e h. absurd (only_write (λ x. x.0 ≡ start_of x.0 → ⊥) (λ q. omega arith) (a, y) h e);
    fills = λ a h. inl (inside_was w a h);
  }

  pub may_count : MayStamp counts g v entry n
  may_count =
      let here : is_in page v.grip.held ≡ true = subst (λ l. is_in page l ≡ true) (sym p.held) (in_one page) in
      let own : page ≡ (1024 * page + 1) / 1024 = omega arith in
      let start : 1024 * page ≡ start_of (1024 * page + 1) = omega arith in record {
        idle = p.idle;
        sound = tt;
        reads = λ x h. inl (only_read (λ x. Among v.grip.known x × IsUsed count_words v.grip.known x.0)
            (p.word, inr (t, subst (λ (i : ℕ). Among v.grip.known (i, t)) start p.top, p.above)) x h);
        held = only_write (λ x. is_in (x.0 / 1024) v.grip.held ≡ true) (subst (λ (i : ℕ). is_in i v.grip.held ≡ true) own here);
        writes = may_write;
        cells = λ w c. let s : tops count_words g.pages (after w)
            ≡ tops count_words g.pages w = same_tops count_words g.pages w (after w)
            (λ q. starts w (1024 * q) (let k : 1024 * q ≡ start_of (1024 * q) = omega arith in k)) in omega arith;
        primed = λ x h w c out. absurd (out (write_inside w c x h));
      }

  -- after the stamp and the publish the word is one more
  pub counted : (u w : View Count) → u ≡ stamped counts v entry n → w ≡ all_published u u.grip.due
      → Counter g w page t ((had + 1) % 2 ^ 64)
  counted u w e f =
      let both : w ≡ published (stamped counts v entry n) (1024 * page + 1) ((had + 1) % 2 ^ 64)
      = f ∙ ap (λ (z : View Count). all_published z z.grip.due) e in
      record {
        there = p.there;
        held = ap (λ (z : View Count). z.grip.held) both ∙ p.held;
        idle = ap (λ (z : View Count). z.grip.due) both;
        top = subst (λ (z : View Count). Among z.grip.known (1024 * page, t)) (sym both)
            (inr (elsewhere_keeps (1024 * page + 1) v.grip.known (1024 * page, t) p.top (λ z. omega arith)));
        word = subst (λ (z : View Count). Among z.grip.known (1024 * page + 1, (had + 1) % 2 ^ 64)) (sym both) (inl refl);
        above = p.above;
      }

-- what one of more workers takes is there
pub one_fits : (k n r : ℕ) → k < n → k * r + r ≤ n * r
one_fits k n r h = let a : (k + 1) * r ≤ n * r = mul-le-mul_right r (let z : k + 1 ≤ n = omega arith in z) in
    let b : (k + 1) * r ≡ k * r + r = omega arith in omega arith
