-- Writes that put tops up and fill what they set free may follow over a heap.
use Rattle.std.proofs.Common.{◌≡◌, ◌⊎◌, ℕ, ◌+◌, ◌-◌, ◌*◌, ◌/◌, ◌%◌, ◌<◌, ◌≤◌, Bool, true, false, cond, List, length, slice_get}
use Rattle.std.proofs.Common.{refl, sym, ap, ◌∙◌, subst, ⊎_elim, inl, inr, arith, Option, Some, None}
use Rattle.std.specs.Prelude.{nat_eq, nat_lt, ◌||◌}
use Rattle.std.specs.Option.{option_and_then}
use Rattle.std.proofs.lemmas.Bool.{and_parts, and_from, or_cases, or_left, or_right, cases_lt, lt-ltb, ltb-true, eqb-true, eq-eqb}
use Rattle.std.proofs.lemmas.Bool.{cond-false}
use Rattle.std.proofs.lemmas.Bool.{cases_Bool}
use Rattle.std.proofs.lemmas.Option.{same_Some}
use Rattle.heap_words.specs.Cells.{decoded, encoded, is_final_word, is_final_in, is_final_cell}
use Rattle.heap_words.specs.Heaps.{IsHeap, is_inside, inside_at, top_said, top_at}
use Rattle.heap_words.specs.HeapLaws.{inside_below}
use Rattle.heap_words.specs.Trails.{WordList, word_at}
use Rattle.heap_words.proofs.Encodings.{decoded_encoded}
use Rattle.heap_words.specs.declared.cell.Cell.{Cell}
use Rattle.heap_words.specs.declared.cell.Cell.TheVariants.{Top}
use Rattle.word_states.specs.Words.{Words, At, Among, AreApart}
use Rattle.word_states.specs.Writing.{applied, MayWrite}
use Rattle.word_states.proofs.Lists.{apart_word, word_among}
use Rattle.page_layout.specs.declared.rooms.Room.{Room}
use Rattle.page_layout.specs.Laying.{AreRooms}
use Rattle.page_layout.specs.Openings.{AreTops, AreFree}
use Rattle.page_layout.proofs.Applied.{get_other, get_same, length_same}

pub there : (ws : List ℕ) (a x : ℕ) → inside_at ws a ≡ Some x → (is_inside ws a ≡ true) × (slice_get ws a ≡ Some x)
there ws a x e = go (is_inside ws a) refl e
  where
    go : (t : Bool) → is_inside ws a ≡ t → cond t (slice_get ws a) None ≡ Some x → (is_inside ws a ≡ true) × (slice_get ws a ≡ Some x)
    go true i f = (i, f)
    go false i f = cc

said : (ws : List ℕ) (a x : ℕ) → slice_get ws a ≡ Some x → top_at ws a ≡ top_said (decoded x)
said ws a x e = ap (λ (o : Option ℕ). top_said (option_and_then decoded o)) e

-- an address is inside where it is below its page's top
inside_if : (vs : List ℕ) (a : ℕ) → a < length vs → (a % 1024 ≡ 0) ⊎ (a < top_at vs (1024 * (a / 1024))) → is_inside vs a ≡ true
unfolding is_inside
inside_if vs a lt h =
    let page : 1024 * (a / 1024) ≡ a - a % 1024 = omega arith in
    and_from _ _ (lt-ltb a (length vs) lt) (⊎_elim
    (λ (e : a % 1024 ≡ 0). or_left _ _ (eq-eqb (a % 1024) 0 e))
    (λ (l : a < top_at vs (1024 * (a / 1024))). or_right _ _ (lt-ltb a _ (subst (λ (b : ℕ). a < top_at vs b) page l))) h)

-- the first word of a page is inside
pub top_inside : (ws : List ℕ) (p : ℕ) → 1024 * p < length ws → is_inside ws (1024 * p) ≡ true
top_inside ws p lt = inside_if ws (1024 * p) lt (inl (omega arith))

inside_then : (vs : List ℕ) (a : ℕ) → is_inside vs a ≡ true → (a < length vs) × ((a % 1024 ≡ 0) ⊎ (a < top_at vs (1024 * (a / 1024))))
unfolding is_inside
inside_then vs a h =
    let r = and_parts (nat_lt a (length vs)) (nat_eq (a % 1024) 0 || nat_lt a (top_at vs (a - a % 1024))) h in
    let page : a - a % 1024 ≡ 1024 * (a / 1024) = omega arith in (
      ltb-true a (length vs) r.0,
      ⊎_elim
          (λ (e : nat_eq (a % 1024) 0 ≡ true). inl (eqb-true (a % 1024) 0 e))
          (λ (e : nat_lt a (top_at vs (a - a % 1024)) ≡ true). inr (subst (λ (b : ℕ). a < top_at vs b) page (ltb-true a _ e)))
          (or_cases _ _ r.1),
    )

-- the words above the tops of a heap are free
pub tops_free : (ws : List ℕ) (rooms : List Room) → AreRooms rooms → AreTops rooms (inside_at ws) → AreFree rooms (inside_at ws)
tops_free ws rooms are tops k a r e lo hi =
    cond-false _ _ _ (⊎_elim (λ (h : is_inside ws a ≡ true). absurd (no h))
    (λ (h : is_inside ws a ≡ false). h) (cases_Bool (is_inside ws a)))
  where
    no : is_inside ws a ≡ true → ⊥
    no h =
        let above = (are.each k r e).above in
        let t = tops k r e in
        let u = there ws (1024 * r.page) t.0 t.1 in
        let top : top_at ws (1024 * r.page) ≡ r.old = said ws (1024 * r.page) t.0 u.1 ∙ ap top_said t.2 in
        let page : 1024 * (a / 1024) ≡ 1024 * r.page = omega arith in
        ⊎_elim (λ (z : a % 1024 ≡ 0). omega arith)
        (λ (l : a < top_at ws (1024 * (a / 1024))). let m : a < top_at ws (1024 * r.page) = subst (λ (b : ℕ). a < top_at ws b) page l in
        omega arith) (inside_then ws a h).1

-- What a write replaces: a word that is neither final nor a top, the top of a room that rises, or nothing, in a taken word.
pub data Replaces (rooms : List Room) (w : Words) (a y : ℕ) : Type 0 where
  a_cell : (c : Cell) → At w a c → is_final_cell c ≡ false → top_said (Some c) ≡ 0 → Replaces rooms w a y
  a_top : (k : ℕ) (r : Room) → slice_get rooms k ≡ Some r → r.old < r.top → a ≡ 1024 * r.page → At w a (Top r.old) → Replaces rooms w a y
  nothing : (k : ℕ) (r : Room) → slice_get rooms k ≡ Some r → r.old ≤ a → a < r.top → Replaces rooms w a y

module _ (ws : List ℕ) (rooms : List Room) (xs : WordList) (heap : IsHeap ws) (are : AreRooms rooms)
    (tops : AreTops rooms (inside_at ws)) (apart : AreApart xs)
    (replaces : (a y : ℕ) → Among xs (a, y) → Replaces rooms (inside_at ws) a y)
    (put : (k : ℕ) (r : Room) → slice_get rooms k ≡ Some r → r.old < r.top → Among xs (1024 * r.page, encoded (Top r.top)))
    (filled : (k t : ℕ) (r : Room) → slice_get rooms k ≡ Some r → r.old ≤ t → t < r.top → (x : ℕ) × Among xs (t, x)) where
  abbrev after : List ℕ
  after = applied ws xs

  -- a page begins with its top
  no_top : (q : ℕ) (c : Cell) → At (inside_at ws) (1024 * q) c → top_said (Some c) ≡ 0 → ⊥
  no_top q c h z =
      let r = there ws (1024 * q) h.0 h.1 in
      let up = heap.above q (inside_below ws (1024 * q) r.0) in
      let e : top_at ws (1024 * q) ≡ 0 = said ws (1024 * q) h.0 r.1 ∙ ap top_said h.2 ∙ z in
      omega arith

  room_there : (k : ℕ) (r : Room) → slice_get rooms k ≡ Some r → (1024 * r.page < length ws) × (top_at ws (1024 * r.page) ≡ r.old)
  room_there k r e =
      let t = tops k r e in
      let h = there ws (1024 * r.page) t.0 t.1 in
      (inside_below ws (1024 * r.page) h.0, said ws (1024 * r.page) t.0 h.1 ∙ ap top_said t.2)

  room_after : (k : ℕ) (r : Room) → slice_get rooms k ≡ Some r → r.old < r.top → top_at (applied ws xs) (1024 * r.page) ≡ r.top
  room_after k r e lt =
      let w : word_at xs (1024 * r.page) ≡ Some (encoded (Top r.top)) =
      apart_word xs (1024 * r.page) (encoded (Top r.top)) apart (put k r e lt) in
      let room = are.each k r e in
      said (applied ws xs) (1024 * r.page) (encoded (Top r.top))
      (get_same ws xs (1024 * r.page) (encoded (Top r.top)) apart (room_there k r e).0 w)
      ∙ ap top_said (decoded_encoded (Top r.top) (let a = room.within in let b = room.small in omega arith))

  abbrev Rises : ℕ → Type 0
  Rises q = (k : ℕ) × (r : Room) × (slice_get rooms k ≡ Some r) × (r.old < r.top) × (q ≡ r.page)

  -- how a top stands afterwards
  top_after : (q : ℕ) → (top_at (applied ws xs) (1024 * q) ≡ top_at ws (1024 * q)) ⊎ Rises q
  top_after q = go (word_at xs (1024 * q)) refl
    where
      by : (y : ℕ) → Replaces rooms (inside_at ws) (1024 * q) y → (top_at (applied ws xs) (1024 * q) ≡ top_at ws (1024 * q)) ⊎ Rises q
      by y (a_cell c h f z) = absurd (no_top q c h z)
      by y (a_top k r e lt a h) = inr (k, r, e, lt, (omega arith))
      by y (nothing k r e lo hi) = let room = are.each k r e in let a = room.above in let b = room.within in absurd (omega arith)

      go : (o : Option ℕ) → word_at xs (1024 * q) ≡ o → (top_at (applied ws xs) (1024 * q) ≡ top_at ws (1024 * q)) ⊎ Rises q
      go None e = inl (ap (λ (o : Option ℕ). top_said (option_and_then decoded o)) (get_other ws xs (1024 * q) e))
      go (Some y) e = by y (replaces (1024 * q) y (word_among xs (1024 * q) y e))

  rises : (q : ℕ) → top_at ws (1024 * q) ≤ top_at (applied ws xs) (1024 * q)
  rises q = ⊎_elim (λ (e : top_at (applied ws xs) (1024 * q) ≡ top_at ws (1024 * q)). omega arith)
      (λ (h : Rises q).
      let a = room_after h.0 h.1 h.2 h.3 in
      let b = (room_there h.0 h.1 h.2).1 in
      let lt = h.3 in
      subst (λ (v : ℕ). top_at ws (1024 * v) ≤ top_at (applied ws xs) (1024 * v)) (sym h.4) (omega arith)) (top_after q)

  within : (q : ℕ) → 1024 * q < length ws → top_at (applied ws xs) (1024 * q) ≤ 1024 * q + 1024
  within q lt = ⊎_elim (λ (e : top_at (applied ws xs) (1024 * q) ≡ top_at ws (1024 * q)). let h = heap.within q lt in omega arith)
      (λ (h : Rises q).
      let a = room_after h.0 h.1 h.2 h.3 in
      let b = (are.each h.0 h.1 h.2).within in
      subst (λ (v : ℕ). top_at (applied ws xs) (1024 * v) ≤ 1024 * v + 1024) (sym h.4) (omega arith)) (top_after q)

  stays : (a : ℕ) → is_inside ws a ≡ true → is_inside (applied ws xs) a ≡ true
  stays a h =
      let r = inside_then ws a h in
      inside_if (applied ws xs) a (subst (λ (m : ℕ). a < m) (sym (length_same ws xs)) r.0)
      (⊎_elim (λ (e : a % 1024 ≡ 0). inl e) (λ (l : a < top_at ws (1024 * (a / 1024))). inr (let u = rises (a / 1024) in omega arith)) r.1)

  page_below : (k a : ℕ) (r : Room) → slice_get rooms k ≡ Some r → a < 1024 * r.page + 1024 → a < length ws
  page_below k a r e lt = let h = (room_there k r e).0 in let w = heap.whole in omega arith

  inner : (a k : ℕ) (r : Room) → slice_get rooms k ≡ Some r → r.old ≤ a → a < r.top → is_inside (applied ws xs) a ≡ true
  inner a k r e lo hi =
      let room = are.each k r e in
      let x = room.above in
      let y = room.within in
      let same : 1024 * r.page ≡ 1024 * (a / 1024) = omega arith in
      let u = room_after k r e (omega arith) in
      inside_if (applied ws xs) a (subst (λ (m : ℕ). a < m) (sym (length_same ws xs)) (page_below k a r e (omega arith)))
      (inr (subst (λ (b : ℕ). a < top_at (applied ws xs) b) same (omega arith)))

  at_range : (a : ℕ) (c : Cell) → At (inside_at ws) a c → is_inside ws a ≡ true
  at_range a c h = (there ws a h.0 h.1).0

  range : (a x : ℕ) → Replaces rooms (inside_at ws) a x → a < length ws
  range a x (a_cell c h f z) = inside_below ws a (at_range a c h)
  range a x (a_top k r e lt b h) = inside_below ws a (at_range a _ h)
  range a x (nothing k r e lo hi) = page_below k a r e (let y = (are.each k r e).within in omega arith)

  below : (a x : ℕ) → Replaces rooms (inside_at ws) a x → is_inside (applied ws xs) a ≡ true
  below a x (a_cell c h f z) = stays a (at_range a c h)
  below a x (a_top k r e lt b h) = stays a (at_range a _ h)
  below a x (nothing k r e lo hi) = inner a k r e lo hi

  soft_at : (a y : ℕ) (c : Cell) → inside_at ws a ≡ Some y → At (inside_at ws) a c → is_final_cell c ≡ false → is_final_word y ≡ false
  soft_at a y c e h f = ap is_final_in (ap decoded (same_Some y h.0 (sym e ∙ h.1)) ∙ h.2) ∙ f

  soft : (a x y : ℕ) → inside_at ws a ≡ Some y → Replaces rooms (inside_at ws) a x → is_final_word y ≡ false
  soft a x y e (a_cell c h f z) = soft_at a y c e h f
  soft a x y e (a_top k r g lt b h) = soft_at a y _ e h refl
  soft a x y e (nothing k r g lo hi) =
      let room = are.each k r g in
      let hi' : a < 1024 * r.page + 1024 = (let b = room.within in omega arith) in
      let bad : None ≡ Some y = sym (tops_free ws rooms are tops k a r g lo hi') ∙ e in cc

  abbrev Filled : ℕ → Type 0
  Filled a = (is_inside ws a ≡ true) ⊎ ((x : ℕ) × Among xs (a, x))

  by_room : (a : ℕ) → a < length ws → Rises (a / 1024) → a < top_at (applied ws xs) (1024 * (a / 1024)) → Filled a
  by_room a lt h l =
      let r = h.1 in
      let hi : a < r.top =
      (let u = room_after h.0 r h.2 h.3 in
      let v : top_at (applied ws xs) (1024 * (a / 1024)) ≡ top_at (applied ws xs) (1024 * r.page) =
      ap (λ (b : ℕ). top_at (applied ws xs) (1024 * b)) h.4 in omega arith) in
      let o : top_at ws (1024 * (a / 1024)) ≡ r.old = ap (λ (b : ℕ). top_at ws (1024 * b)) h.4 ∙ (room_there h.0 r h.2).1 in
      ⊎_elim (λ (lo : a < r.old). inl (inside_if ws a lt (inr (omega arith)))) (λ (lo : r.old ≤ a). inr (filled h.0 a r h.2 lo hi))
      (cases_lt a r.old)

  fills : (a : ℕ) → is_inside (applied ws xs) a ≡ true → Filled a
  fills a h =
      let r = inside_then (applied ws xs) a h in
      let lt : a < length ws = subst (λ (m : ℕ). a < m) (length_same ws xs) r.0 in
      ⊎_elim (λ (e : a % 1024 ≡ 0). inl (inside_if ws a lt (inl e)))
      (λ (l : a < top_at (applied ws xs) (1024 * (a / 1024))). ⊎_elim
      (λ (e : top_at (applied ws xs) (1024 * (a / 1024)) ≡ top_at ws (1024 * (a / 1024))). inl (inside_if ws a lt (inr (omega arith))))
      (λ (g : Rises (a / 1024)). by_room a lt g l) (top_after (a / 1024))) r.1

  pub may_write : MayWrite ws xs
  may_write = record {
    distinct = apart;
    ranges = λ a x h. range a x (replaces a x h);
    soft = λ a x y h e. soft a x y e (replaces a x h);
    below = λ a x h. below a x (replaces a x h);
    rises = rises;
    within = within;
    fills = fills;
  }
