-- An entry that may be stamped.
use Rattle.std.proofs.Common.{◌≡◌, ◌⊎◌, ℕ, ◌+◌, ◌*◌, ◌/◌, ◌<◌, ◌≤◌, Bool, true, false, cond, List, [], ◌∷◌}
use Rattle.std.proofs.Common.{map, Option, Some, drop, length, get_or}
use Rattle.std.proofs.Common.{refl, sym, ap, ◌∙◌, subst, ⊎_elim, inl, inr, arith, true≢false}
use Rattle.std.specs.Prelude.{not, filter}
use Rattle.std.proofs.lemmas.Bool.{cases_Bool, cases_eq, not-true}
use Rattle.heap_words.specs.Cells.{decoded, is_final_word, is_final_in}
use Rattle.heap_words.specs.Trails.{WordList}
use Rattle.heap_words.specs.declared.cell.Cell.TheVariants.{Top}
use Rattle.word_states.specs.Words.{Among, IsIn}
use Rattle.page_layout.specs.declared.written.Written.{Written}
use Rattle.page_layout.specs.Writing.{written}
use Rattle.word_moves.specs.declared.word_move.WordMove.{WordMove}
use Rattle.commit_engine.specs.Halls.{MayStamp, writes_of}
use Rattle.commit_engine.specs.Holding.{pages_of, Keeps, IsOpen, IsNew}
use Rattle.commit_engine.specs.Takes.{IsNeeded}
use Rattle.commit_engine.specs.Making.{IsEntry, AreThere, IsAbove}
use Rattle.commit_engine.proofs.SecondLooks.{in_first, in_none}
use Rattle.commit_engine.proofs.NewPlaces.{in_left, in_right, in_either}

abbrev page_of_write : Written → ℕ
page_of_write w = w.addr / 1024

abbrev page_of_read : ℕ × ℕ → ℕ
page_of_read r = r.0 / 1024

abbrev may_change : ℕ × ℕ → Bool
may_change r = not (is_final_word r.1)

in_written : (n : ℕ) (ws : List Written) (a x : ℕ) → Among (written n ws) (a, x) → IsIn (a / 1024) (map page_of_write ws)
in_written n [] a x h = absurd h
in_written n (w ∷ ws) a x (inl e) = inl (ap (λ (z : ℕ × ℕ). z.0 / 1024) e)
in_written n (w ∷ ws) a x (inr h) = inr (in_written n ws a x h)

in_read : (rs : WordList) (a x : ℕ) → Among rs (a, x) → is_final_word x ≡ false → IsIn (a / 1024) (map page_of_read (filter may_change rs))
in_read [] a x h f = absurd h
in_read (r ∷ rs) a x h f = go (may_change r) refl h (λ k. in_read rs a x k f)
  where
    go : (b : Bool) → may_change r ≡ b → (r ≡ (a, x)) ⊎ Among rs (a, x)
        → (Among rs (a, x) → IsIn (a / 1024) (map page_of_read (filter may_change rs)))
        → IsIn (a / 1024) (map page_of_read (cond b (r ∷ filter may_change rs) (filter may_change rs)))
    go true e (inl k) more = inl (ap (λ (z : ℕ × ℕ). z.0 / 1024) k)
    go true e (inr k) more = inr (more k)
    go false e (inl k) more =
        let s : not (is_final_word r.1) ≡ true = ap (λ (z : ℕ × ℕ). not (is_final_word z.1)) k ∙ ap not f in
        absurd (true≢false (sym s ∙ e))
    go false e (inr k) more = more k

written_in : (n : ℕ) (ws : List Written) (p : ℕ) → IsIn p (map page_of_write ws) → (a x : ℕ) × Among (written n ws) (a, x) × (a / 1024 ≡ p)
written_in n [] p h = absurd h
written_in n (w ∷ ws) p (inl e) = (w.addr, w.word + w.step * n, inl refl, e)
written_in n (w ∷ ws) p (inr h) = let r = written_in n ws p h in (r.0, r.1, inr r.2, r.3)

-- a word of these that is not final is of the page
abbrev ReadThere : WordList → ℕ → Type 0
ReadThere rs p = (a x : ℕ) × Among rs (a, x) × (is_final_word x ≡ false) × (a / 1024 ≡ p)

read_in : (rs : WordList) (p : ℕ) → IsIn p (map page_of_read (filter may_change rs)) → ReadThere rs p
read_in [] p h = absurd h
read_in (r ∷ rs) p h = go (may_change r) refl h (λ k. read_in rs p k)
  where
    go : (b : Bool) → may_change r ≡ b → IsIn p (map page_of_read (cond b (r ∷ filter may_change rs) (filter may_change rs)))
        → (IsIn p (map page_of_read (filter may_change rs)) → ReadThere rs p) → ReadThere (r ∷ rs) p
    go true e (inl k) more = (r.0, r.1, inl refl, not-true (is_final_word r.1) e, k)
    go true e (inr k) more = let s = more k in (s.0, s.1, inr s.2, s.3, s.4)
    go false e k more = let s = more k in (s.0, s.1, inr s.2, s.3, s.4)

pub read_needed : (e : WordMove) (pages places : List ℕ) → IsEntry e pages places → (a x : ℕ) → Among e.reads.items (a, x)
    → is_final_word x ≡ false → IsIn (a / 1024) pages
read_needed e pages places entry a x h f =
    subst (λ (k : List ℕ). IsIn (a / 1024) k) (sym entry.pages_are)
    (in_right (a / 1024) (map page_of_write e.writes.items) (map page_of_read (filter may_change e.reads.items))
    (in_read e.reads.items a x h f))

-- each page of an entry is needed
pub is_needed : (e : WordMove) (n p : ℕ) → IsIn p (pages_of e.reads.items e.writes.items) → IsNeeded e n p
is_needed e n p h =
    ⊎_elim (λ (k : IsIn p (map page_of_write e.writes.items)). inl (written_in n e.writes.items p k))
    (λ (k : IsIn p (map page_of_read (filter may_change e.reads.items))). inr (read_in e.reads.items p k))
    (in_either p (map page_of_write e.writes.items) (map page_of_read (filter may_change e.reads.items)) h)

top_changes : (x t : ℕ) → decoded x ≡ Some (Top t) → is_final_word x ≡ false
top_changes x t e = ap is_final_in e

module _ (count : ℕ) (holds : ℕ → Bool) (stands : ℕ → ℕ → Type 0) (shown : ℕ → Option ℕ) (e : WordMove) (pages places : List ℕ)
    (entry : IsEntry e pages places) (keeps : Keeps holds pages 0 count) (there : AreThere count stands shown e.reads.items) where
  held_read : (a x : ℕ) → Among e.reads.items (a, x) → is_final_word x ≡ false → holds (a / 1024) ≡ true
  held_read a x h f = keeps.held (a / 1024) (read_needed e pages places entry a x h f) (omega arith) (there.low a x h)

  new_low : (a : ℕ) → IsNew e.reads.items a → a / 1024 < count
  new_low a k = let m : (1024 * (a / 1024)) / 1024 < count = there.low (1024 * (a / 1024)) k.0 k.2 in omega arith

  write_low : (n a x : ℕ) → Among (writes_of e n) (a, x) → a / 1024 < count
  write_low n a x h =
      ⊎_elim (λ (k : IsOpen e.reads.items a). there.low a k.0 k.1) (λ (k : IsIn a places). new_low a (entry.placed.above a k))
      (entry.placed.each n a x h)

  held_write : (n a x : ℕ) → Among (writes_of e n) (a, x) → holds (a / 1024) ≡ true
  held_write n a x h =
      keeps.held (a / 1024)
      (subst (λ (k : List ℕ). IsIn (a / 1024) k) (sym entry.pages_are)
      (in_left (a / 1024) (map page_of_write e.writes.items) (map page_of_read (filter may_change e.reads.items))
      (in_written n e.writes.items a x h))) (omega arith) (write_low n a x h)

  -- a new place is of a page that is held, and above its top
  pub held_new : (a : ℕ) → IsIn a places → holds (a / 1024) ≡ true
  held_new a i =
      let k = entry.placed.above a i in
      let m : (1024 * (a / 1024)) / 1024 ≡ a / 1024 = omega arith in
      subst (λ (p : ℕ). holds p ≡ true) m (held_read (1024 * (a / 1024)) k.0 k.2 (top_changes k.0 k.1 k.3))

  pub above_new : (a : ℕ) → IsIn a places → IsAbove stands a
  above_new a i =
      let k = entry.placed.above a i in
      (k.0, k.1, there.opens (1024 * (a / 1024)) k.0 k.2 (top_changes k.0 k.1 k.3), k.3, k.4)

  -- once its new places were primed, it may be stamped
  pub may_stamp : (holds' : ℕ → Bool) (stands' primed : ℕ → ℕ → Type 0) (shown' : ℕ → Option ℕ) (count' : ℕ) → count' ≡ count
      → ((p : ℕ) → holds' p ≡ holds p) → ((a x : ℕ) → stands a x → stands' a x) → ((a x : ℕ) → shown a ≡ Some x → shown' a ≡ Some x)
      → ((a : ℕ) → IsIn a places → primed a 0) → MayStamp count' holds' stands' primed shown' e
  may_stamp holds' stands' primed shown' count' c hs st sh pr = record {
    reads = λ a x h.
        ⊎_elim (λ (f : is_final_word x ≡ true). inr (f, sh a x (there.finals a x h f)))
        (λ (f : is_final_word x ≡ false). inl (st a x (there.opens a x h f))) (cases_Bool (is_final_word x));
    held_reads = λ a x h f. hs (a / 1024) ∙ held_read a x h f;
    held_writes = λ n a x h. hs (a / 1024) ∙ held_write n a x h;
    sound = entry.is_sound;
    writes = λ n ws small heap len at final. entry.may n ws small heap (λ a x h.
        ⊎_elim (λ (f : is_final_word x ≡ true). final a x (sh a x (there.finals a x h f)))
        (λ (f : is_final_word x ≡ false). at a x (st a x (there.opens a x h f))) (cases_Bool (is_final_word x)));
    primed_new = λ n a x h.
        ⊎_elim (λ (k : IsOpen e.reads.items a). inl (k.0, st a k.0 (there.opens a k.0 k.1 k.2)))
        (λ (k : IsIn a places). inr (inr (pr a k))) (entry.placed.each n a x h);
  }

-- the new places that are primed so far
pub primed_more : (before now : ℕ → ℕ → Type 0) (xs : List ℕ) (i : ℕ) → i < length xs
    → ((a : ℕ) → IsIn a xs → before a 0 ⊎ IsIn a (drop i xs)) → now (get_or xs i 0) 0
    → ((a x : ℕ) → (a ≡ get_or xs i 0 → ⊥) → before a x → now a x)
    → (a : ℕ) → IsIn a xs → now a 0 ⊎ IsIn a (drop (i + 1) xs)
primed_more before now xs i lt done here others a h =
    ⊎_elim (λ (e : a ≡ get_or xs i 0). inl (subst (λ (b : ℕ). now b 0) (sym e) here))
    (λ (ne : a ≡ get_or xs i 0 → ⊥).
    ⊎_elim (λ (k : before a 0). inl (others a 0 ne k))
    (λ (k : IsIn a (drop i xs)).
    ⊎_elim (λ (e : get_or xs i 0 ≡ a). absurd (ne (sym e))) (λ (m : IsIn a (drop (i + 1) xs)). inr m) (in_first xs i a lt k))
    (done a h)) (cases_eq a (get_or xs i 0))

pub primed_all : (now : ℕ → ℕ → Type 0) (xs : List ℕ) (i : ℕ) → length xs ≤ i
    → ((a : ℕ) → IsIn a xs → now a 0 ⊎ IsIn a (drop i xs)) → (a : ℕ) → IsIn a xs → now a 0
primed_all now xs i le done a h =
    ⊎_elim (λ (k : now a 0). k) (λ (k : IsIn a (drop i xs)). absurd (in_none xs i a le k)) (done a h)
