-- More pages are looked at.
use Rattle.std.proofs.Common.{◌≡◌, ℕ, zero, suc, ◌+◌, ◌*◌, ◌<◌, ◌≤◌, List, [], ◌∷◌, ◌++◌, length, set, slice_get, get_or, refl}
use Rattle.std.proofs.Common.{sym, ap, ◌∙◌}
use Rattle.std.proofs.Common.{subst, ⊎_elim, inl, inr, arith, Some, None}
use Rattle.std.proofs.lemmas.Option.{same_Some, slice_get_within}
use Rattle.std.proofs.lemmas.Bool.{cases_lt}
use Rattle.heap_words.specs.Cells.{decoded}
use Rattle.heap_words.specs.Trails.{WordList, word_at}
use Rattle.heap_words.specs.declared.cell.Cell.TheVariants.{Top}
use Rattle.word_states.specs.Words.{Words, At}
use Rattle.suspension_lists.specs.Waking.{Within}
use Rattle.page_layout.specs.declared.rooms.Room.{Room}
use Rattle.page_layout.specs.Laying.{run, IsRoom}
use Rattle.page_layout.specs.Openings.{AreTops}
use Rattle.page_layout.specs.Looking.{IsTopOf, WasLooked, Rise, AreOpened, AllLack, FirstWith, Looked}
use Rattle.page_layout.proofs.Filling.{get_left, get_right, get_either, set_either, room_more}
use Rattle.page_layout.proofs.Fitting.{filled, free_top, free_room}

pub run_more : (a n : ℕ) → run a (n + 1) ≡ run a n ++ (a + n) ∷ []
run_more a n = ap (run a) (let e : n + 1 ≡ suc n = omega arith in e) ∙ go a n
  where
    go : (a n : ℕ) → run a (suc n) ≡ run a n ++ (a + n) ∷ []
    go a zero = ap (λ (b : ℕ). b ∷ []) (let e : a ≡ a + 0 = omega arith in e)
    go a (suc n) = ap (λ (l : List ℕ). a ∷ l)
        (go (suc a) n ∙ ap (λ (b : ℕ). run (suc a) n ++ b ∷ []) (let e : suc a + n ≡ a + suc n = omega arith in e))

-- what was put last stands at the position that was the length
pub last_there : (rooms : List Room) (r : Room) → slice_get (rooms ++ r ∷ []) (length rooms) ≡ Some r
last_there rooms r =
    ap (slice_get (rooms ++ r ∷ [])) (let e : length rooms ≡ length rooms + 0 = omega arith in e) ∙ get_right rooms (r ∷ []) 0

-- the tops of rooms stand among more words too
pub tops_on : (rooms : List Room) (v w : Words) → Within v w → AreTops rooms v → AreTops rooms w
tops_on rooms v w in' tops k r e = let t = tops k r e in (t.0, in' (1024 * r.page) t.0 t.1, t.2)

-- a page that was looked at stays so
pub was_looked_on : (kept kept' : WordList) (rooms rooms' : List Room) (p : ℕ) → Within (word_at kept) (word_at kept')
    → ((k : ℕ) (r : Room) → slice_get rooms k ≡ Some r → slice_get rooms' k ≡ Some r) → WasLooked kept rooms p → WasLooked kept' rooms' p
was_looked_on kept kept' rooms rooms' p grows stay l =
    ⊎_elim (λ h. inl (h.0, h.1, stay h.0 h.1 h.2, h.3)) (λ h. inr (h.0, grows (1024 * p) h.0 h.1, h.2)) l

-- and the pages before it
pages_next : (kept kept' : WordList) (rooms rooms' : List Room) (next : ℕ) → Within (word_at kept) (word_at kept')
    → ((k : ℕ) (r : Room) → slice_get rooms k ≡ Some r → slice_get rooms' k ≡ Some r) → WasLooked kept' rooms' next
    → (from : ℕ) → ((p : ℕ) → from ≤ p → p < next → WasLooked kept rooms p) → (p : ℕ) → from ≤ p → p < next + 1
    → WasLooked kept' rooms' p
pages_next kept kept' rooms rooms' next grows stay here from before p lo hi = ⊎_elim
    (λ (lt : p < next). was_looked_on kept kept' rooms rooms' p grows stay (before p lo lt))
    (λ (ge : next ≤ p). subst (λ (q : ℕ). WasLooked kept' rooms' q) (let e : next ≡ p = omega arith in e) here) (cases_lt p next)

pub looked_still : (kept : WordList) (rooms : List Room) (next : ℕ) → ((k : ℕ) (r : Room) → slice_get rooms k ≡ Some r → IsRoom r)
    → ((k : ℕ) (r : Room) → slice_get rooms k ≡ Some r → r.page < next) → Looked kept rooms next kept rooms next
looked_still kept rooms next each below = record {
  further = omega arith;
  opened = λ from lo are. are;
  pages = λ from before. before;
  each = each;
  below = below;
  laid = λ table sizes l. l;
  free = λ w has p. refl;
}

-- a page that does not begin with a top of it
pub looked_none : (kept kept' : WordList) (rooms : List Room) (next x : ℕ) → Within (word_at kept) (word_at kept')
    → ((k : ℕ) (r : Room) → slice_get rooms k ≡ Some r → IsRoom r) → ((k : ℕ) (r : Room) → slice_get rooms k ≡ Some r → r.page < next)
    → word_at kept' (1024 * next) ≡ Some x → (IsTopOf next (decoded x) → ⊥) → Looked kept rooms next kept' rooms (next + 1)
looked_none kept kept' rooms next x grows each below at none = record {
  further = omega arith;
  opened = λ from lo are. record {
    each = are.each;
    range = λ k r e. (let h = are.range k r e in (h.0, (let l = h.1 in omega arith)));
    rise = are.rise;
    tops = tops_on rooms (word_at kept) (word_at kept') grows are.tops;
  };
  pages = pages_next kept kept' rooms rooms next grows (λ k r e. e) (inr (x, at, none));
  each = each;
  below = λ k r e. (let h = below k r e in omega arith);
  laid = λ table sizes l. l;
  free = λ w has p. refl;
}

only_room : (j : ℕ) (r q : Room) → slice_get (r ∷ []) j ≡ Some q → (j ≡ 0) × (r ≡ q)
only_room zero r q e = (refl, same_Some r q e)
only_room (suc j) r q e = let bad : None ≡ Some q = e in cc

-- one that does
module _ (kept kept' : WordList) (rooms : List Room) (next x : ℕ) (r : Room) (grows : Within (word_at kept) (word_at kept'))
    (each : (k : ℕ) (q : Room) → slice_get rooms k ≡ Some q → IsRoom q)
    (below : (k : ℕ) (q : Room) → slice_get rooms k ≡ Some q → q.page < next) (at : word_at kept' (1024 * next) ≡ Some x)
    (is : IsRoom r) (page : r.page ≡ next) (none : r.old ≡ r.top) (says : decoded x ≡ Some (Top r.old)) where
  stay : (k : ℕ) (q : Room) → slice_get rooms k ≡ Some q → slice_get (rooms ++ r ∷ []) k ≡ Some q
  stay k q e = get_left rooms (r ∷ []) k (slice_get_within rooms k q e) ∙ e

  -- what holds of the rooms and of the new one holds of all
  of_all : (P : Room → Type 0) → ((k : ℕ) (q : Room) → slice_get rooms k ≡ Some q → P q) → P r → (k : ℕ) (q : Room)
      → slice_get (rooms ++ r ∷ []) k ≡ Some q → P q
  of_all P old new k q e = ⊎_elim (λ (h : slice_get rooms k ≡ Some q). old k q h)
      (λ (h : (j : ℕ) × (k ≡ length rooms + j) × (slice_get (r ∷ []) j ≡ Some q)). subst P (only_room h.0 r q h.2).1 new)
      (get_either rooms (r ∷ []) k q e)

  rises : Rise rooms → Rise (rooms ++ r ∷ [])
  rises up j k q s l e f = ⊎_elim
      (λ (h : slice_get rooms k ≡ Some s).
      let lt = slice_get_within rooms k s h in
      up j k q s l (sym (get_left rooms (r ∷ []) j (omega arith)) ∙ e) h)
      (λ (h : (i : ℕ) × (k ≡ length rooms + i) × (slice_get (r ∷ []) i ≡ Some s)).
      let o = only_room h.0 r s h.2 in
      let z = o.0 in
      let at' = h.1 in
      let b = below j q (sym (get_left rooms (r ∷ []) j (omega arith)) ∙ e) in
      let v : r.page ≡ s.page = ap (λ (y : Room). y.page) o.1 in omega arith)
      (get_either rooms (r ∷ []) k s f)

  word_kept : word_at kept' (1024 * r.page) ≡ Some x
  word_kept = ap (λ (p : ℕ). word_at kept' (1024 * p)) page ∙ at

  pub looked_room : Looked kept rooms next kept' (rooms ++ r ∷ []) (next + 1)
  looked_room = record {
    further = omega arith;
    opened = λ from lo are. record {
      each = of_all IsRoom each is;
      range = of_all (λ (q : Room). (from ≤ q.page) × (q.page < next + 1))
          (λ k q e. (let h = are.range k q e in (h.0, (let l = h.1 in omega arith)))) ((omega arith), (omega arith));
      rise = rises are.rise;
      tops = of_all (λ (q : Room). At (word_at kept') (1024 * q.page) (Top q.old))
          (tops_on rooms (word_at kept) (word_at kept') grows are.tops) (x, word_kept, says);
    };
    pages = pages_next kept kept' rooms (rooms ++ r ∷ []) next grows stay (inl (length rooms, r, last_there rooms r, page));
    each = of_all IsRoom each is;
    below = of_all (λ (q : Room). q.page < next + 1) (λ k q e. (let h = below k q e in omega arith)) (omega arith);
    laid = λ table ns l. room_more rooms table ns r l is none (λ k q e h. let b = below k q e in absurd (omega arith));
    free = λ w has p. free_room w rooms r p
        (free_top w r.page r.old (x, has (1024 * r.page) x word_kept, says) is.above (let a = is.rises in let b = is.within in omega arith)
        ∙ none);
  }

-- one look after another
pub looked_twice : {kept kept' kept'' : WordList} {rooms rooms' rooms'' : List Room} {next mid end : ℕ}
    → Within (word_at kept') (word_at kept'') → Looked kept rooms next kept' rooms' mid → Looked kept' rooms' mid kept'' rooms'' end
    → Looked kept rooms next kept'' rooms'' end
looked_twice grows l k = record {
  further = let a = l.further in let b = k.further in omega arith;
  opened = λ from lo are. k.opened from (let a = l.further in omega arith) (l.opened from lo are);
  pages = λ from before. k.pages from (l.pages from before);
  each = k.each;
  below = k.below;
  laid = λ table sizes i. k.laid table sizes (l.laid table sizes i);
  free = λ w has p. k.free w has p ∙ l.free w (λ a x e. has a x (grows a x e)) p;
}

-- a room that is filled is still one of that page
pub set_page : (rooms : List Room) (k j : ℕ) (v r q : Room) → slice_get rooms k ≡ Some r → v.page ≡ r.page → slice_get rooms j ≡ Some q
    → (i : ℕ) × (s : Room) × (slice_get (set rooms k v) i ≡ Some s) × (s.page ≡ q.page)
set_page [] k j v r q at page e = let bad : None ≡ Some q = e in cc
set_page (x ∷ xs) zero zero v r q at page e =
    (0, v, refl, page ∙ ap (λ (z : Room). z.page) (same_Some r q (sym at ∙ e)))
set_page (x ∷ xs) zero (suc j) v r q at page e = (suc j, q, e, refl)
set_page (x ∷ xs) (suc k) zero v r q at page e = (0, q, e, refl)
set_page (x ∷ xs) (suc k) (suc j) v r q at page e =
    let h = set_page xs k j v r q at page e in (suc h.0, h.1, h.2, h.3)

-- pages that were looked at are so after a room of them is filled
pub looked_filled : (kept : WordList) (rooms : List Room) (k n : ℕ) (r : Room) (p : ℕ) → slice_get rooms k ≡ Some r
    → WasLooked kept rooms p → WasLooked kept (set rooms k (filled r n)) p
looked_filled kept rooms k n r p at l = ⊎_elim
    (λ h. let i = set_page rooms k h.0 (filled r n) r h.1 at refl h.2 in inl (i.0, i.1, i.2, i.3 ∙ h.3)) (λ h. inr h) l

-- one room more that lacks words too
pub lack_more : (rooms : List Room) (r : Room) (need : ℕ) → AllLack rooms need → 1024 * r.page + 1024 < r.top + need
    → AllLack (rooms ++ r ∷ []) need
lack_more rooms r need all lack k q e = ⊎_elim (λ (h : slice_get rooms k ≡ Some q). all k q h)
    (λ (h : (j : ℕ) × (k ≡ length rooms + j) × (slice_get (r ∷ []) j ≡ Some q)).
    subst (λ (z : Room). 1024 * z.page + 1024 < z.top + need) (only h.0 q h.2) lack) (get_either rooms (r ∷ []) k q e)
  where
    only : (j : ℕ) (q : Room) → slice_get (r ∷ []) j ≡ Some q → r ≡ q
    only zero q e = same_Some r q e
    only (suc j) q e = let bad : None ≡ Some q = e in cc

-- more pages may follow
pub opened_wider : (kept : WordList) (rooms : List Room) (from mid end : ℕ) → mid ≤ end → AreOpened kept rooms from mid
    → AreOpened kept rooms from end
opened_wider kept rooms from mid end le are = record {
  each = are.each;
  range = λ k r e. (let h = are.range k r e in (h.0, (let l = h.1 in omega arith)));
  rise = are.rise;
  tops = are.tops;
}

-- each room of those after one is filled stands in the place of one with its page and its top
was_there : (rooms : List Room) (k n : ℕ) (r : Room) → slice_get rooms k ≡ Some r → (j : ℕ) (q : Room)
    → slice_get (set rooms k (filled r n)) j ≡ Some q → (s : Room) × (slice_get rooms j ≡ Some s) × (s.page ≡ q.page) × (s.old ≡ q.old)
was_there rooms k n r at j q e = ⊎_elim
    (λ (h : (j ≡ k) × (q ≡ filled r n)).
    (r, ap (slice_get rooms) h.0 ∙ at, ap (λ (x : Room). x.page) (sym h.1), ap (λ (x : Room). x.old) (sym h.1)))
    (λ (h : (j ≡ k → ⊥) × (slice_get rooms j ≡ Some q)). (q, h.1, refl, refl)) (set_either rooms k j (filled r n) q e)

pub opened_filled : (kept : WordList) (rooms : List Room) (from end k n : ℕ) (r : Room) → AreOpened kept rooms from end
    → slice_get rooms k ≡ Some r → ((j : ℕ) (q : Room) → slice_get (set rooms k (filled r n)) j ≡ Some q → IsRoom q)
    → AreOpened kept (set rooms k (filled r n)) from end
opened_filled kept rooms from end k n r are at each = record {
  each = each;
  range = λ j q e. (let s = was_there rooms k n r at j q e in
      subst (λ (p : ℕ). (from ≤ p) × (p < end)) s.2 (are.range j s.0 s.1));
  rise = λ i j q s l e f. (let u = was_there rooms k n r at i q e in let v = was_there rooms k n r at j s f in
      let h = are.rise i j u.0 v.0 l u.1 v.1 in let a = u.2 in let b = v.2 in omega arith);
  tops = λ j q e. (let s = was_there rooms k n r at j q e in
      subst (λ (p : ℕ). At (word_at kept) (1024 * p) (Top q.old)) s.2
      (subst (λ (t : ℕ). At (word_at kept) (1024 * s.0.page) (Top t)) s.3 (are.tops j s.0 s.1)));
}

-- the room that was put last is the first with so many free words, where the others lack them
pub last_with : (rooms : List Room) (r : Room) (need : ℕ) → r.top + need ≤ 1024 * r.page + 1024 → AllLack rooms need
    → FirstWith (rooms ++ r ∷ []) need (length rooms)
last_with rooms r need fits all =
    (r, last_there rooms r, fits, λ j q l e. all j q (sym (get_left rooms (r ∷ []) j l) ∙ e))

-- the room that was found is the one at its position
pub found_fits : (rooms : List Room) (k need : ℕ) (r : Room) → FirstWith rooms need k → slice_get rooms k ≡ Some r
    → r.top + need ≤ 1024 * r.page + 1024
found_fits rooms k need r f e =
    subst (λ (q : Room). q.top + need ≤ 1024 * q.page + 1024) (same_Some f.0 r (sym f.1 ∙ e)) f.2

-- what stands at a position
pub stands_there : (rooms : List Room) (i : ℕ) (d : Room) → i < length rooms → slice_get rooms i ≡ Some (get_or rooms i d)
stands_there [] i d l = absurd (omega (arith, l))
stands_there (r ∷ rs) zero d l = refl
stands_there (r ∷ rs) (suc i) d l = stands_there rs i d (omega (arith, l))
