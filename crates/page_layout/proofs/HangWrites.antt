-- The writes of a hang whose entries are laid are a plan, and may follow.
use Rattle.std.proofs.Common.{◌≡◌, ◌⊎◌, ℕ, ◌+◌, ◌-◌, ◌*◌, ◌<◌, ◌≤◌, Bool, true, false, cond, List, [], ◌∷◌, ◌++◌, length}
use Rattle.std.proofs.Common.{slice_get}
use Rattle.std.proofs.Common.{refl, sym, ap, ◌∙◌, subst, ⊎_elim, inl, inr, arith, true≢false, Some, None}
use Rattle.std.specs.Prelude.{nat_eq}
use Rattle.std.proofs.lemmas.Bool.{cases_lt, eq-eqb}
use Rattle.std.proofs.lemmas.Option.{same_Some, slice_get_within}
use Rattle.heap_words.specs.Cells.{encoded}
use Rattle.heap_words.specs.Heaps.{IsHeap, inside_at}
use Rattle.heap_words.specs.Trails.{WordList}
use Rattle.heap_words.specs.declared.cell.Cell.{Cell}
use Rattle.heap_words.specs.declared.cell.Cell.TheVariants.{Unbound, Status, Top}
use Rattle.heap_words.specs.declared.cell.Stand.TheVariants.{Ready, Waiting}
use Rattle.word_states.specs.Words.{Words, At, Among, AreApart, row}
use Rattle.word_states.specs.Layouts.{entry_words}
use Rattle.word_states.specs.Planning.{head_words, hang_writes, IsHangPlanned}
use Rattle.word_states.specs.Writing.{MayWrite}
use Rattle.word_states.proofs.Lists.{among_left, among_right, among_either, get_of}
use Rattle.word_states.proofs.Persisting.{one_cell}
use Rattle.word_state_laws.proofs.CommitPlans.{among_row}
use Rattle.page_layout.specs.declared.rooms.Room.{Room}
use Rattle.page_layout.specs.Laying.{moved_to, StayWhole, IsLaid, tops_of}
use Rattle.page_layout.specs.Hangs.{threes, entry_in, entry_of, entries_at}
use Rattle.page_layout.specs.Openings.{AreTops, AreFree, FindsHang}
use Rattle.page_layout.proofs.Filling.{moved_at}
use Rattle.page_layout.proofs.Apart.{apart_append, apart_row, apart_tops, tops_in}
use Rattle.page_layout.proofs.Entries.{total_threes, entries_are}
use Rattle.page_layout.proofs.CommitWrites.{in_row_at, none_at, top_at, tops_rise, top_replaces}
use Rattle.page_layout.proofs.Writable.{Replaces, a_cell, nothing, may_write, tops_free}

among_head : (f : ℕ → ℕ) (ls : WordList) (a y : ℕ) → Among (head_words f ls) (a, y) → (e : ℕ) × Among ls (a, e)
among_head f [] a y h = absurd h
among_head f (l ∷ ls) a y (inl e) = (l.1, inl (ap (λ (b : ℕ). (b, l.1)) (ap (λ (z : ℕ × ℕ). z.0) e)))
among_head f (l ∷ ls) a y (inr h) = let r = among_head f ls a y h in (r.0, inr r.1)

apart_heads : (f : ℕ → ℕ) (ls : WordList) → AreApart ls → AreApart (head_words f ls)
apart_heads f [] p = tt
apart_heads f (l ∷ ls) p = ((λ y h. let r = among_head f ls l.0 y h in p.0 r.0 r.1), apart_heads f ls p.1)

-- the entries of these places have the words of the table from the i-th on
module _ (table : List ℕ) where
  abbrev pub From : ℕ → WordList → Type 0
  From i ls = StayWhole (moved_to table) (4000000000 + i) (threes (length ls)) × (i + 3 * length ls ≡ length table)

  from_next : (i : ℕ) (l : ℕ × ℕ) (ls : WordList) → From i (l ∷ ls) → From (i + 3) ls
  from_next i l ls h = (
    subst (λ (b : ℕ). StayWhole (moved_to table) b (threes (length ls)))
        (let e : 4000000000 + i + 3 ≡ 4000000000 + (i + 3) = omega arith in e) h.0.1,
    (let e = h.1 in omega arith),
  )

  -- each word of an entry has its address in the table
  word_index : (i d : ℕ) (l : ℕ × ℕ) (ls : WordList) → From i (l ∷ ls) → d < 3
      → slice_get table (i + d) ≡ Some (moved_to table (4000000000 + i) + d)
  word_index i d l ls h lt =
      let g = get_of table (i + d) (let e = h.1 in omega arith) in
      let at : moved_to table (4000000000 + i + d) ≡ g.0 =
      ap (moved_to table) (let e : 4000000000 + i + d ≡ 4000000000 + (i + d) = omega arith in e) ∙ moved_at table (i + d) g.0 g.1 in
      g.1 ∙ ap Some (sym at ∙ h.0.0 d lt)

  entries_among : (n p i : ℕ) (ls : WordList) (c y : ℕ) → From i ls → Among (entries_at table n p i ls) (c, y)
      → (j : ℕ) × (i ≤ j) × (slice_get table j ≡ Some c)
  entries_among n p i [] c y h m = absurd m
  entries_among n p i (l ∷ ls) c y h m = ⊎_elim
      (λ (k : Among (row (moved_to table (4000000000 + i)) (entry_words n p l.1)) (c, y)).
      let r = among_row (moved_to table (4000000000 + i)) c y (entry_words n p l.1) k in
      (i + r.0, omega arith, word_index i r.0 l ls h r.1 ∙ ap Some (sym r.2)))
      (λ (k : Among (entries_at table n p (i + 3) ls) (c, y)).
      let r = entries_among n p (i + 3) ls c y (from_next i l ls h) k in let b = r.1 in (r.0, omega arith, r.2))
      (among_either (row (moved_to table (4000000000 + i)) (entry_words n p l.1)) (entries_at table n p (i + 3) ls) (c, y) m)

  apart_entries : (n p i : ℕ) (ls : WordList)
      → ((a b t : ℕ) → slice_get table a ≡ Some t → slice_get table b ≡ Some t → a ≡ b) → From i ls
      → AreApart (entries_at table n p i ls)
  apart_entries n p i [] one h = tt
  apart_entries n p i (l ∷ ls) one h =
      apart_append (row (moved_to table (4000000000 + i)) (entry_words n p l.1)) (entries_at table n p (i + 3) ls)
      (apart_row (moved_to table (4000000000 + i)) (entry_words n p l.1)) (apart_entries n p (i + 3) ls one (from_next i l ls h))
      (λ a x y s t.
      let r = among_row (moved_to table (4000000000 + i)) a x (entry_words n p l.1) s in
      let q = entries_among n p (i + 3) ls a y (from_next i l ls h) t in
      let e = one (i + r.0) q.0 a (word_index i r.0 l ls h r.1 ∙ ap Some (sym r.2)) q.2 in
      let b = q.1 in
      let lt = r.1 in
      absurd (omega arith))

  -- each address of the table from there on is written
  entry_at : (n p i j : ℕ) (ls : WordList) (t : ℕ) → From i ls → i ≤ j → slice_get table j ≡ Some t
      → (x : ℕ) × Among (entries_at table n p i ls) (t, x)
  entry_at n p i j [] t h lo e =
      let lt = slice_get_within table j t e in let s : i + 3 * 0 ≡ length table = h.1 in absurd (omega arith)
  entry_at n p i j (l ∷ ls) t h lo e = ⊎_elim
      (λ (lt : j < i + 3).
      let d : j - i < 3 = omega arith in
      let r = in_row_at (moved_to table (4000000000 + i)) (j - i) (entry_words n p l.1) d in
      let same : i + (j - i) ≡ j = omega arith in
      let at : moved_to table (4000000000 + i) + (j - i) ≡ t =
      same_Some _ t (sym (word_index i (j - i) l ls h d) ∙ ap (slice_get table) same ∙ e) in (
        r.0,
        among_left (row (moved_to table (4000000000 + i)) (entry_words n p l.1)) _ (t, r.0)
            (subst (λ (b : ℕ). Among (row (moved_to table (4000000000 + i)) (entry_words n p l.1)) (b, r.0)) at r.1),
      ))
      (λ (ge : i + 3 ≤ j).
      let r = entry_at n p (i + 3) j ls t (from_next i l ls h) ge e in
      (r.0, among_right (row (moved_to table (4000000000 + i)) (entry_words n p l.1)) _ (t, r.0) r.1))
      (cases_lt j (i + 3))

  -- the words of a place's entry
  entry_words_at : (i : ℕ) (ls : WordList) (a e : ℕ) → From i ls → Among ls (a, e)
      → (j : ℕ) × ((d : ℕ) → d < 3 → slice_get table (j + d) ≡ Some (entry_in table i ls a + d))
  entry_words_at i [] a e h m = absurd m
  entry_words_at i (l ∷ ls) a e h m =
      go (nat_eq l.0 a) refl (λ k. entry_words_at (i + 3) ls a e (from_next i l ls h) k) m
    where
      go : (b : Bool) → nat_eq l.0 a ≡ b
          → (Among ls (a, e) → (j : ℕ) × ((d : ℕ) → d < 3 → slice_get table (j + d) ≡ Some (entry_in table (i + 3) ls a + d)))
          → (l ≡ (a, e)) ⊎ Among ls (a, e)
          → (j : ℕ) × ((d : ℕ) → d < 3
          → slice_get table (j + d) ≡ Some (cond b (moved_to table (4000000000 + i)) (entry_in table (i + 3) ls a) + d))
      go true q rec k = (i, λ d lt. word_index i d l ls h lt)
      go false q rec (inl k) = absurd (true≢false (sym (eq-eqb l.0 a (ap (λ (z : ℕ × ℕ). z.0) k)) ∙ q))
      go false q rec (inr k) = rec k

module _ (rooms : List Room) (table : List ℕ) (lists : WordList) (laid : IsLaid rooms table (threes (length lists))) (n p : ℕ) (w : Words)
    (finds : FindsHang p lists w) (tops : AreTops rooms w) (free : AreFree rooms w) where
  abbrev entries : WordList
  entries = entries_at table n p 0 lists

  abbrev writes : WordList
  writes = (p, encoded (Status (Waiting n))) ∷ (head_words (entry_of table lists) lists ++ (tops_of rooms ++ entries_at table n p 0 lists))

  from : From table 0 lists
  from = (laid.whole, (let e = laid.size in let t = total_threes (length lists) in omega arith))

  -- the writes, with the entries by their places in the table
  same_writes : hang_writes (entry_of table lists) n p lists (tops_of rooms)
      ≡ (p, encoded (Status (Waiting n))) ∷ (head_words (entry_of table lists) lists ++ (tops_of rooms ++ entries_at table n p 0 lists))
  same_writes =
      ap (λ (es : WordList). (p, encoded (Status (Waiting n))) ∷ (head_words (entry_of table lists) lists ++ (tops_of rooms ++ es)))
      (sym (entries_are table n p lists finds.once))

  taken : (j c : ℕ) → slice_get table j ≡ Some c → (k : ℕ) × (r : Room) × (slice_get rooms k ≡ Some r) × (r.old ≤ c) × (c < r.top)
  taken j c e = laid.taken j c e

  none_there : (j c : ℕ) → slice_get table j ≡ Some c → w c ≡ None
  none_there j c e =
      let l = laid.taken j c e in
      let lo = l.3 in
      let hi = l.4 in
      free l.0 c l.1 l.2 lo (let b = (laid.pages.each l.0 l.1 l.2).within in omega arith)

  entry_none : (a y : ℕ) → Among (entries_at table n p 0 lists) (a, y) → w a ≡ None
  entry_none a y m = let r = entries_among table n p 0 lists a y from m in none_there r.0 a r.2

  replaces : (a y : ℕ) → Among writes (a, y) → Replaces rooms w a y
  replaces a y (inl e) =
      let h : p ≡ a = ap (λ (z : ℕ × ℕ). z.0) e in
      a_cell (Status Ready) (subst (λ (b : ℕ). At w b (Status Ready)) h finds.process) refl refl
  replaces a y (inr h) = ⊎_elim
      (λ (t : Among (head_words (entry_of table lists) lists) (a, y)).
      let r = among_head (entry_of table lists) lists a y t in a_cell (Unbound r.0) (finds.places a r.0 r.1) refl refl)
      (λ (t : Among (tops_of rooms ++ entries_at table n p 0 lists) (a, y)). ⊎_elim
      (λ (v : Among (tops_of rooms) (a, y)). top_replaces rooms w a y tops v)
      (λ (v : Among (entries_at table n p 0 lists) (a, y)).
      let r = entries_among table n p 0 lists a y from v in let l = laid.taken r.0 a r.2 in nothing l.0 l.1 l.2 l.3 l.4)
      (among_either (tops_of rooms) (entries_at table n p 0 lists) (a, y) t))
      (among_either (head_words (entry_of table lists) lists) (tops_of rooms ++ entries_at table n p 0 lists) (a, y) h)

  -- a cell that is no top stands at no address of a top or an entry
  not_later : (a y : ℕ) (c : Cell) → At w a c → ((t : ℕ) → c ≡ Top t → ⊥) → Among (tops_of rooms ++ entries_at table n p 0 lists) (a, y) → ⊥
  not_later a y c h f m = ⊎_elim
      (λ (v : Among (tops_of rooms) (a, y)). let t = top_at rooms w a y tops v in f t.0 (one_cell w a c (Top t.0) h t.1))
      (λ (v : Among (entries_at table n p 0 lists) (a, y)). none_at w a c h (entry_none a y v))
      (among_either (tops_of rooms) (entries_at table n p 0 lists) (a, y) m)

  apart_later : AreApart (tops_of rooms ++ entries_at table n p 0 lists)
  apart_later =
      apart_append (tops_of rooms) (entries_at table n p 0 lists) (apart_tops rooms laid.pages.once)
      (apart_entries table n p 0 lists laid.apart from)
      (λ a x y s t. let q = top_at rooms w a x tops s in none_at w a (Top q.0) q.1 (entry_none a y t))

  apart_all : AreApart writes
  apart_all = (
    (λ y h. ⊎_elim
        (λ (t : Among (head_words (entry_of table lists) lists) (p, y)).
        let r = among_head (entry_of table lists) lists p y t in
        let bad : Status Ready ≡ Unbound r.0 = one_cell w p _ _ finds.process (finds.places p r.0 r.1) in cc)
        (λ (t : Among (tops_of rooms ++ entries_at table n p 0 lists) (p, y)).
        not_later p y (Status Ready) finds.process (λ m e. let bad : Status Ready ≡ Top m = e in cc) t)
        (among_either (head_words (entry_of table lists) lists) (tops_of rooms ++ entries_at table n p 0 lists) (p, y) h)),
    apart_append (head_words (entry_of table lists) lists) (tops_of rooms ++ entries_at table n p 0 lists)
        (apart_heads (entry_of table lists) lists finds.once) apart_later
        (λ a x y s t.
        let r = among_head (entry_of table lists) lists a x s in
        not_later a y (Unbound r.0) (finds.places a r.0 r.1) (λ m e. let bad : Unbound r.0 ≡ Top m = e in cc) t),
  )

  -- a place's entry lies in rooms
  entry_range : (a e d : ℕ) → Among lists (a, e) → d < 3 → (w (entry_of table lists a + d) ≡ None)
      × ((0 < entry_of table lists a + d) × (entry_of table lists a + d < 0x100000000))
  entry_range a e d m lt =
      let r = entry_words_at table 0 lists a e from m in
      let at = r.1 d lt in
      let l = laid.taken (r.0 + d) (entry_of table lists a + d) at in
      let room = laid.pages.each l.0 l.1 l.2 in
      let lo = l.3 in
      let hi = l.4 in (
        none_there (r.0 + d) (entry_of table lists a + d) at,
        ((let b = room.above in omega arith), (let b = room.within in let s = room.small in omega arith)),
      )

  pub hang_plan : p < 0x100000000 → n < 0x100000000 → IsHangPlanned (entry_of table lists) n p lists (tops_of rooms) w
  hang_plan small number = record {
    small = (small, number);
    small_entry = λ a e m.
        let r = (entry_range a e 0 m (omega arith)).1 in
        let low = r.0 in
        let high = r.1 in
        ((omega arith), (omega arith));
    free = λ a e i m lt. (entry_range a e i m lt).0;
    apart = subst AreApart (sym same_writes) apart_all;
    tops_rise = tops_rise rooms w laid.pages tops;
  }

  put : (k : ℕ) (r : Room) → slice_get rooms k ≡ Some r → r.old < r.top → Among writes (1024 * r.page, encoded (Top r.top))
  put k r e lt =
      inr (among_right (head_words (entry_of table lists) lists) _ (1024 * r.page, encoded (Top r.top))
      (among_left (tops_of rooms) _ (1024 * r.page, encoded (Top r.top)) (tops_in rooms k r e lt)))

  filled : (k t : ℕ) (r : Room) → slice_get rooms k ≡ Some r → r.old ≤ t → t < r.top → (x : ℕ) × Among writes (t, x)
  filled k t r e lo hi =
      let i = laid.full k t r e lo hi in
      let x = entry_at table n p 0 i.0 lists t from (omega arith) i.1 in
      (x.0, inr (among_right (head_words (entry_of table lists) lists) _ (t, x.0) (among_right (tops_of rooms) _ (t, x.0) x.1)))

-- over words of which only the tops are known
module _ (ws : List ℕ) (rooms : List Room) (table : List ℕ) (lists : WordList) (laid : IsLaid rooms table (threes (length lists))) (n p : ℕ)
    (finds : FindsHang p lists (inside_at ws)) (tops : AreTops rooms (inside_at ws)) where
  free : AreFree rooms (inside_at ws)
  free = tops_free ws rooms laid.pages tops

  pub hang_planned : p < 0x100000000 → n < 0x100000000 → IsHangPlanned (entry_of table lists) n p lists (tops_of rooms) (inside_at ws)
  hang_planned = hang_plan rooms table lists laid n p (inside_at ws) finds tops free

  -- over a heap
  pub hang_may : IsHeap ws → MayWrite ws (hang_writes (entry_of table lists) n p lists (tops_of rooms))
  hang_may heap =
      subst (MayWrite ws) (sym (same_writes rooms table lists laid n p (inside_at ws) finds tops free))
      (may_write ws rooms (writes rooms table lists laid n p (inside_at ws) finds tops free) heap laid.pages tops
      (apart_all rooms table lists laid n p (inside_at ws) finds tops free)
      (replaces rooms table lists laid n p (inside_at ws) finds tops free)
      (put rooms table lists laid n p (inside_at ws) finds tops free)
      (filled rooms table lists laid n p (inside_at ws) finds tops free))
