-- The writes of a commit whose pieces are laid are a plan, and may follow.
use Rattle.std.proofs.Common.{◌≡◌, ℕ, zero, suc, ◌+◌, ◌-◌, ◌*◌, ◌<◌, ◌≤◌, Bool, true, false, cond, List, [], ◌∷◌, ◌++◌, length, map}
use Rattle.std.proofs.Common.{slice_get}
use Rattle.std.proofs.Common.{refl, sym, ap, ◌∙◌, subst, ⊎_elim, inl, inr, arith, true≢false, Some, None}
use Rattle.std.proofs.lemmas.Bool.{cases_lt}
use Rattle.std.proofs.lemmas.List.{length-map}
use Rattle.std.proofs.lemmas.Option.{slice_get_within}
use Rattle.heap_words.specs.Cells.{decoded, encoded}
use Rattle.heap_words.specs.Heaps.{IsHeap, inside_at}
use Rattle.heap_words.specs.Trails.{WordList}
use Rattle.heap_words.proofs.Encodings.{decoded_encoded}
use Rattle.heap_words.specs.declared.cell.Cell.{Cell}
use Rattle.heap_words.specs.declared.cell.Cell.TheVariants.{Unbound, Status, Top}
use Rattle.heap_words.specs.declared.cell.Stand.TheVariants.{Ready, Waiting}
use Rattle.word_states.specs.Words.{Words, At, Among, AreApart, row}
use Rattle.word_states.specs.Pieces.{is_place, is_process}
use Rattle.word_states.specs.Layouts.{moved, laid_place, laid_process, laid_piece, next_place, next_process}
use Rattle.word_states.specs.Planning.{laid_rows, moved_binds, ready_words, commit_writes, AreWhole, TopsForTops, IsPlanned}
use Rattle.word_states.specs.Writing.{MayWrite}
use Rattle.word_states.proofs.Lists.{among_left, among_right, among_either}
use Rattle.word_states.proofs.Persisting.{one_cell}
use Rattle.word_state_laws.proofs.CommitPlans.{among_moved, among_ready, own_of}
use Rattle.page_layout.specs.declared.rooms.Room.{Room}
use Rattle.page_layout.specs.Laying.{moved_to, AreRooms, IsLaid, AreNamed, tops_of}
use Rattle.page_layout.specs.Openings.{AreTops, AreFree, FindsCommit}
use Rattle.page_layout.proofs.Filling.{moved_at, moved_old}
use Rattle.page_layout.proofs.Sizes.{IsSized, words_of, sized_total, sized_whole}
use Rattle.page_layout.proofs.Apart.{apart_append, apart_moved, apart_ready, apart_tops, in_tops, tops_in}
use Rattle.page_layout.proofs.Landing.{small, one, lands, apart_rows}
use Rattle.page_layout.proofs.Writable.{Replaces, a_cell, a_top, nothing, may_write, tops_free}

-- a laid piece is as long as the piece
laid_size : (f : ℕ → ℕ) (n k i : ℕ) (p : List ℕ) → (is_process p ≡ true → 2 ≤ length p) → length (laid_piece f n k i p) ≡ length p
laid_size f n k i p h = go (is_place p) refl (is_process p) refl
  where
    place_size : (p : List ℕ) → is_place p ≡ true → length (laid_place f n k p) ≡ length p
    place_size [] e = absurd (true≢false (sym e))
    place_size (x ∷ []) e = absurd (true≢false (sym e))
    place_size (x ∷ y ∷ []) e = refl
    place_size (x ∷ y ∷ z ∷ zs) e = absurd (true≢false (sym e))

    process_size : (p : List ℕ) → 2 ≤ length p → length (laid_process f n i p) ≡ length p
    process_size [] l = absurd (omega arith)
    process_size (x ∷ []) l = absurd (omega arith)
    process_size (x ∷ y ∷ ys) l = ap (λ (m : ℕ). suc (suc m)) (length-map ys (moved f))

    go : (s : Bool) → is_place p ≡ s → (t : Bool) → is_process p ≡ t
        → length (cond s (laid_place f n k p) (cond t (laid_process f n i p) (map (moved f) p))) ≡ length p
    go true e t g = place_size p e
    go false e true g = process_size p (h g)
    go false e false g = length-map p (moved f)

pub in_row_at : (a d : ℕ) (xs : List ℕ) → d < length xs → (x : ℕ) × Among (row a xs) (a + d, x)
in_row_at a d [] h = absurd (omega arith)
in_row_at a zero (x ∷ xs) h = (x, inl (λ i. ((let e : a ≡ a + 0 = omega arith in e) i, x)))
in_row_at a (suc d) (x ∷ xs) h =
    let r = in_row_at (suc a) d xs (omega arith) in
    (r.0, inr (subst (λ (b : ℕ). Among (row (suc a) xs) (b, r.0)) (let e : suc a + d ≡ a + suc d = omega arith in e) r.1))

-- each word of the pieces has a word among those of the laid pieces
written_at : (f : ℕ → ℕ) (n k i b j : ℕ) (ps : List (List ℕ)) → AreNamed ps → AreWhole f b ps → j < words_of ps
    → (x : ℕ) × Among (laid_rows f n k i b ps) (f (b + j), x)
written_at f n k i b j [] na w h = absurd (omega arith)
written_at f n k i b j (p ∷ ps) na w h = ⊎_elim
    (λ (l : j < length p).
    let r = in_row_at (f b) j (laid_piece f n k i p) (let e = laid_size f n k i p na.0 in omega arith) in (
      r.0,
      among_left (row (f b) (laid_piece f n k i p)) _ (f (b + j), r.0)
          (subst (λ (a : ℕ). Among (row (f b) (laid_piece f n k i p)) (a, r.0)) (sym (w.0 j l)) r.1),
    ))
    (λ (l : length p ≤ j).
    let r = written_at f n (next_place k p) (next_process i p) (b + length p) (j - length p) ps na.1 w.1 (omega arith) in
    let e : b + length p + (j - length p) ≡ b + j = omega arith in (
      r.0,
      among_right (row (f b) (laid_piece f n k i p)) _ (f (b + j), r.0)
          (subst (λ (a : ℕ). Among (laid_rows f n (next_place k p) (next_process i p) (b + length p) ps) (f a, r.0)) e r.1),
    ))
    (cases_lt j (length p))

-- two cells, or a cell and none, do not stand at one address
pub none_at : (w : Words) (a : ℕ) (c : Cell) → At w a c → w a ≡ None → ⊥
none_at w a c h e = let bad : None ≡ Some h.0 = sym e ∙ h.1 in cc

pub top_at : (rooms : List Room) (w : Words) (a y : ℕ) → AreTops rooms w → Among (tops_of rooms) (a, y) → (t : ℕ) × At w a (Top t)
top_at rooms w a y tops m =
    let r = in_tops rooms a y m in (r.1.old, subst (λ (b : ℕ). At w b (Top r.1.old)) (sym r.4) (tops r.0 r.1 r.2))

pub tops_rise : (rooms : List Room) (w : Words) → AreRooms rooms → AreTops rooms w → TopsForTops (tops_of rooms) w
tops_rise rooms w are tops a x h =
    let r = in_tops rooms a x h in
    let t : At w a (Top r.1.old) = subst (λ (b : ℕ). At w b (Top r.1.old)) (sym r.4) (tops r.0 r.1 r.2) in
    let room = are.each r.0 r.1 r.2 in (
      t.0,
      r.1.old,
      r.1.top,
      t.1,
      t.2,
      ap decoded r.5 ∙ decoded_encoded (Top r.1.top) (let a = room.within in let b = room.small in omega arith),
    )

pub top_replaces : (rooms : List Room) (w : Words) (a y : ℕ) → AreTops rooms w → Among (tops_of rooms) (a, y) → Replaces rooms w a y
top_replaces rooms w a y tops m =
    let r = in_tops rooms a y m in
    a_top r.0 r.1 r.2 r.3 r.4 (subst (λ (b : ℕ). At w b (Top r.1.old)) (sym r.4) (tops r.0 r.1 r.2))

module _ (rooms : List Room) (table sizes : List ℕ) (laid : IsLaid rooms table sizes) (ps : List (List ℕ)) (sized : IsSized ps sizes)
    (n p : ℕ) (binds : WordList) (wakes : List ℕ) (w : Words) (finds : FindsCommit p binds wakes w) (tops : AreTops rooms w)
    (free : AreFree rooms w) where
  abbrev pieces : WordList
  pieces = laid_rows (moved_to table) n 1 1 4000000000 ps

  whole : AreWhole (moved_to table) 4000000000 ps
  whole = sized_whole (moved_to table) 4000000000 ps sizes sized laid.whole

  piece_lands : (a y : ℕ) → Among (laid_rows (moved_to table) n 1 1 4000000000 ps) (a, y)
      → (k : ℕ) × (r : Room) × (slice_get rooms k ≡ Some r) × (r.old ≤ a) × (a < r.top)
  piece_lands a y h =
      let r = own_of (moved_to table) n 1 1 4000000000 ps a y whole h in
      let l = lands rooms table sizes laid ps sized r.0 r.1 r.2 in
      (l.0, l.1, l.2, subst (λ (t : ℕ). l.1.old ≤ t) (sym r.3) l.3, subst (λ (t : ℕ). t < l.1.top) (sym r.3) l.4)

  piece_none : (a y : ℕ) → Among (laid_rows (moved_to table) n 1 1 4000000000 ps) (a, y) → w a ≡ None
  piece_none a y h =
      let l = piece_lands a y h in
      let lo = l.3 in
      let hi = l.4 in
      free l.0 a l.1 l.2 lo (let e = (laid.pages.each l.0 l.1 l.2).within in omega arith)

  replaces : (a y : ℕ) → Among (commit_writes (moved_to table) n p binds ps wakes (tops_of rooms)) (a, y) → Replaces rooms w a y
  replaces a y (inl e) =
      let h : p ≡ a = ap (λ (z : ℕ × ℕ). z.0) e in
      a_cell (Status Ready) (subst (λ (b : ℕ). At w b (Status Ready)) h finds.process) refl refl
  replaces a y (inr h) = ⊎_elim
      (λ (t : Among (moved_binds (moved_to table) binds) (a, y)).
      let r = among_moved (moved_to table) binds a y t in let u = finds.bound a r.0 r.1 in a_cell (Unbound u.0) u.1 refl refl)
      (λ (t : Among (ready_words wakes ++ (tops_of rooms ++ pieces)) (a, y)). ⊎_elim
      (λ (u : Among (ready_words wakes) (a, y)).
      let z = finds.woken a (among_ready wakes a y u) in a_cell (Status (Waiting z.0)) z.1 refl refl)
      (λ (u : Among (tops_of rooms ++ pieces) (a, y)). ⊎_elim
      (λ (v : Among (tops_of rooms) (a, y)). top_replaces rooms w a y tops v)
      (λ (v : Among pieces (a, y)). let l = piece_lands a y v in nothing l.0 l.1 l.2 l.3 l.4)
      (among_either (tops_of rooms) pieces (a, y) u))
      (among_either (ready_words wakes) (tops_of rooms ++ pieces) (a, y) t))
      (among_either (moved_binds (moved_to table) binds) (ready_words wakes ++ (tops_of rooms ++ pieces)) (a, y) h)

  -- a cell that is no top stands at no address of a top or a piece
  not_later : (a y : ℕ) (c : Cell) → At w a c → ((t : ℕ) → c ≡ Top t → ⊥) → Among (tops_of rooms ++ pieces) (a, y) → ⊥
  not_later a y c h f m = ⊎_elim
      (λ (v : Among (tops_of rooms) (a, y)). let t = top_at rooms w a y tops v in f t.0 (one_cell w a c (Top t.0) h t.1))
      (λ (v : Among pieces (a, y)). none_at w a c h (piece_none a y v)) (among_either (tops_of rooms) pieces (a, y) m)

  not_woken : (a y : ℕ) (c : Cell) → At w a c → ((m : ℕ) → c ≡ Status (Waiting m) → ⊥) → Among (ready_words wakes) (a, y) → ⊥
  not_woken a y c h f m = let z = finds.woken a (among_ready wakes a y m) in f z.0 (one_cell w a c (Status (Waiting z.0)) h z.1)

  apart_later : AreApart (tops_of rooms ++ pieces)
  apart_later =
      apart_append (tops_of rooms) pieces (apart_tops rooms laid.pages.once)
      (apart_rows (moved_to table) n 1 1 4000000000 ps whole (one rooms table sizes laid ps sized))
      (λ a x y s t. let q = top_at rooms w a x tops s in none_at w a (Top q.0) q.1 (piece_none a y t))

  apart_woken : AreApart (ready_words wakes ++ (tops_of rooms ++ pieces))
  apart_woken =
      apart_append (ready_words wakes) (tops_of rooms ++ pieces) (apart_ready wakes finds.wakes_once) apart_later
      (λ a x y s t. let z = finds.woken a (among_ready wakes a x s) in
      not_later a y (Status (Waiting z.0)) z.1 (λ u e. let bad : Status (Waiting z.0) ≡ Top u = e in cc) t)

  apart_bound : AreApart (moved_binds (moved_to table) binds ++ (ready_words wakes ++ (tops_of rooms ++ pieces)))
  apart_bound =
      apart_append (moved_binds (moved_to table) binds) (ready_words wakes ++ (tops_of rooms ++ pieces))
      (apart_moved (moved_to table) binds finds.binds_once) apart_woken
      (λ a x y s t.
      let r = among_moved (moved_to table) binds a x s in
      let u = finds.bound a r.0 r.1 in
      ⊎_elim
      (λ (v : Among (ready_words wakes) (a, y)).
      not_woken a y (Unbound u.0) u.1 (λ m e. let bad : Unbound u.0 ≡ Status (Waiting m) = e in cc) v)
      (λ (v : Among (tops_of rooms ++ pieces) (a, y)).
      not_later a y (Unbound u.0) u.1 (λ m e. let bad : Unbound u.0 ≡ Top m = e in cc) v)
      (among_either (ready_words wakes) (tops_of rooms ++ pieces) (a, y) t))

  apart_all : AreApart (commit_writes (moved_to table) n p binds ps wakes (tops_of rooms))
  apart_all = (
    (λ y h. ⊎_elim
        (λ (t : Among (moved_binds (moved_to table) binds) (p, y)).
        let r = among_moved (moved_to table) binds p y t in
        let u = finds.bound p r.0 r.1 in
        let bad : Status Ready ≡ Unbound u.0 = one_cell w p _ _ finds.process u.1 in cc)
        (λ (t : Among (ready_words wakes ++ (tops_of rooms ++ pieces)) (p, y)). ⊎_elim
        (λ (v : Among (ready_words wakes) (p, y)). not_woken p y (Status Ready) finds.process
        (λ m e. let bad : Status Ready ≡ Status (Waiting m) = e in let bad' : Ready ≡ Waiting m = cc in cc) v)
        (λ (v : Among (tops_of rooms ++ pieces) (p, y)).
        not_later p y (Status Ready) finds.process (λ m e. let bad : Status Ready ≡ Top m = e in cc) v)
        (among_either (ready_words wakes) (tops_of rooms ++ pieces) (p, y) t))
        (among_either (moved_binds (moved_to table) binds) (ready_words wakes ++ (tops_of rooms ++ pieces)) (p, y) h)),
    apart_bound,
  )

  pub planned : IsPlanned (moved_to table) n p binds ps wakes (tops_of rooms) w
  planned = record {
    small = small rooms table sizes laid;
    old = moved_old table;
    free = λ a x e.
        let l = lands rooms table sizes laid ps sized a x e in
        free l.0 (moved_to table a) l.1 l.2 l.3 (let h = (laid.pages.each l.0 l.1 l.2).within in let k = l.4 in omega arith);
    one = one rooms table sizes laid ps sized;
    whole = whole;
    apart = apart_all;
    process = (finds.process.0, finds.process.1);
    bound = λ a x h. let u = finds.bound a x h in (u.1.0, u.1.1);
    woken = λ q h. let u = finds.woken q h in (u.1.0, u.1.1);
    tops_rise = tops_rise rooms w laid.pages tops;
  }

  -- the words of the pieces are all that is taken
  filled : AreNamed ps → (k t : ℕ) (r : Room) → slice_get rooms k ≡ Some r → r.old ≤ t → t < r.top
      → (x : ℕ) × Among (commit_writes (moved_to table) n p binds ps wakes (tops_of rooms)) (t, x)
  filled named k t r e lo hi =
      let i = laid.full k t r e lo hi in
      let lt : i.0 < words_of ps =
      (let s = laid.size in let z = slice_get_within table i.0 t i.1 in let v = sized_total ps sizes sized in omega arith) in
      let x = written_at (moved_to table) n 1 1 4000000000 i.0 ps named whole lt in (
        x.0,
        inr (among_right (moved_binds (moved_to table) binds) _ (t, x.0) (among_right (ready_words wakes) _ (t, x.0)
            (among_right (tops_of rooms) _ (t, x.0)
            (subst (λ (b : ℕ). Among (laid_rows (moved_to table) n 1 1 4000000000 ps) (b, x.0)) (moved_at table i.0 t i.1) x.1)))),
      )

  put : (k : ℕ) (r : Room) → slice_get rooms k ≡ Some r → r.old < r.top
      → Among (commit_writes (moved_to table) n p binds ps wakes (tops_of rooms)) (1024 * r.page, encoded (Top r.top))
  put k r e lt =
      inr (among_right (moved_binds (moved_to table) binds) _ (1024 * r.page, encoded (Top r.top))
      (among_right (ready_words wakes) _ (1024 * r.page, encoded (Top r.top))
      (among_left (tops_of rooms) _ (1024 * r.page, encoded (Top r.top)) (tops_in rooms k r e lt))))

-- over words of which only the tops are known
module _ (ws : List ℕ) (rooms : List Room) (table sizes : List ℕ) (laid : IsLaid rooms table sizes) (ps : List (List ℕ))
    (sized : IsSized ps sizes) (n p : ℕ) (binds : WordList) (wakes : List ℕ) (finds : FindsCommit p binds wakes (inside_at ws))
    (tops : AreTops rooms (inside_at ws)) where
  free : AreFree rooms (inside_at ws)
  free = tops_free ws rooms laid.pages tops

  pub commit_planned : IsPlanned (moved_to table) n p binds ps wakes (tops_of rooms) (inside_at ws)
  commit_planned = planned rooms table sizes laid ps sized n p binds wakes (inside_at ws) finds tops free

  -- over a heap
  pub commit_may : IsHeap ws → AreNamed ps → MayWrite ws (commit_writes (moved_to table) n p binds ps wakes (tops_of rooms))
  commit_may heap named =
      may_write ws rooms (commit_writes (moved_to table) n p binds ps wakes (tops_of rooms)) heap laid.pages tops
      (apart_all rooms table sizes laid ps sized n p binds wakes (inside_at ws) finds tops free)
      (replaces rooms table sizes laid ps sized n p binds wakes (inside_at ws) finds tops free)
      (put rooms table sizes laid ps sized n p binds wakes (inside_at ws) finds tops free)
      (filled rooms table sizes laid ps sized n p binds wakes (inside_at ws) finds tops free named)
