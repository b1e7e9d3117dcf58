-- Rooms are filled, piece by piece.
use Rattle.std.proofs.Common.{◌≡◌, ◌⊎◌, ℕ, zero, suc, ◌+◌, ◌-◌, ◌*◌, ◌<◌, ◌≤◌, Bool, true, false, cond, List, [], ◌∷◌, ◌++◌, length}
use Rattle.std.proofs.Common.{set, slice_get, refl, sym, ap, ◌∙◌, subst, ⊎_elim, inl, inr, arith, Option, Some, None}
use Rattle.std.specs.Prelude.{nat_lt, unwrap_or}
use Rattle.std.proofs.lemmas.Bool.{cases_lt, cond-true, lt-ltb, ltb-true}
use Rattle.std.proofs.lemmas.List.{length-append}
use Rattle.std.proofs.lemmas.Option.{same_Some, slice_get_within}
use Rattle.page_layout.specs.declared.rooms.Room.{Room}
use Rattle.page_layout.specs.Laying.{run, moved_to, total, StayWhole, IsRoom, IsLaid}

module _ {X : Type 0} where
  pub get_left : (xs ys : List X) (i : ℕ) → i < length xs → slice_get (xs ++ ys) i ≡ slice_get xs i
  get_left [] ys i h = absurd (omega arith)
  get_left (x ∷ xs) ys zero h = refl
  get_left (x ∷ xs) ys (suc i) h = get_left xs ys i (omega arith)

  pub get_right : (xs ys : List X) (i : ℕ) → slice_get (xs ++ ys) (length xs + i) ≡ slice_get ys i
  get_right [] ys i = ap (slice_get ys) (let e : 0 + i ≡ i = omega arith in e)
  get_right (x ∷ xs) ys i = ap (slice_get (x ∷ (xs ++ ys))) (let e : suc (length xs) + i ≡ suc (length xs + i) = omega arith in e)
      ∙ get_right xs ys i

  -- an element of two lists together is one of the first, or one of the second
  pub get_either : (xs ys : List X) (i : ℕ) (x : X) → slice_get (xs ++ ys) i ≡ Some x
      → (slice_get xs i ≡ Some x) ⊎ ((j : ℕ) × (i ≡ length xs + j) × (slice_get ys j ≡ Some x))
  get_either [] ys i x e = inr (i, (let h : i ≡ 0 + i = omega arith in h), e)
  get_either (y ∷ xs) ys zero x e = inl e
  get_either (y ∷ xs) ys (suc i) x e =
      ⊎_elim (λ (h : slice_get xs i ≡ Some x). inl h)
      (λ (h : (j : ℕ) × (i ≡ length xs + j) × (slice_get ys j ≡ Some x)). inr
      (h.0, (let q : i ≡ length xs + h.0 = h.1 in let z : suc i ≡ suc (length xs) + h.0 = omega arith in z), h.2)) (get_either xs ys i x e)

  pub set_same : (xs : List X) (i : ℕ) (v : X) → i < length xs → slice_get (set xs i v) i ≡ Some v
  set_same [] i v h = absurd (omega arith)
  set_same (x ∷ xs) zero v h = refl
  set_same (x ∷ xs) (suc i) v h = set_same xs i v (omega arith)

  -- an element of a list after a write is the new one, or it stood there
  pub set_either : (xs : List X) (i j : ℕ) (v x : X) → slice_get (set xs i v) j ≡ Some x
      → ((j ≡ i) × (x ≡ v)) ⊎ ((j ≡ i → ⊥) × (slice_get xs j ≡ Some x))
  set_either [] i j v x e = inr ((λ h. let bad : None ≡ Some x = e in cc), e)
  set_either (y ∷ xs) zero zero v x e = inl (refl, same_Some x v (sym e))
  set_either (y ∷ xs) zero (suc j) v x e = inr ((λ h. omega arith), e)
  set_either (y ∷ xs) (suc i) zero v x e = inr ((λ h. omega arith), e)
  set_either (y ∷ xs) (suc i) (suc j) v x e =
      ⊎_elim (λ (h : (j ≡ i) × (x ≡ v)). inl (ap suc h.0, h.1))
      (λ (h : (j ≡ i → ⊥) × (slice_get xs j ≡ Some x)). inr ((λ k. h.0 (let q : suc j ≡ suc i = k in omega arith)), h.1))
      (set_either xs i j v x e)

pub run_length : (a n : ℕ) → length (run a n) ≡ n
run_length a zero = refl
run_length a (suc n) = ap suc (run_length (suc a) n)

pub run_at : (a n i : ℕ) → i < n → slice_get (run a n) i ≡ Some (a + i)
run_at a zero i h = absurd (omega arith)
run_at a (suc n) zero h = ap Some (let e : a ≡ a + 0 = omega arith in e)
run_at a (suc n) (suc i) h = run_at (suc a) n i (omega arith) ∙ ap Some (let e : suc a + i ≡ a + suc i = omega arith in e)

pub run_is : (a n i t : ℕ) → slice_get (run a n) i ≡ Some t → (i < n) × (t ≡ a + i)
run_is a zero i t e = let bad : None ≡ Some t = e in cc
run_is a (suc n) zero t e = (omega arith, (let h : a ≡ t = same_Some a t e in omega arith))
run_is a (suc n) (suc i) t e = let r = run_is (suc a) n i t e in let l = r.0 in let q = r.1 in ((omega arith), (omega arith))

-- where a word of the pieces goes
pub moved_at : (table : List ℕ) (i t : ℕ) → slice_get table i ≡ Some t → moved_to table (4000000000 + i) ≡ t
moved_at table i t e = ⊎_elim
    (λ (h : 4000000000 + i < 4000000000). absurd (omega arith))
    (λ (h : 4000000000 ≤ 4000000000 + i). go (nat_lt (4000000000 + i) 4000000000) refl)
    (cases_lt (4000000000 + i) 4000000000)
  where
    index : 4000000000 + i - 4000000000 ≡ i
    index = omega arith

    go : (b : Bool) → nat_lt (4000000000 + i) 4000000000 ≡ b
        → cond b (4000000000 + i) (unwrap_or (slice_get table (4000000000 + i - 4000000000)) (4000000000 + i)) ≡ t
    go true h = let l : 4000000000 + i < 4000000000 = ltb-true _ _ h in absurd (omega arith)
    go false h = ap (λ (o : Option ℕ). unwrap_or o (4000000000 + i)) (ap (slice_get table) index ∙ e)

pub moved_old : (table : List ℕ) (a : ℕ) → a < 4000000000 → moved_to table a ≡ a
moved_old table a h = cond-true _ _ _ (lt-ltb a 4000000000 h)

pub same_whole : (f g : ℕ → ℕ) (a : ℕ) (ns : List ℕ) → ((d : ℕ) → d < total ns → f (a + d) ≡ g (a + d)) → StayWhole f a ns
    → StayWhole g a ns
same_whole f g a [] h w = tt
same_whole f g a (n ∷ ns) h w = (
  (λ d l. let z : a + 0 ≡ a = omega arith in
      sym (h d (omega arith)) ∙ w.0 d l ∙ ap (λ (t : ℕ). t + d) (ap f (sym z) ∙ h 0 (omega arith) ∙ ap g z)),
  same_whole f g (a + n) ns (λ d l. let e : a + n + d ≡ a + (n + d) = omega arith in ap f e ∙ h (n + d) (omega arith) ∙ ap g (sym e)) w.1,
)

pub more_whole : (f : ℕ → ℕ) (a : ℕ) (ns : List ℕ) (n : ℕ) → StayWhole f a ns
    → ((d : ℕ) → d < n → f (a + total ns + d) ≡ f (a + total ns) + d) → StayWhole f a (ns ++ n ∷ [])
more_whole f a [] n w h = ((λ d l. let z : a + 0 ≡ a = omega arith in subst (λ (b : ℕ). f (b + d) ≡ f b + d) z (h d l)), tt)
more_whole f a (m ∷ ms) n w h = (
  w.0,
  more_whole f (a + m) ms n w.1 (λ d l.
      let e : a + (m + total ms) ≡ a + m + total ms = omega arith in subst (λ (b : ℕ). f (b + d) ≡ f b + d) e (h d l)),
)

pub total_more : (ns : List ℕ) (n : ℕ) → total (ns ++ n ∷ []) ≡ total ns + n
total_more [] n = omega arith
total_more (m ∷ ms) n = let e = total_more ms n in omega arith

-- one more page
pub room_more : (rooms : List Room) (table : List ℕ) (ns : List ℕ) (r : Room) → IsLaid rooms table ns → IsRoom r → r.old ≡ r.top
    → ((k : ℕ) (q : Room) → slice_get rooms k ≡ Some q → q.page ≡ r.page → ⊥) → IsLaid (rooms ++ r ∷ []) table ns
room_more rooms table ns r l is none new = record {
  pages = record {
    each = λ k q e. ⊎_elim (λ (h : slice_get rooms k ≡ Some q). l.pages.each k q h)
        (λ (h : (j : ℕ) × (k ≡ length rooms + j) × (slice_get (r ∷ []) j ≡ Some q)). subst IsRoom (only h.0 q h.2).1 is)
        (get_either rooms (r ∷ []) k q e);
    once = λ j k q s e f h. go j k q s h (get_either rooms (r ∷ []) j q e) (get_either rooms (r ∷ []) k s f);
  };
  size = l.size;
  whole = l.whole;
  apart = l.apart;
  taken = λ i t e. let h = l.taken i t e in (h.0, h.1, get_left rooms (r ∷ []) h.0 (slice_get_within rooms h.0 h.1 h.2) ∙ h.2, h.3, h.4);
  full = λ k t q e lo hi. ⊎_elim (λ (h : slice_get rooms k ≡ Some q). l.full k t q h lo hi)
      (λ (h : (j : ℕ) × (k ≡ length rooms + j) × (slice_get (r ∷ []) j ≡ Some q)). let s : r ≡ q = (only h.0 q h.2).1 in
      let a : r.old ≡ q.old = ap (λ (x : Room). x.old) s in let b : r.top ≡ q.top = ap (λ (x : Room). x.top) s in absurd (omega arith))
      (get_either rooms (r ∷ []) k q e);
}
  where
    only : (j : ℕ) (q : Room) → slice_get (r ∷ []) j ≡ Some q → (j ≡ 0) × (r ≡ q)
    only zero q e = (refl, same_Some r q e)
    only (suc j) q e = let bad : None ≡ Some q = e in cc

    go : (j k : ℕ) (q s : Room) → q.page ≡ s.page
        → (slice_get rooms j ≡ Some q) ⊎ ((i : ℕ) × (j ≡ length rooms + i) × (slice_get (r ∷ []) i ≡ Some q))
        → (slice_get rooms k ≡ Some s) ⊎ ((i : ℕ) × (k ≡ length rooms + i) × (slice_get (r ∷ []) i ≡ Some s)) → j ≡ k
    go j k q s h (inl e) (inl f) = l.pages.once j k q s e f h
    go j k q s h (inl e) (inr f) = absurd (new j q e (h ∙ ap (λ (x : Room). x.page) (sym (only f.0 s f.2).1)))
    go j k q s h (inr e) (inl f) = absurd (new k s f (sym h ∙ ap (λ (x : Room). x.page) (sym (only e.0 q e.2).1)))
    go j k q s h (inr e) (inr f) = e.1 ∙ ap (λ (i : ℕ). length rooms + i) ((only e.0 q e.2).0 ∙ sym (only f.0 s f.2).0) ∙ sym f.1

-- one more piece, into the k-th room
pub piece_more : (rooms : List Room) (table : List ℕ) (ns : List ℕ) (k n : ℕ) (r r' : Room) → IsLaid rooms table ns
    → slice_get rooms k ≡ Some r → r'.page ≡ r.page → r'.old ≡ r.old → r'.top ≡ r.top + n → r'.top ≤ 1024 * r'.page + 1024
    → IsLaid (set rooms k r') (table ++ run r.top n) (ns ++ n ∷ [])
piece_more rooms table ns k n r r' l at page old top fits = record {
  pages = record {
    each = λ j q e. ⊎_elim (λ (h : (j ≡ k) × (q ≡ r')). subst IsRoom (sym h.1) new_room)
        (λ (h : (j ≡ k → ⊥) × (slice_get rooms j ≡ Some q)). l.pages.each j q h.1) (set_either rooms k j r' q e);
    once = λ i j q s e f h. (let a = before i q e in let b = before j s f in l.pages.once i j a.0 b.0 a.1 b.1 (a.2 ∙ h ∙ sym b.2));
  };
  size = length-append table (run r.top n) ∙ (let a = l.size in let b = run_length r.top n in let c = total_more ns n in omega arith);
  whole = more_whole (moved_to (table ++ run r.top n)) 4000000000 ns n
      (same_whole (moved_to table) (moved_to (table ++ run r.top n)) 4000000000 ns (λ d h. on d h) l.whole)
      (λ d h. new_at d h ∙ (let z = new_at 0 (omega arith) in let y : 4000000000 + total ns + 0 ≡ 4000000000 + total ns =
      omega arith in let x : moved_to (table ++ run r.top n) (4000000000 + total ns) ≡ r.top + 0 =
      ap (moved_to (table ++ run r.top n)) (sym y) ∙ z in omega arith));
  apart = λ i j t e f. both i j t (get_either table (run r.top n) i t e) (get_either table (run r.top n) j t f);
  taken = λ i t e. ⊎_elim (λ (h : slice_get table i ≡ Some t). let x = l.taken i t h in place x.0 x.1 t x.2 x.3 x.4)
      (λ (h : (j : ℕ) × (i ≡ length table + j) × (slice_get (run r.top n) j ≡ Some t)). let x = run_is r.top n h.0 t h.2 in let a =
      x.0 in let b = x.1 in let c = room.rises in (k, r', set_same rooms k r' in_rooms, (omega arith), (omega arith)))
      (get_either table (run r.top n) i t e);
  full = λ j t q e lo hi. ⊎_elim
      (λ (h : (j ≡ k) × (q ≡ r')). let a : q.old ≡ r'.old = ap (λ (x : Room). x.old) h.1 in let b : q.top ≡ r'.top =
      ap (λ (x : Room). x.top) h.1 in filled t (omega arith) (omega arith))
      (λ (h : (j ≡ k → ⊥) × (slice_get rooms j ≡ Some q)). let x = l.full j t q h.1 lo hi in
      (x.0, get_left table (run r.top n) x.0 (slice_get_within table x.0 t x.1) ∙ x.1))
      (set_either rooms k j r' q e);
}
  where
    room : IsRoom r
    room = l.pages.each k r at

    in_rooms : k < length rooms
    in_rooms = slice_get_within rooms k r at

    new_room : IsRoom r'
    new_room = record {
      above = (let a = room.above in omega arith);
      rises = (let a = room.rises in omega arith);
      within =
          fits;
      small = (let a = room.small in omega arith);
    }

    before : (j : ℕ) (q : Room) → slice_get (set rooms k r') j ≡ Some q → (s : Room) × (slice_get rooms j ≡ Some s) × (s.page ≡ q.page)
    before j q e = ⊎_elim
        (λ (h : (j ≡ k) × (q ≡ r')). (r, ap (slice_get rooms) h.0 ∙ at, sym page ∙ ap (λ (x : Room). x.page) (sym h.1)))
        (λ (h : (j ≡ k → ⊥) × (slice_get rooms j ≡ Some q)). (q, h.1, refl)) (set_either rooms k j r' q e)

    on : (d : ℕ) → d < total ns → moved_to table (4000000000 + d) ≡ moved_to (table ++ run r.top n) (4000000000 + d)
    on d h = let lt : d < length table = (let e = l.size in omega arith) in
        ap (λ (o : Option ℕ). cond (nat_lt (4000000000 + d) 4000000000) (4000000000 + d) (unwrap_or o (4000000000 + d)))
        (let i : 4000000000 + d - 4000000000 ≡ d = omega arith in ap (slice_get table) i ∙ sym (get_left table (run r.top n) d lt)
        ∙ ap (slice_get (table ++ run r.top n)) (sym i))

    new_at : (d : ℕ) → d < n → moved_to (table ++ run r.top n) (4000000000 + total ns + d) ≡ r.top + d
    new_at d h =
        let e : 4000000000 + total ns + d ≡ 4000000000 + (length table + d) = (let s = l.size in omega arith) in
        ap (moved_to (table ++ run r.top n)) e
        ∙ moved_at (table ++ run r.top n) (length table + d) (r.top + d)
        (get_right table (run r.top n) d ∙ run_at r.top n d (omega arith))

    -- an old word lies below the new ones, or in another page
    far : (i t : ℕ) → slice_get table i ≡ Some t → r.top ≤ t → t < r.top + n → ⊥
    far i t e lo hi =
        let x = l.taken i t e in
        let s = l.pages.each x.0 x.1 x.2 in
        let sa = s.above in let sw = s.within in let ra = room.above in let rr = room.rises in
        let x3 = x.3 in let x4 = x.4 in
        let same : x.1.page ≡ r.page = omega arith in
        let j : x.0 ≡ k = l.pages.once x.0 k x.1 r x.2 at same in
        let q : x.1 ≡ r = same_Some x.1 r (sym x.2 ∙ ap (slice_get rooms) j ∙ at) in
        let u : x.1.top ≡ r.top = ap (λ (v : Room). v.top) q in
        omega arith

    both : (i j t : ℕ) → (slice_get table i ≡ Some t) ⊎ ((h : ℕ) × (i ≡ length table + h) × (slice_get (run r.top n) h ≡ Some t))
        → (slice_get table j ≡ Some t) ⊎ ((h : ℕ) × (j ≡ length table + h) × (slice_get (run r.top n) h ≡ Some t)) → i ≡ j
    both i j t (inl e) (inl f) = l.apart i j t e f
    both i j t (inl e) (inr f) = let x = run_is r.top n f.0 t f.2 in let a = x.0 in let b = x.1 in
        absurd (far i t e (omega arith) (omega arith))
    both i j t (inr e) (inl f) = let x = run_is r.top n e.0 t e.2 in let a = x.0 in let b = x.1 in
        absurd (far j t f (omega arith) (omega arith))
    both i j t (inr e) (inr f) = let x = run_is r.top n e.0 t e.2 in let y = run_is r.top n f.0 t f.2 in let a = x.1 in let b = y.1 in
        let c = e.1 in let d = f.1 in omega arith

    place : (j : ℕ) (q : Room) (t : ℕ) → slice_get rooms j ≡ Some q → q.old ≤ t → t < q.top → (h : ℕ) × (s : Room)
        × (slice_get (set rooms k r') h ≡ Some s) × (s.old ≤ t) × (t < s.top)
    place j q t e lo hi = ⊎_elim
        (λ (h : j < k). (j, q, other (λ u. omega arith), lo, hi))
        (λ (h : k ≤ j). ⊎_elim
        (λ (g : k < j). (j, q, other (λ u. omega arith), lo, hi))
        (λ (g : j ≤ k). let same : j ≡ k = omega arith in let u : q ≡ r = same_Some q r (sym e ∙ ap (slice_get rooms) same ∙ at) in
        let a : q.old ≡ r.old = ap (λ (x : Room). x.old) u in let b : q.top ≡ r.top = ap (λ (x : Room). x.top) u in
        (k, r', set_same rooms k r' in_rooms, (omega arith), (omega arith)))
        (cases_lt k j))
        (cases_lt j k)
      where
        other : (j ≡ k → ⊥) → slice_get (set rooms k r') j ≡ Some q
        other f = set_other rooms k j r' f ∙ e
          where
            set_other : (xs : List Room) (i j : ℕ) (v : Room) → (j ≡ i → ⊥) → slice_get (set xs i v) j ≡ slice_get xs j
            set_other [] i j v h = refl
            set_other (x ∷ xs) zero zero v h = absurd (h refl)
            set_other (x ∷ xs) zero (suc j) v h = refl
            set_other (x ∷ xs) (suc i) zero v h = refl
            set_other (x ∷ xs) (suc i) (suc j) v h = set_other xs i j v (λ e. h (ap suc e))

    filled : (t : ℕ) → r.old ≤ t → t < r.top + n → (i : ℕ) × (slice_get (table ++ run r.top n) i ≡ Some t)
    filled t lo hi = ⊎_elim
        (λ (h : t < r.top). let x = l.full k t r at lo h in
        (x.0, get_left table (run r.top n) x.0 (slice_get_within table x.0 t x.1) ∙ x.1))
        (λ (h : r.top ≤ t). (
          length table + (t - r.top),
          get_right table (run r.top n) (t - r.top)
              ∙ run_at r.top n (t - r.top) (omega arith) ∙ ap Some (let e : r.top + (t - r.top) ≡ t = omega arith in e),
        ))
        (cases_lt t r.top)
