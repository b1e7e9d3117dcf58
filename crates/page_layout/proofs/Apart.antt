-- Writes of which none has another's address.
use Rattle.std.proofs.Common.{◌≡◌, ℕ, zero, suc, ◌*◌, ◌<◌, Bool, true, false, cond, List, [], ◌∷◌, ◌++◌, slice_get}
use Rattle.std.proofs.Common.{refl, sym, ap, subst, ⊎_elim, inl, inr, arith, Some, None}
use Rattle.std.specs.Prelude.{nat_lt}
use Rattle.std.proofs.lemmas.Bool.{lt-ltb, ltb-true}
use Rattle.std.proofs.lemmas.Option.{same_Some}
use Rattle.heap_words.specs.Cells.{encoded}
use Rattle.heap_words.specs.Trails.{WordList}
use Rattle.heap_words.specs.declared.cell.Cell.TheVariants.{Top}
use Rattle.word_states.specs.Words.{Among, AreApart, row, AreDistinct}
use Rattle.word_states.specs.Planning.{moved_binds, ready_words}
use Rattle.word_states.proofs.Lists.{among_either}
use Rattle.word_state_laws.proofs.CommitPlans.{among_moved, among_ready, among_row}
use Rattle.page_layout.specs.declared.rooms.Room.{Room}
use Rattle.page_layout.specs.Laying.{tops_of}

pub apart_append : (xs ys : WordList) → AreApart xs → AreApart ys → ((a x y : ℕ) → Among xs (a, x) → Among ys (a, y) → ⊥)
    → AreApart (xs ++ ys)
apart_append [] ys p q h = q
apart_append (x ∷ xs) ys p q h = (
  (λ y k. ⊎_elim (λ (t : Among xs (x.0, y)). p.0 y t) (λ (t : Among ys (x.0, y)). h x.0 x.1 y (inl refl) t)
      (among_either xs ys (x.0, y) k)),
  apart_append xs ys p.1 q (λ a u v s t. h a u v (inr s) t),
)

pub apart_moved : (f : ℕ → ℕ) (bs : WordList) → AreApart bs → AreApart (moved_binds f bs)
apart_moved f [] p = tt
apart_moved f (b ∷ bs) p = ((λ y k. let r = among_moved f bs b.0 y k in p.0 r.0 r.1), apart_moved f bs p.1)

pub apart_ready : (qs : List ℕ) → AreDistinct qs → AreApart (ready_words qs)
apart_ready [] p = tt
apart_ready (q ∷ qs) p = ((λ y k. p.0 (among_ready qs q y k)), apart_ready qs p.1)

pub apart_row : (a : ℕ) (xs : List ℕ) → AreApart (row a xs)
apart_row a [] = tt
apart_row a (x ∷ xs) = (
  (λ y k. let r = among_row (suc a) a y xs k in let e = r.2 in absurd (omega arith)),
  apart_row (suc a) xs,
)

-- a top that rises is a room's
pub in_tops : (rs : List Room) (a x : ℕ) → Among (tops_of rs) (a, x)
    → (k : ℕ) × (r : Room) × (slice_get rs k ≡ Some r) × (r.old < r.top) × (a ≡ 1024 * r.page) × (x ≡ encoded (Top r.top))
in_tops [] a x h = absurd h
in_tops (r ∷ rs) a x h = go (nat_lt r.old r.top) refl h (λ m. in_tops rs a x m)
  where
    go : (t : Bool) → nat_lt r.old r.top ≡ t → Among (cond t ((1024 * r.page, encoded (Top r.top)) ∷ tops_of rs) (tops_of rs)) (a, x)
        → (Among (tops_of rs) (a, x) → (k : ℕ) × (q : Room) × (slice_get rs k ≡ Some q) × (q.old < q.top) × (a ≡ 1024 * q.page)
        × (x ≡ encoded (Top q.top)))
        → (k : ℕ) × (q : Room) × (slice_get (r ∷ rs) k ≡ Some q) × (q.old < q.top) × (a ≡ 1024 * q.page) × (x ≡ encoded (Top q.top))
    go true i (inl e) f = (0, r, refl, ltb-true _ _ i, ap (λ (z : ℕ × ℕ). z.0) (sym e), ap (λ (z : ℕ × ℕ). z.1) (sym e))
    go true i (inr m) f = let y = f m in (suc y.0, y.1, y.2, y.3, y.4, y.5)
    go false i m f = let y = f m in (suc y.0, y.1, y.2, y.3, y.4, y.5)

pub tops_in : (rs : List Room) (k : ℕ) (r : Room) → slice_get rs k ≡ Some r → r.old < r.top
    → Among (tops_of rs) (1024 * r.page, encoded (Top r.top))
tops_in [] k r e lt = let bad : None ≡ Some r = e in cc
tops_in (q ∷ rs) zero r e lt =
    let s : q ≡ r = same_Some q r e in
    subst
    (λ (b : Bool). Among (cond b ((1024 * q.page, encoded (Top q.top)) ∷ tops_of rs) (tops_of rs)) (1024 * r.page, encoded (Top r.top)))
    (sym (lt-ltb q.old q.top (subst (λ (z : Room). z.old < z.top) (sym s) lt)))
    (inl (ap (λ (z : Room). (1024 * z.page, encoded (Top z.top))) s))
tops_in (q ∷ rs) (suc k) r e lt = go (nat_lt q.old q.top) (tops_in rs k r e lt)
  where
    go : (t : Bool) → Among (tops_of rs) (1024 * r.page, encoded (Top r.top))
        → Among (cond t ((1024 * q.page, encoded (Top q.top)) ∷ tops_of rs) (tops_of rs)) (1024 * r.page, encoded (Top r.top))
    go true m = inr m
    go false m = m

pub apart_tops : (rs : List Room) → ((j k : ℕ) (r q : Room) → slice_get rs j ≡ Some r → slice_get rs k ≡ Some q → r.page ≡ q.page → j ≡ k)
    → AreApart (tops_of rs)
apart_tops [] once = tt
apart_tops (r ∷ rs) once =
    go (nat_lt r.old r.top) (apart_tops rs (λ j k s q e f h. let u = once (suc j) (suc k) s q e f h in omega arith))
  where
    go : (t : Bool) → AreApart (tops_of rs) → AreApart (cond t ((1024 * r.page, encoded (Top r.top)) ∷ tops_of rs) (tops_of rs))
    go true p = (
      (λ y m.
          let z = in_tops rs (1024 * r.page) y m in
          let e = z.4 in
          let u = once 0 (suc z.0) r z.1 refl z.2 (omega arith) in
          absurd (omega arith)),
      p,
    )
    go false p = p
