-- Where the words of laid pieces go.
use Rattle.std.proofs.Common.{◌≡◌, ℕ, ◌+◌, ◌-◌, ◌<◌, ◌≤◌, Bool, true, false, cond, List, [], ◌∷◌, length, slice_get}
use Rattle.std.proofs.Common.{refl, sym, ap, ◌∙◌, subst, ⊎_elim, inl, inr, arith, Option, Some, None}
use Rattle.std.specs.Prelude.{nat_lt, unwrap_or}
use Rattle.std.proofs.lemmas.Bool.{cases_lt}
use Rattle.heap_words.specs.Trails.{word_at}
use Rattle.word_states.specs.Words.{row, first_of, AreApart}
use Rattle.word_states.specs.Pieces.{rows, StartsAt}
use Rattle.word_states.specs.Layouts.{laid_piece, next_place, next_process}
use Rattle.word_states.specs.Planning.{laid_rows, AreWhole}
use Rattle.word_states.proofs.Lists.{get_of, row_in, word_at-append}
use Rattle.word_states.proofs.Pieces.{in_rows, starts_above, rows_above}
use Rattle.word_state_laws.proofs.CommitPlans.{among_row, laid_length, later_rows, own_of}
use Rattle.page_layout.specs.declared.rooms.Room.{Room}
use Rattle.page_layout.specs.Laying.{moved_to, IsLaid}
use Rattle.page_layout.proofs.Filling.{moved_at, moved_old}
use Rattle.page_layout.proofs.Sizes.{IsSized, words_of, sized_total}
use Rattle.page_layout.proofs.Apart.{apart_append, apart_row}

-- the number of a word among all words of the pieces
in_table : (b c x : ℕ) (qs : List (List ℕ)) → word_at (rows b qs) c ≡ Some x → (i : ℕ) × (i < words_of qs) × (c ≡ b + i)
in_table b c x [] e = let bad : None ≡ Some x = e in cc
in_table b c x (q ∷ qs) e =
    let r = in_rows b c x (q ∷ qs) e in
    let l = starts_above b (q ∷ qs) r.0 r.2 r.3 in
    let z = below b (q ∷ qs) r.0 r.2 r.3 in
    let u = r.4 in
    let v = r.5 in
    (c - b, (omega arith), (omega arith))
  where
    below : (b : ℕ) (qs : List (List ℕ)) (s : ℕ) (p : List ℕ) → StartsAt b qs s p → s + length p ≤ b + words_of qs
    below b [] s p h = absurd h
    below b (q ∷ qs) s p (inl h) = let e = h.0 in let f = ap length h.1 in omega arith
    below b (q ∷ qs) s p (inr h) = let z = below (b + length q) qs s p h in omega arith

-- a map under which no two words of pieces meet leaves their rows apart
pub apart_rows : (f : ℕ → ℕ) (n k i b : ℕ) (qs : List (List ℕ)) → AreWhole f b qs
    → ((a c x y : ℕ) → word_at (rows b qs) a ≡ Some x → word_at (rows b qs) c ≡ Some y → f a ≡ f c → a ≡ c)
    → AreApart (laid_rows f n k i b qs)
apart_rows f n k i b [] w h = tt
apart_rows f n k i b (q ∷ qs) w h =
    apart_append (row (f b) (laid_piece f n k i q)) _ (apart_row (f b) (laid_piece f n k i q))
    (apart_rows f n (next_place k q) (next_process i q) (b + length q) qs w.1 (λ a c x y e g j. h a c x y
    (later_rows b a x q qs (rows_above (b + length q) a x qs e) e) (later_rows b c y q qs (rows_above (b + length q) c y qs g) g) j))
    (λ a x y s t.
    let r = among_row (f b) a x (laid_piece f n k i q) s in
    let lt = r.1 in
    let le = laid_length f n k i q in
    let below : r.0 < length q = omega arith in
    let g = get_of q r.0 below in
    let here : word_at (rows b (q ∷ qs)) (b + r.0) ≡ Some g.0 = word_at-append (row b q) (rows (b + length q) qs) (b + r.0)
    ∙ ap (λ (o : Option ℕ). first_of o (word_at (rows (b + length q) qs) (b + r.0))) (row_in b r.0 g.0 q g.1) in
    let o = own_of f n (next_place k q) (next_process i q) (b + length q) qs a y w.1 t in
    let u = o.4 in
    let v = h (b + r.0) o.0 g.0 o.1 here (later_rows b o.0 o.1 q qs u o.2) (w.0 r.0 below ∙ sym r.2 ∙ o.3) in
    absurd (omega arith))

module _ (rooms : List Room) (table sizes : List ℕ) (laid : IsLaid rooms table sizes) where
  pub small : (a : ℕ) → a < 0x100000000 → moved_to table a < 0x100000000
  small a h = ⊎_elim
      (λ (l : a < 4000000000). subst (λ (t : ℕ). t < 0x100000000) (sym (moved_old table a l)) h)
      (λ (l : 4000000000 ≤ a). go (slice_get table (a - 4000000000)) refl) (cases_lt a 4000000000)
    where
      out : (t : Bool) (o : Option ℕ) → ((z : ℕ) → o ≡ Some z → z < 0x100000000) → cond t a (unwrap_or o a) < 0x100000000
      out true o k = h
      out false None k = h
      out false (Some z) k = k z refl

      go : (o : Option ℕ) → slice_get table (a - 4000000000) ≡ o → moved_to table a < 0x100000000
      go o i = out (nat_lt a 4000000000) (slice_get table (a - 4000000000)) (λ z e.
          let y = laid.taken (a - 4000000000) z e in
          let r = laid.pages.each y.0 y.1 y.2 in
          let l = y.4 in
          let w = r.within in
          let s = r.small in
          omega arith)

  module _ (ps : List (List ℕ)) (sized : IsSized ps sizes) where
    pub goes : (a x : ℕ) → word_at (rows 4000000000 ps) a ≡ Some x
        → (i t : ℕ) × (a ≡ 4000000000 + i) × (slice_get table i ≡ Some t) × (moved_to table a ≡ t)
    goes a x e =
        let r = in_table 4000000000 a x ps e in
        let lt : r.0 < length table = (let s = laid.size in let l = r.1 in let z = sized_total ps sizes sized in omega arith) in
        let g = get_of table r.0 lt in
        (r.0, g.0, r.2, g.1, ap (moved_to table) r.2 ∙ moved_at table r.0 g.0 g.1)

    pub one : (a b x y : ℕ) → word_at (rows 4000000000 ps) a ≡ Some x → word_at (rows 4000000000 ps) b ≡ Some y
        → moved_to table a ≡ moved_to table b → a ≡ b
    one a b x y e f h =
        let r = goes a x e in
        let s = goes b y f in
        let same : r.1 ≡ s.1 = sym r.4 ∙ h ∙ s.4 in
        let i = laid.apart r.0 s.0 s.1 (r.3 ∙ ap Some same) s.3 in
        r.2 ∙ ap (λ (k : ℕ). 4000000000 + k) i ∙ sym s.2

    -- a word goes into a room
    pub lands : (a x : ℕ) → word_at (rows 4000000000 ps) a ≡ Some x
        → (k : ℕ) × (r : Room) × (slice_get rooms k ≡ Some r) × (r.old ≤ moved_to table a) × (moved_to table a < r.top)
    lands a x e =
        let g = goes a x e in
        let z = laid.taken g.0 g.1 g.3 in
        (z.0, z.1, z.2, subst (λ (t : ℕ). z.1.old ≤ t) (sym g.4) z.3, subst (λ (t : ℕ). t < z.1.top) (sym g.4) z.4)
