-- Where the words of the pieces are.
use Rattle.std.proofs.Common.{◌≡◌, ◌⊎◌, ℕ, suc, ◌+◌, ◌<◌, ◌≤◌, Bool, true, false, cond, List, [], ◌∷◌, length, refl, sym, ap, ◌∙◌, subst}
use Rattle.std.proofs.Common.{inl, inr, arith, true≢false, Option, Some, None}
use Rattle.std.specs.Prelude.{slice_get, nat_eq}
use Rattle.std.proofs.lemmas.Bool.{cond-true, cond-false, ne_eqb}
use Rattle.fcp_model.specs.Places.{Variable, own}
use Rattle.fcp_model.specs.Terms.{Bindings}
use Rattle.fcp_model.specs.Programs.{Goal}
use Rattle.heap_words.specs.Cells.{decoded, is_final_word, is_final_in}
use Rattle.heap_words.specs.Trails.{word_at}
use Rattle.heap_words.specs.declared.cell.Cell.TheVariants.{Unbound, Raw}
use Rattle.heap_words.proofs.Encodings.{decoded_encoded}
use Rattle.heap_words.specs.declared.cell.Cell.TheVariants as cell
use Rattle.heap_words.specs.declared.cell.Stand.TheVariants as stand
use Rattle.word_states.specs.Words.{Words, first_of, row}
use Rattle.word_states.specs.Denoting.{Addresses, Listed}
use Rattle.word_states.specs.Pieces.{rows, StartsAt, is_place, is_process, place_words, process_words, numbered, IsPiece, a_place, a_pair}
use Rattle.word_states.specs.Pieces.{a_tuple, a_wide, a_process, ChildrenSay}
use Rattle.word_states.specs.Layouts.{next_place, next_process}
use Rattle.word_states.proofs.Lists.{word_at-append, in_row, row_none, row_in}

-- A piece begins at s, with the number k' for a place and i' for a process.
abbrev pub Located : ℕ → ℕ → ℕ → List (List ℕ) → ℕ → ℕ → ℕ → List ℕ → Type 0
Located k i b [] k' i' s p = ⊥
Located k i b (q ∷ qs) k' i' s p =
    ((k ≡ k') × (i ≡ i') × (b ≡ s) × (q ≡ p)) ⊎ Located (next_place k q) (next_process i q) (b + length q) qs k' i' s p

pub starts_located : (k i b : ℕ) (ps : List (List ℕ)) (s : ℕ) (p : List ℕ) → StartsAt b ps s p → (k' i' : ℕ) × Located k i b ps k' i' s p
starts_located k i b [] s p h = absurd h
starts_located k i b (q ∷ qs) s p (inl h) = (k, i, inl (refl, refl, h.0, h.1))
starts_located k i b (q ∷ qs) s p (inr h) =
    let r = starts_located (next_place k q) (next_process i q) (b + length q) qs s p h in (r.0, r.1, inr r.2)

pub located_starts : (k i b : ℕ) (ps : List (List ℕ)) (k' i' s : ℕ) (p : List ℕ) → Located k i b ps k' i' s p → StartsAt b ps s p
located_starts k i b [] k' i' s p h = absurd h
located_starts k i b (q ∷ qs) k' i' s p (inl h) = inl (h.2, h.3)
located_starts k i b (q ∷ qs) k' i' s p (inr h) = inr (located_starts (next_place k q) (next_process i q) (b + length q) qs k' i' s p h)

pub starts_above : (b : ℕ) (ps : List (List ℕ)) (s : ℕ) (p : List ℕ) → StartsAt b ps s p → b ≤ s
starts_above b [] s p h = absurd h
starts_above b (q ∷ qs) s p (inl h) = let e : b ≡ s = h.0 in omega arith
starts_above b (q ∷ qs) s p (inr h) = let l = starts_above (b + length q) qs s p h in omega arith

pub in_rows : (b c x : ℕ) (ps : List (List ℕ)) → word_at (rows b ps) c ≡ Some x → (s d : ℕ) × (p : List ℕ) × StartsAt b ps s p
    × (d < length p) × (c ≡ s + d) × (slice_get p d ≡ Some x)
in_rows b c x [] e = let h : None ≡ Some x = e in cc
in_rows b c x (q ∷ qs) e =
    go (word_at (row b q) c) refl (sym (word_at-append (row b q) (rows (b + length q) qs) c) ∙ e) (λ f. in_rows (b + length q) c x qs f)
  where
    go : (o : Option ℕ) → word_at (row b q) c ≡ o → first_of o (word_at (rows (b + length q) qs) c) ≡ Some x
        → (word_at (rows (b + length q) qs) c ≡ Some x → (s d : ℕ) × (p : List ℕ) × StartsAt (b + length q) qs s p × (d < length p)
        × (c ≡ s + d) × (slice_get p d ≡ Some x))
        → (s d : ℕ) × (p : List ℕ) × StartsAt b (q ∷ qs) s p × (d < length p) × (c ≡ s + d) × (slice_get p d ≡ Some x)
    go (Some y) i f g = let r = in_row b c x q (i ∙ f) in (b, r.0, q, inl (refl, refl), r.1, r.2, r.3)
    go None i f g = let r = g f in (r.0, r.1, r.2, inr r.3, r.4, r.5, r.6)

pub rows_in : (b s d x : ℕ) (ps : List (List ℕ)) (p : List ℕ) → StartsAt b ps s p → slice_get p d ≡ Some x
    → word_at (rows b ps) (s + d) ≡ Some x
rows_in b s d x [] p h e = absurd h
rows_in b s d x (q ∷ qs) p (inl h) e =
    let f : word_at (row b q) (s + d) ≡ Some x = ap (λ (c : ℕ). word_at (row b q) (c + d)) (sym h.0)
    ∙ row_in b d x q (ap (λ (l : List ℕ). slice_get l d) h.1 ∙ e) in
    word_at-append (row b q) (rows (b + length q) qs) (s + d)
    ∙ ap (λ (o : Option ℕ). first_of o (word_at (rows (b + length q) qs) (s + d))) f
rows_in b s d x (q ∷ qs) p (inr h) e =
    let l = starts_above (b + length q) qs s p h in
    let f : word_at (row b q) (s + d) ≡ None = row_none b (s + d) q (inr (omega arith)) in
    word_at-append (row b q) (rows (b + length q) qs) (s + d)
    ∙ ap (λ (o : Option ℕ). first_of o (word_at (rows (b + length q) qs) (s + d))) f ∙ rows_in (b + length q) s d x qs p h e

pub rows_above : (b c x : ℕ) (ps : List (List ℕ)) → word_at (rows b ps) c ≡ Some x → b ≤ c
rows_above b c x ps e = let r = in_rows b c x ps e in let l = starts_above b ps r.0 r.2 r.3 in let q = r.5 in omega arith

pub zero_is : decoded 0 ≡ Some (Unbound 0)
zero_is = decoded_encoded (Unbound 0) (omega arith)

pub nine_is : decoded 9 ≡ Some (cell.Status stand.Ready)
nine_is = decoded_encoded (cell.Status stand.Ready) tt

pub not_zero : (x : ℕ) → is_final_word x ≡ true → nat_eq x 0 ≡ false
not_zero x h = ne_eqb x 0 (λ e. true≢false (sym h ∙ ap is_final_word e ∙ ap is_final_in zero_is))

pub not_nine : (x : ℕ) → is_final_word x ≡ true → nat_eq x 9 ≡ false
not_nine x h = ne_eqb x 9 (λ e. true≢false (sym h ∙ ap is_final_word e ∙ ap is_final_in nine_is))

pub raw_final : (x n : ℕ) → decoded x ≡ Some (Raw n) → is_final_word x ≡ true
raw_final x n e = ap is_final_in e

not_place_two : (x y : ℕ) → nat_eq x 0 ≡ false → is_place (x ∷ y ∷ []) ≡ false
not_place_two x y e = e

pub not_place : (x : ℕ) (xs : List ℕ) → nat_eq x 0 ≡ false → is_place (x ∷ xs) ≡ false
not_place x [] e = refl
not_place x (y ∷ []) e = e
not_place x (y ∷ z ∷ xs) e = refl

-- a piece with the form of a place, or of a process
pub the_place : (p : List ℕ) → IsPiece p → is_place p ≡ true → (v : ℕ) × (p ≡ 0 ∷ v ∷ [])
the_place p (a_place v q h) e = (v, q)
the_place p (a_pair u v q hu hv raw) e = absurd (true≢false (sym e ∙ ap is_place q ∙ not_place u (v ∷ []) (not_zero u hu)))
the_place p (a_tuple r m xs q hr size h) e = absurd (true≢false (sym e ∙ ap is_place q ∙ not_place r xs (not_zero r (raw_final r m hr))))
the_place p (a_wide v z q hv) e = absurd (true≢false (sym e ∙ ap is_place q))
the_place p (a_process g h r m xs q hg hr size fin) e = absurd (true≢false (sym e ∙ ap is_place q))

pub the_process : (p : List ℕ) → IsPiece p → is_process p ≡ true → (g r m : ℕ) × (xs : List ℕ) × (p ≡ 9 ∷ 0 ∷ g ∷ r ∷ xs)
    × (decoded r ≡ Some (Raw m)) × (length xs ≡ m)
the_process p (a_place v q h) e = absurd (true≢false (sym e ∙ ap is_process q))
the_process p (a_pair u v q hu hv raw) e = absurd (true≢false (sym e ∙ ap is_process q ∙ not_nine u hu))
the_process p (a_tuple r m xs q hr size h) e = absurd (true≢false (sym e ∙ ap is_process q ∙ not_nine r (raw_final r m hr)))
the_process p (a_wide v z q hv) e = absurd (true≢false (sym e ∙ ap is_process q ∙ not_nine v (ap is_final_in hv)))
the_process p (a_process g h r m xs q hg hr size fin) e = (g, r, m, xs, q, hr, size)

-- numbers and addresses rise
pub located_above : (k i b : ℕ) (ps : List (List ℕ)) (k' i' s : ℕ) (p : List ℕ) → Located k i b ps k' i' s p → (k ≤ k') × (i ≤ i') × (b ≤ s)
located_above k i b [] k' i' s p h = absurd h
located_above k i b (q ∷ qs) k' i' s p (inl h) = let e = h.0 in let f = h.1 in let g = h.2 in (omega arith, omega arith, omega arith)
located_above k i b (q ∷ qs) k' i' s p (inr h) =
    let r = located_above (next_place k q) (next_process i q) (b + length q) qs k' i' s p h in
    let x = r.0 in let y = r.1 in let z = r.2 in
    let u = rises (is_place q) k in
    let v = rises (is_process q) i in
    (omega arith, omega arith, omega arith)
  where
    rises : (t : Bool) (k : ℕ) → k ≤ cond t (suc k) k
    rises true k = omega arith
    rises false k = omega arith

place_size : (q : List ℕ) → is_place q ≡ true → 2 ≤ length q
place_size [] e = absurd (true≢false (sym e))
place_size (x ∷ []) e = absurd (true≢false (sym e))
place_size (x ∷ y ∷ q) e = omega arith

process_size : (q : List ℕ) → is_process q ≡ true → 1 ≤ length q
process_size [] e = absurd (true≢false (sym e))
process_size (x ∷ q) e = omega arith

-- places have their own numbers
pub place_once : (k i b : ℕ) (ps : List (List ℕ)) (k1 i1 s1 : ℕ) (p1 : List ℕ) (k2 i2 s2 : ℕ) (p2 : List ℕ)
    → Located k i b ps k1 i1 s1 p1 → Located k i b ps k2 i2 s2 p2 → is_place p1 ≡ true → is_place p2 ≡ true → (k1 ≡ k2 → s1 ≡ s2)
    × (s1 ≡ s2 → k1 ≡ k2)
place_once k i b [] k1 i1 s1 p1 k2 i2 s2 p2 g h e f = absurd g
place_once k i b (q ∷ qs) k1 i1 s1 p1 k2 i2 s2 p2 (inl g) (inl h) e f = ((λ _. sym g.2 ∙ h.2), (λ _. sym g.0 ∙ h.0))
place_once k i b (q ∷ qs) k1 i1 s1 p1 k2 i2 s2 p2 (inl g) (inr h) e f =
    let is : is_place q ≡ true = ap is_place g.3 ∙ e in
    let r = located_above (next_place k q) (next_process i q) (b + length q) qs k2 i2 s2 p2 h in
    let lt : suc k ≤ k2 = subst (λ (z : ℕ). z ≤ k2) (cond-true _ _ _ is) r.0 in
    let size = place_size q is in
    let x = g.0 in let y = g.2 in let z = r.2 in
    ((λ u. absurd (omega arith)), (λ u. absurd (omega arith)))
place_once k i b (q ∷ qs) k1 i1 s1 p1 k2 i2 s2 p2 (inr g) (inl h) e f =
    let is : is_place q ≡ true = ap is_place h.3 ∙ f in
    let r = located_above (next_place k q) (next_process i q) (b + length q) qs k1 i1 s1 p1 g in
    let lt : suc k ≤ k1 = subst (λ (z : ℕ). z ≤ k1) (cond-true _ _ _ is) r.0 in
    let size = place_size q is in
    let x = h.0 in let y = h.2 in let z = r.2 in
    ((λ u. absurd (omega arith)), (λ u. absurd (omega arith)))
place_once k i b (q ∷ qs) k1 i1 s1 p1 k2 i2 s2 p2 (inr g) (inr h) e f =
    place_once (next_place k q) (next_process i q) (b + length q) qs k1 i1 s1 p1 k2 i2 s2 p2 g h e f

-- and of two the one with the higher number stands further on
pub place_rises : (k i b : ℕ) (ps : List (List ℕ)) (k1 i1 s1 : ℕ) (p1 : List ℕ) (k2 i2 s2 : ℕ) (p2 : List ℕ)
    → Located k i b ps k1 i1 s1 p1 → Located k i b ps k2 i2 s2 p2 → is_place p1 ≡ true → k1 < k2 → s1 < s2
place_rises k i b [] k1 i1 s1 p1 k2 i2 s2 p2 g h e lt = absurd g
place_rises k i b (q ∷ qs) k1 i1 s1 p1 k2 i2 s2 p2 (inl g) (inl h) e lt = let x = g.0 in let y = h.0 in absurd (omega arith)
place_rises k i b (q ∷ qs) k1 i1 s1 p1 k2 i2 s2 p2 (inl g) (inr h) e lt =
    let r = located_above (next_place k q) (next_process i q) (b + length q) qs k2 i2 s2 p2 h in
    let size = place_size q (ap is_place g.3 ∙ e) in
    let y = g.2 in let z = r.2 in
    omega arith
place_rises k i b (q ∷ qs) k1 i1 s1 p1 k2 i2 s2 p2 (inr g) (inl h) e lt =
    let r = located_above k i b (q ∷ qs) k1 i1 s1 p1 (inr g) in
    let x = h.0 in let z = r.0 in
    absurd (omega arith)
place_rises k i b (q ∷ qs) k1 i1 s1 p1 k2 i2 s2 p2 (inr g) (inr h) e lt =
    place_rises (next_place k q) (next_process i q) (b + length q) qs k1 i1 s1 p1 k2 i2 s2 p2 g h e lt

-- processes have their own numbers too
pub process_once : (k i b : ℕ) (ps : List (List ℕ)) (k1 i1 s1 : ℕ) (p1 : List ℕ) (k2 i2 s2 : ℕ) (p2 : List ℕ)
    → Located k i b ps k1 i1 s1 p1 → Located k i b ps k2 i2 s2 p2 → is_process p1 ≡ true → is_process p2 ≡ true → (i1 ≡ i2 → s1 ≡ s2)
    × (s1 ≡ s2 → i1 ≡ i2)
process_once k i b [] k1 i1 s1 p1 k2 i2 s2 p2 g h e f = absurd g
process_once k i b (q ∷ qs) k1 i1 s1 p1 k2 i2 s2 p2 (inl g) (inl h) e f = ((λ _. sym g.2 ∙ h.2), (λ _. sym g.1 ∙ h.1))
process_once k i b (q ∷ qs) k1 i1 s1 p1 k2 i2 s2 p2 (inl g) (inr h) e f =
    let is : is_process q ≡ true = ap is_process g.3 ∙ e in
    let r = located_above (next_place k q) (next_process i q) (b + length q) qs k2 i2 s2 p2 h in
    let lt : suc i ≤ i2 = subst (λ (z : ℕ). z ≤ i2) (cond-true _ _ _ is) r.1 in
    let size = process_size q is in
    let x = g.1 in let y = g.2 in let z = r.2 in
    ((λ u. absurd (omega arith)), (λ u. absurd (omega arith)))
process_once k i b (q ∷ qs) k1 i1 s1 p1 k2 i2 s2 p2 (inr g) (inl h) e f =
    let is : is_process q ≡ true = ap is_process h.3 ∙ f in
    let r = located_above (next_place k q) (next_process i q) (b + length q) qs k1 i1 s1 p1 g in
    let lt : suc i ≤ i1 = subst (λ (z : ℕ). z ≤ i1) (cond-true _ _ _ is) r.1 in
    let size = process_size q is in
    let x = h.1 in let y = h.2 in let z = r.2 in
    ((λ u. absurd (omega arith)), (λ u. absurd (omega arith)))
process_once k i b (q ∷ qs) k1 i1 s1 p1 k2 i2 s2 p2 (inr g) (inr h) e f =
    process_once (next_place k q) (next_process i q) (b + length q) qs k1 i1 s1 p1 k2 i2 s2 p2 g h e f

-- a variable's word comes after the name of its place
pub variable_at : (k i b : ℕ) (ps : List (List ℕ)) (v : Variable) (a : ℕ) → Listed (numbered k (place_words b ps)) v a → (j i' s : ℕ)
    × (p : List ℕ) × (v ≡ own j) × Located k i b ps j i' s p × (is_place p ≡ true) × (a ≡ suc s)
variable_at k i b [] v a h = absurd h
variable_at k i b (q ∷ qs) v a h = go (is_place q) refl h (λ l g. variable_at l (next_process i q) (b + length q) qs v a g)
  where
    go : (t : Bool) → is_place q ≡ t
        → Listed (numbered k (cond t (suc b ∷ place_words (b + length q) qs) (place_words (b + length q) qs))) v a
        → ((l : ℕ) → Listed (numbered l (place_words (b + length q) qs)) v a → (j i' s : ℕ) × (p : List ℕ) × (v ≡ own j)
        × Located l (next_process i q) (b + length q) qs j i' s p × (is_place p ≡ true) × (a ≡ suc s))
        → (j i' s : ℕ) × (p : List ℕ) × (v ≡ own j) × Located k i b (q ∷ qs) j i' s p × (is_place p ≡ true) × (a ≡ suc s)
    go true e (inl g) f =
        let x : own k ≡ v = ap (λ (z : Variable × ℕ). z.0) g in let y : suc b ≡ a = ap (λ (z : Variable × ℕ). z.1) g in
        (k, i, b, q, sym x, inl (refl, refl, refl, refl), e, sym y)
    go true e (inr g) f =
        let r = f (suc k) g in (
          r.0,
          r.1,
          r.2,
          r.3,
          r.4,
          inr (subst (λ (z : ℕ). Located z (next_process i q) (b + length q) qs r.0 r.1 r.2 r.3) (sym (cond-true _ _ _ e)) r.5),
          r.6,
          r.7,
        )
    go false e g f =
        let r = f k g in (
          r.0,
          r.1,
          r.2,
          r.3,
          r.4,
          inr (subst (λ (z : ℕ). Located z (next_process i q) (b + length q) qs r.0 r.1 r.2 r.3) (sym (cond-false _ _ _ e)) r.5),
          r.6,
          r.7,
        )

-- the numbers of places are at most so many
pub place_number : (k i b : ℕ) (ps : List (List ℕ)) (k' i' s : ℕ) (p : List ℕ) → Located k i b ps k' i' s p → is_place p ≡ true
    → k' < k + length (place_words b ps)
place_number k i b [] k' i' s p h e = absurd h
place_number k i b (q ∷ qs) k' i' s p h e =
    go (is_place q) refl h (λ l g. place_number l (next_process i q) (b + length q) qs k' i' s p g e)
  where
    go : (t : Bool) → is_place q ≡ t → Located k i b (q ∷ qs) k' i' s p → ((l : ℕ)
        → Located l (next_process i q) (b + length q) qs k' i' s p → k' < l + length (place_words (b + length q) qs))
        → k' < k + length (cond t (suc b ∷ place_words (b + length q) qs) (place_words (b + length q) qs))
    go true u (inl g) f = let x = g.0 in omega arith
    go true u (inr g) f =
        let r = f (suc k) (subst (λ (z : ℕ). Located z (next_process i q) (b + length q) qs k' i' s p) (cond-true _ _ _ u) g) in omega arith
    go false u (inl g) f = absurd (true≢false (sym e ∙ ap is_place (sym g.3) ∙ u))
    go false u (inr g) f = f k (subst (λ (z : ℕ). Located z (next_process i q) (b + length q) qs k' i' s p) (cond-false _ _ _ u) g)

pub process_number : (k i b : ℕ) (ps : List (List ℕ)) (k' i' s : ℕ) (p : List ℕ) → Located k i b ps k' i' s p → is_process p ≡ true
    → i' < i + length (process_words b ps)
process_number k i b [] k' i' s p h e = absurd h
process_number k i b (q ∷ qs) k' i' s p h e =
    go (is_process q) refl h (λ l g. process_number (next_place k q) l (b + length q) qs k' i' s p g e)
  where
    go : (t : Bool) → is_process q ≡ t → Located k i b (q ∷ qs) k' i' s p → ((l : ℕ)
        → Located (next_place k q) l (b + length q) qs k' i' s p → i' < l + length (process_words (b + length q) qs))
        → i' < i + length (cond t (b ∷ process_words (b + length q) qs) (process_words (b + length q) qs))
    go true u (inl g) f = let x = g.1 in omega arith
    go true u (inr g) f =
        let r = f (suc i) (subst (λ (z : ℕ). Located (next_place k q) z (b + length q) qs k' i' s p) (cond-true _ _ _ u) g) in omega arith
    go false u (inl g) f = absurd (true≢false (sym e ∙ ap is_process (sym g.3) ∙ u))
    go false u (inr g) f = f i (subst (λ (z : ℕ). Located (next_place k q) z (b + length q) qs k' i' s p) (cond-false _ _ _ u) g)

-- the children
pub children_size : (w : Words) (vs : Addresses) (bs : Bindings) (qs : List ℕ) (gs : List (Goal ℕ)) → ChildrenSay w vs bs qs gs
    → length qs ≡ length gs
children_size w vs bs [] [] h = refl
children_size w vs bs [] (g ∷ gs) h = absurd h
children_size w vs bs (q ∷ qs) [] h = absurd h
children_size w vs bs (q ∷ qs) (g ∷ gs) h = ap suc (children_size w vs bs qs gs h.1)
