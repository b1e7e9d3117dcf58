-- The words of the pieces after they are laid.
use Rattle.std.proofs.Common.{◌≡◌, ◌⊎◌, ℕ, zero, suc, ◌+◌, ◌<◌, Bool, true, false, cond, List, [], ◌∷◌, length, map, refl, sym, ap, ◌∙◌}
use Rattle.std.proofs.Common.{subst, inl, inr, arith, true≢false, Option, Some, None}
use Rattle.std.specs.Prelude.{slice_get}
use Rattle.std.proofs.lemmas.Bool.{cond-true, cond-false}
use Rattle.std.proofs.lemmas.Option.{same_Some}
use Rattle.fcp_model.specs.Places.{Variable, own, proc}
use Rattle.fcp_model.specs.Terms.{Bindings}
use Rattle.fcp_model.specs.Programs.{Goal, rename_goal}
use Rattle.fcp_model.specs.States.{ready, Process, processes_of}
use Rattle.heap_words.specs.Cells.{decoded, IsCell, is_final_word, is_final_in, is_final_cell}
use Rattle.heap_words.specs.declared.cell.Cell.{Cell}
use Rattle.heap_words.specs.declared.cell.Cell.TheVariants.{Unbound, Ref, RoRef, Small, Wide, Str, Nil, Cons, Tuple, Raw, Top}
use Rattle.heap_words.proofs.Encodings.{decoded_encoded, encoded_decoded}
use Rattle.heap_words.specs.declared.cell.Cell.TheVariants as cell
use Rattle.word_states.specs.Words.{Words, StandAt}
use Rattle.word_states.specs.Denoting.{Addresses}
use Rattle.word_states.specs.Leading.{GoalStands}
use Rattle.word_states.specs.Standing.{StandsAt}
use Rattle.word_states.specs.Pieces.{is_place, is_process, process_words, AreFinal, IsPiece, a_place, a_pair, a_tuple, a_wide, a_process}
use Rattle.word_states.specs.Pieces.{ChildrenSay}
use Rattle.word_states.specs.Layouts.{moved_cell, moved_in, moved, name_word, laid_piece, next_place, next_process, AreLaid}
use Rattle.word_states.proofs.Pieces.{Located, not_zero, not_nine, raw_final, not_place}

-- the laid words of a piece
pub laid_of : (f : ℕ → ℕ) (n : ℕ) (w : Words) (k i b : ℕ) (ps : List (List ℕ)) (k' i' s : ℕ) (p : List ℕ) → AreLaid f n w k i b ps
    → Located k i b ps k' i' s p → ((d : ℕ) → d < length p → f (s + d) ≡ f s + d) × StandAt w (f s) (laid_piece f n k' i' p)
laid_of f n w k i b [] k' i' s p l h = absurd h
laid_of f n w k i b (q ∷ qs) k' i' s p l (inl h) = (
  subst (λ (c : ℕ). (d : ℕ) → d < length p → f (c + d) ≡ f c + d) h.2 (subst (λ (r : List ℕ). (d : ℕ) → d < length r
      → f (b + d) ≡ f b + d) h.3 l.0),
  subst (λ (c : ℕ). StandAt w (f c) (laid_piece f n k' i' p)) h.2 (subst (λ (r : List ℕ). StandAt w (f b) (laid_piece f n k' i' r)) h.3
      (subst (λ (j : ℕ). StandAt w (f b) (laid_piece f n k' j q)) h.1 (subst (λ (j : ℕ). StandAt w (f b) (laid_piece f n j i q)) h.0 l.1))),
)
laid_of f n w k i b (q ∷ qs) k' i' s p l (inr h) = laid_of f n w (next_place k q) (next_process i q) (b + length q) qs k' i' s p l.2 h

pub stand_get : (w : Words) (a : ℕ) (xs : List ℕ) (d x : ℕ) → StandAt w a xs → slice_get xs d ≡ Some x → w (a + d) ≡ Some x
stand_get w a [] d x h e = let i : None ≡ Some x = e in cc
stand_get w a (y ∷ ys) zero x h e = let p : a + 0 ≡ a = omega arith in ap w p ∙ h.0 ∙ e
stand_get w a (y ∷ ys) (suc d) x h e = let p : a + suc d ≡ suc a + d = omega arith in ap w p ∙ stand_get w (suc a) ys d x h.1 e

-- the word of a moved cell
moved_fits : (f : ℕ → ℕ) (c : Cell) → ((a : ℕ) → a < 0x100000000 → f a < 0x100000000) → IsCell c → IsCell (moved_cell f c)
moved_fits f (Unbound a) small i = i
moved_fits f (Ref a) small i = small a i
moved_fits f (RoRef a) small i = small a i
moved_fits f (Small z) small i = i
moved_fits f (Wide a h) small i = (small a i.0, i.1)
moved_fits f (Str s) small i = i
moved_fits f Nil small i = i
moved_fits f (Cons a) small i = small a i
moved_fits f (Tuple a) small i = small a i
moved_fits f (cell.Status d) small i = i
moved_fits f (Raw n) small i = i
moved_fits f (Top a) small i = i

pub becomes_moved : (f : ℕ → ℕ) (x : ℕ) (c : Cell) → ((a : ℕ) → a < 0x100000000 → f a < 0x100000000) → decoded x ≡ Some c
    → decoded (moved f x) ≡ Some (moved_cell f c)
becomes_moved f x c small e =
    ap (λ (o : Option Cell). decoded (moved_in f x o)) e ∙ decoded_encoded (moved_cell f c) (moved_fits f c small (encoded_decoded x c e).0)

moved_final : (f : ℕ → ℕ) (c : Cell) → is_final_cell (moved_cell f c) ≡ is_final_cell c
moved_final f (Unbound a) = refl
moved_final f (Ref a) = refl
moved_final f (RoRef a) = refl
moved_final f (Small z) = refl
moved_final f (Wide a h) = refl
moved_final f (Str s) = refl
moved_final f Nil = refl
moved_final f (Cons a) = refl
moved_final f (Tuple a) = refl
moved_final f (cell.Status d) = refl
moved_final f (Raw n) = refl
moved_final f (Top a) = refl

-- a final word stays final
pub final_moved : (f : ℕ → ℕ) (x : ℕ) → ((a : ℕ) → a < 0x100000000 → f a < 0x100000000) → is_final_word x ≡ true
    → is_final_word (moved f x) ≡ true
final_moved f x small h = go (decoded x) refl h
  where
    go : (o : Option Cell) → decoded x ≡ o → is_final_in o ≡ true → is_final_word (moved f x) ≡ true
    go None e i = ap (λ (o : Option Cell). is_final_word (moved_in f x o)) e ∙ h
    go (Some c) e i = ap is_final_in (becomes_moved f x c small e) ∙ moved_final f c ∙ i

pub get_final : (xs : List ℕ) (d x : ℕ) → AreFinal xs → slice_get xs d ≡ Some x → is_final_word x ≡ true
get_final [] d x h e = let i : None ≡ Some x = e in cc
get_final (y ∷ ys) zero x h e = ap is_final_word (sym (same_Some y x e)) ∙ h.0
get_final (y ∷ ys) (suc d) x h e = get_final ys d x h.1 e

pub map_get : (g : ℕ → ℕ) (xs : List ℕ) (d x : ℕ) → slice_get xs d ≡ Some x → slice_get (map g xs) d ≡ Some (g x)
map_get g [] d x e = let i : None ≡ Some x = e in cc
map_get g (y ∷ ys) zero x e = ap (λ (z : ℕ). Some (g z)) (same_Some y x e)
map_get g (y ∷ ys) (suc d) x e = map_get g ys d x e

-- what stands where the word x of a piece is laid
pub data LaidAs (f : ℕ → ℕ) (n k i : ℕ) (p : List ℕ) (d x y : ℕ) : Type 0 where
  as_moved : is_final_word x ≡ true → y ≡ moved f x → LaidAs f n k i p d x y
  as_place_name : d ≡ 0 → is_place p ≡ true → x ≡ 0 → y ≡ name_word n k → LaidAs f n k i p d x y
  as_free : d ≡ 1 → is_place p ≡ true → x ≡ 0 → y ≡ moved f 0 → LaidAs f n k i p d x y
  as_status : d ≡ 0 → is_process p ≡ true → x ≡ 9 → y ≡ 9 → LaidAs f n k i p d x y
  as_process_name : d ≡ 1 → is_process p ≡ true → x ≡ 0 → y ≡ name_word n i → LaidAs f n k i p d x y

module _ (f : ℕ → ℕ) (n k i : ℕ) where
  Answer : List ℕ → ℕ → ℕ → Type 0
  Answer p d x = (y : ℕ) × (slice_get (laid_piece f n k i p) d ≡ Some y) × LaidAs f n k i p d x y

  -- a piece that is neither a place nor a process
  others : (p : List ℕ) (d x : ℕ) → is_place p ≡ false → is_process p ≡ false → AreFinal p → slice_get p d ≡ Some x → (y : ℕ)
      × (slice_get (laid_piece f n k i p) d ≡ Some y) × LaidAs f n k i p d x y
  others p d x a b h e = (
    moved f x,
    ap (λ (l : List ℕ). slice_get l d) (cond-false _ _ _ a ∙ cond-false _ _ _ b) ∙ map_get (moved f) p d x e,
    as_moved (get_final p d x h e) refl,
  )

  place_get : (v d x : ℕ) → (v ≡ 0) ⊎ (is_final_word v ≡ true) → slice_get (0 ∷ v ∷ []) d ≡ Some x → (y : ℕ)
      × (slice_get (laid_piece f n k i (0 ∷ v ∷ [])) d ≡ Some y) × LaidAs f n k i (0 ∷ v ∷ []) d x y
  place_get v zero x h e = (name_word n k, refl, as_place_name refl refl (sym (same_Some 0 x e)) refl)
  place_get v (suc zero) x (inl h) e = let q : v ≡ x = same_Some v x e in (moved f v, refl, as_free refl refl (sym q ∙ h) (ap (moved f) h))
  place_get v (suc zero) x (inr h) e =
      let q : v ≡ x = same_Some v x e in (moved f v, refl, as_moved (ap is_final_word (sym q) ∙ h) (ap (moved f) q))
  place_get v (suc (suc d)) x h e = let q : None ≡ Some x = e in cc

  process_get : (ys : List ℕ) (d x : ℕ) → AreFinal ys → slice_get (9 ∷ 0 ∷ ys) d ≡ Some x → is_place (9 ∷ 0 ∷ ys) ≡ false → (y : ℕ)
      × (slice_get (laid_piece f n k i (9 ∷ 0 ∷ ys)) d ≡ Some y) × LaidAs f n k i (9 ∷ 0 ∷ ys) d x y
  process_get ys d x h e a = let r = go d x e in (r.0, ap (λ (l : List ℕ). slice_get l d) (cond-false _ _ _ a) ∙ r.1, r.2)
    where
      go : (d x : ℕ) → slice_get (9 ∷ 0 ∷ ys) d ≡ Some x → (y : ℕ) × (slice_get (9 ∷ name_word n i ∷ map (moved f) ys) d ≡ Some y)
          × LaidAs f n k i (9 ∷ 0 ∷ ys) d x y
      go zero x e = (9, refl, as_status refl refl (sym (same_Some 9 x e)) refl)
      go (suc zero) x e = (name_word n i, refl, as_process_name refl refl (sym (same_Some 0 x e)) refl)
      go (suc (suc d)) x e = (moved f x, map_get (moved f) ys d x e, as_moved (get_final ys d x h e) refl)

-- each word of a piece is laid
pub laid_get : (f : ℕ → ℕ) (n k i : ℕ) (p : List ℕ) (d x : ℕ) → IsPiece p → slice_get p d ≡ Some x → (y : ℕ)
    × (slice_get (laid_piece f n k i p) d ≡ Some y) × LaidAs f n k i p d x y
laid_get f n k i p d x (a_place v q h) e =
    subst (λ (l : List ℕ). (y : ℕ) × (slice_get (laid_piece f n k i l) d ≡ Some y)
    × LaidAs f n k i l d x y) (sym q) (place_get f n k i v d x h (ap (λ (l : List ℕ). slice_get l d) (sym q) ∙ e))
laid_get f n k i p d x (a_pair u v q hu hv raw) e =
    subst (λ (l : List ℕ). (y : ℕ) × (slice_get (laid_piece f n k i l) d ≡ Some y) × LaidAs f n k i l d x y) (sym q)
    (others f n k i (u ∷ v ∷ []) d x (not_place u (v ∷ []) (not_zero u hu)) (not_nine u hu) (
      hu,
      (hv, tt),
    ) (ap (λ (l : List ℕ). slice_get l d) (sym q) ∙ e))
laid_get f n k i p d x (a_tuple r m xs q hr size h) e =
    subst (λ (l : List ℕ). (y : ℕ) × (slice_get (laid_piece f n k i l) d ≡ Some y) × LaidAs f n k i l d x y) (sym q)
    (others f n k i (r ∷ xs) d x (not_place r xs (not_zero r (raw_final r m hr))) (not_nine r (raw_final r m hr)) (
      raw_final r m hr,
      h,
    ) (ap (λ (l : List ℕ). slice_get l d) (sym q) ∙ e))
laid_get f n k i p d x (a_wide v z q hv) e =
    let fin : is_final_word v ≡ true = ap is_final_in hv in
    subst (λ (l : List ℕ). (y : ℕ) × (slice_get (laid_piece f n k i l) d ≡ Some y) × LaidAs f n k i l d x y) (sym q)
    (others f n k i (v ∷ []) d x (not_place v [] (not_zero v fin)) (not_nine v fin) (fin, tt) (ap (λ (l : List ℕ). slice_get l d) (sym q)
    ∙ e))
laid_get f n k i p d x (a_process g h r m xs q hg hr size fin) e =
    subst (λ (l : List ℕ). (y : ℕ) × (slice_get (laid_piece f n k i l) d ≡ Some y) × LaidAs f n k i l d x y) (sym q)
    (process_get f n k i (g ∷ r ∷ xs) d x (raw_final g h hg, (raw_final r m hr, fin)) (ap (λ (l : List ℕ). slice_get l d) (sym q) ∙ e) refl)

pub child_at : (f : ℕ → ℕ) (n : ℕ) (r : ℕ → Variable) (w : Words) (vs : Addresses) (bs : Bindings) (k i b : ℕ)
    (ps : List (List ℕ)) (gs : List (Goal ℕ))
    (q : ℕ) (y : Process) → ChildrenSay w vs bs (process_words b ps) gs
    → StandsAt (map f (process_words b ps)) (processes_of n i (map (rename_goal r) gs)) q y
    → (k' i' s : ℕ) × (p : List ℕ) × (g : Goal ℕ) × Located k i b ps k' i' s p × (is_process p ≡ true) × (f s ≡ q)
    × (record { name = proc n i'; goal = rename_goal r g; status = ready } ≡ y) × GoalStands w vs bs s (rename_goal own g)
child_at f n r w vs bs k i b [] gs q y c h = absurd h
child_at f n r w vs bs k i b (o ∷ os) gs q y c h =
    go (is_process o) refl gs c h (λ l hs d g. child_at f n r w vs bs (next_place k o) l (b + length o) os hs q y d g)
  where
    Found : Type 0
    Found =
        (k' i' s : ℕ) × (p : List ℕ) × (g : Goal ℕ) × Located k i b (o ∷ os) k' i' s p × (is_process p ≡ true) × (f s ≡ q)
        × (record { name = proc n i'; goal = rename_goal r g; status = ready } ≡ y) × GoalStands w vs bs s (rename_goal own g)

    go : (t : Bool) → is_process o ≡ t → (hs : List (Goal ℕ))
        → ChildrenSay w vs bs (cond t (b ∷ process_words (b + length o) os) (process_words (b + length o) os)) hs
        → StandsAt (map f (cond t (b ∷ process_words (b + length o) os) (process_words (b + length o) os)))
        (processes_of n i (map (rename_goal r) hs)) q y
        → ((l : ℕ) (hs : List (Goal ℕ)) → ChildrenSay w vs bs (process_words (b + length o) os) hs
        → StandsAt (map f (process_words (b + length o) os)) (processes_of n l (map (rename_goal r) hs)) q y
        → (k' i' s : ℕ) × (p : List ℕ) × (g : Goal ℕ) × Located (next_place k o) l (b + length o) os k' i' s p × (is_process p ≡ true)
        × (f s ≡ q) × (record { name = proc n i'; goal = rename_goal r g; status = ready } ≡ y) × GoalStands w vs bs s (rename_goal own g))
        → (k' i' s : ℕ) × (p : List ℕ) × (g : Goal ℕ) × Located k i b (o ∷ os) k' i' s p × (is_process p ≡ true) × (f s ≡ q)
        × (record { name = proc n i'; goal = rename_goal r g; status = ready } ≡ y) × GoalStands w vs bs s (rename_goal own g)
    go true u [] c h F = absurd c
    go true u (g ∷ hs) c (inl h) F = (k, i, b, o, g, inl (refl, refl, refl, refl), u, h.0, h.1, c.0)
    go true u (g ∷ hs) c (inr h) F =
        let z = F (suc i) hs c.1 h in (
          z.0,
          z.1,
          z.2,
          z.3,
          z.4,
          inr (subst (λ (v : ℕ). Located (next_place k o) v (b + length o) os z.0 z.1 z.2 z.3) (sym (cond-true _ _ _ u)) z.5),
          z.6,
          z.7,
          z.8,
          z.9,
        )
    go false u hs c h F =
        let z = F i hs c h in (
          z.0,
          z.1,
          z.2,
          z.3,
          z.4,
          inr (subst (λ (v : ℕ). Located (next_place k o) v (b + length o) os z.0 z.1 z.2 z.3) (sym (cond-false _ _ _ u)) z.5),
          z.6,
          z.7,
          z.8,
          z.9,
        )

pub child_of : (f : ℕ → ℕ) (n : ℕ) (r : ℕ → Variable) (w : Words) (vs : Addresses) (bs : Bindings) (k i b : ℕ)
    (ps : List (List ℕ)) (gs : List (Goal ℕ))
    (k' i' s : ℕ) (p : List ℕ) → ChildrenSay w vs bs (process_words b ps) gs → Located k i b ps k' i' s p → is_process p ≡ true
    → (y : Process) × StandsAt (map f (process_words b ps)) (processes_of n i (map (rename_goal r) gs)) (f s) y
child_of f n r w vs bs k i b [] gs k' i' s p c h e = absurd h
child_of f n r w vs bs k i b (o ∷ os) gs k' i' s p c h e =
    go (is_process o) refl gs c h (λ l hs d g. child_of f n r w vs bs (next_place k o) l (b + length o) os hs k' i' s p d g e)
  where
    go : (t : Bool) → is_process o ≡ t → (hs : List (Goal ℕ))
        → ChildrenSay w vs bs (cond t (b ∷ process_words (b + length o) os) (process_words (b + length o) os)) hs
        → Located k i b (o ∷ os) k' i' s p
        → ((l : ℕ) (hs : List (Goal ℕ)) → ChildrenSay w vs bs (process_words (b + length o) os) hs
        → Located (next_place k o) l (b + length o) os k' i' s p → (y : Process)
        × StandsAt (map f (process_words (b + length o) os)) (processes_of n l (map (rename_goal r) hs)) (f s) y)
        → (y : Process) × StandsAt (map f (cond t (b ∷ process_words (b + length o) os) (process_words (b + length o) os)))
        (processes_of n i (map (rename_goal r) hs)) (f s) y
    go true u [] c h F = absurd c
    go true u (g ∷ hs) c (inl h) F = (record { name = proc n i; goal = rename_goal r g; status = ready }, inl (ap f h.2, refl))
    go true u (g ∷ hs) c (inr h) F =
        let z = F (suc i) hs c.1 (subst (λ (v : ℕ). Located (next_place k o) v (b + length o) os k' i' s p) (cond-true _ _ _ u) h) in
        (z.0, inr z.1)
    go false u hs c (inl h) F = absurd (true≢false (sym e ∙ ap is_process (sym h.3) ∙ u))
    go false u hs c (inr h) F = F i hs c (subst (λ (v : ℕ). Located (next_place k o) v (b + length o) os k' i' s p) (cond-false _ _ _ u) h)
