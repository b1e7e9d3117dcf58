-- The words after a commit that is laid.
use Rattle.std.proofs.Common.{◌≡◌, ◌⊎◌, ℕ, ◌+◌, ◌<◌, true, List, [], ◌∷◌, length, refl, sym, ap, ◌∙◌, subst, ⊎_elim}
use Rattle.std.proofs.Common.{inl, inr, true≢false, Option, Some, None}
use Rattle.std.specs.Prelude.{slice_get, get_or, drop}
use Rattle.std.proofs.lemmas.Option.{same_Some}
use Rattle.heap_words.specs.Cells.{decoded, encoded, is_final_word, is_final_in}
use Rattle.heap_words.specs.Trails.{WordList, word_at}
use Rattle.heap_words.specs.declared.cell.Cell.TheVariants.{Unbound, Ref, RoRef, Small, Wide, Str, Nil, Cons, Tuple, Raw, Top}
use Rattle.heap_words.specs.declared.cell.Cell.TheVariants as cell
use Rattle.heap_words.specs.declared.cell.Stand.TheVariants as stand
use Rattle.heap_words.proofs.Encodings.{decoded_encoded}
use Rattle.word_states.specs.Layouts.{moved, laid_piece, CommitLaid}
use Rattle.word_states.specs.Led.{AreLed}
use Rattle.word_states.specs.Pieces.{AreFinal, IsPiece, a_place, a_pair, a_tuple, a_wide, a_process, rows, StartsAt}
use Rattle.word_states.specs.Words.{Words, At, IsIn, Has}
use Rattle.word_states.proofs.Lists.{nat_same, member}
use Rattle.word_states.proofs.Pieces.{starts_located, in_rows, zero_is, nine_is}
use Rattle.word_state_laws.proofs.LaidPieces.{laid_of, stand_get, LaidAs, as_moved, as_place_name}
use Rattle.word_state_laws.proofs.LaidPieces.{as_free, as_status, as_process_name, laid_get}
use Rattle.sound_entries.proofs.Known.{get_of}

pub done_is : decoded (encoded (cell.Status stand.Done)) ≡ Some (cell.Status stand.Done)
done_is = decoded_encoded (cell.Status stand.Done) tt

pub ready_is : decoded (encoded (cell.Status stand.Ready)) ≡ Some (cell.Status stand.Ready)
ready_is = decoded_encoded (cell.Status stand.Ready) tt

-- the words of pieces: of one word, of two, of a tuple
pub one_final : (x : ℕ) → IsPiece (x ∷ []) → is_final_word x ≡ true
one_final x (a_place v q h) = cc
one_final x (a_pair u v q hu hv raw) = cc
one_final x (a_tuple r m xs q hr size h) = let e : x ≡ r = ap (λ (l : List ℕ). get_or l 0 0) q in ap is_final_word e ∙ ap is_final_in hr
one_final x (a_wide v z q hv) = let e : x ≡ v = ap (λ (l : List ℕ). get_or l 0 0) q in ap is_final_word e ∙ ap is_final_in hv
one_final x (a_process g h r m xs q hg hr size fin) = cc

pub two_final : (x y : ℕ) → is_final_word x ≡ true → IsPiece (x ∷ y ∷ []) → is_final_word y ≡ true
two_final x y f (a_place v q h) =
    let e : x ≡ 0 = ap (λ (l : List ℕ). get_or l 0 0) q in
    absurd (true≢false (sym f ∙ ap is_final_word e ∙ ap is_final_in zero_is))
two_final x y f (a_pair u v q hu hv raw) = let e : y ≡ v = ap (λ (l : List ℕ). get_or l 1 0) q in ap is_final_word e ∙ hv
two_final x y f (a_tuple r m xs q hr size h) = (subst AreFinal (sym (ap (drop 1) q)) h).0
two_final x y f (a_wide v z q hv) = cc
two_final x y f (a_process g h r m xs q hg hr size fin) = cc

pub parts_are_final : (r n : ℕ) (xs : List ℕ) → decoded r ≡ Some (Raw n) → IsPiece (r ∷ xs) → AreFinal xs
parts_are_final r n xs d (a_place v q h) =
    let e : r ≡ 0 = ap (λ (l : List ℕ). get_or l 0 0) q in
    let bad : Some (Raw n) ≡ Some (Unbound 0) = sym d ∙ ap decoded e ∙ zero_is in cc
parts_are_final r n xs d (a_pair u v q hu hv raw) =
    let e : r ≡ u = ap (λ (l : List ℕ). get_or l 0 0) q in absurd (raw n (ap decoded (sym e) ∙ d))
parts_are_final r n xs d (a_tuple r' m ys q hr size h) = subst AreFinal (sym (ap (drop 1) q)) h
parts_are_final r n xs d (a_wide v z q hv) = subst AreFinal (sym (ap (drop 1) q)) tt
parts_are_final r n xs d (a_process g h r' m ys q hg hr size fin) =
    let e : r ≡ 9 = ap (λ (l : List ℕ). get_or l 0 0) q in
    let bad : Some (Raw n) ≡ Some (cell.Status stand.Ready) = sym d ∙ ap decoded e ∙ nine_is in cc

-- What came to stand at an address where a word stood: a status, a binding, the same word, or a top.
pub data Became (f : ℕ → ℕ) (p : ℕ) (binds : WordList) (wakes : List ℕ) (w' : Words) (a x y : ℕ) : Type 0 where
  is_done : a ≡ p → y ≡ encoded (cell.Status stand.Done) → Became f p binds wakes w' a x y
  is_woken : IsIn a wakes → y ≡ encoded (cell.Status stand.Ready) → Became f p binds wakes w' a x y
  is_bound : (v : ℕ) → word_at binds a ≡ Some v → y ≡ moved f v → Became f p binds wakes w' a x y
  is_same : y ≡ x → word_at binds a ≡ None → Became f p binds wakes w' a x y
  is_top : (t u : ℕ) → decoded x ≡ Some (Top t) → decoded y ≡ Some (Top u) → Became f p binds wakes w' a x y

module _ (f : ℕ → ℕ) (n p : ℕ) (binds : WordList) (ps : List (List ℕ)) (wakes : List ℕ) (w w' : Words)
    (laid : CommitLaid f n p binds ps wakes w w') where
  pub became : (a x : ℕ) → w a ≡ Some x → (y : ℕ) × (w' a ≡ Some y) × Became f p binds wakes w' a x y
  became a x e = start (nat_same a p) (member a wakes) (word_at binds a) refl
    where
      start : (a ≡ p) ⊎ (a ≡ p → ⊥) → IsIn a wakes ⊎ (IsIn a wakes → ⊥) → (o : Option ℕ) → word_at binds a ≡ o → (y : ℕ)
          × (w' a ≡ Some y) × Became f p binds wakes w' a x y
      start (inl h) i o k = (encoded (cell.Status stand.Done), ap w' h ∙ laid.done, is_done h refl)
      start (inr far) (inl i) o k = (encoded (cell.Status stand.Ready), laid.woken a i, is_woken i refl)
      start (inr far) (inr asleep) (Some v) k = (moved f v, laid.bound a v k, is_bound v k refl)
      start (inr far) (inr asleep) None k =
          ⊎_elim (λ (h : w' a ≡ Some x). (x, h, is_same refl k)) (λ (h : (t u : ℕ) × (decoded x ≡ Some (Top t))
          × At w' a (Top u)). (h.3.0, h.3.1, is_top h.0 h.1 h.2 h.3.2)) (laid.others a x e far k asleep)

  pub became_as : (a x y : ℕ) → w a ≡ Some x → w' a ≡ Some y → Became f p binds wakes w' a x y
  became_as a x y e h = let r = became a x e in subst (Became f p binds wakes w' a x) (same_Some r.0 y (sym r.1 ∙ h)) r.2

  pub grows : (a : ℕ) → Has w a → Has w' a
  grows a h = let r = became a h.0 h.1 in (r.0, r.1)

  -- a word of a piece, where it is laid
  pub whole : (s d : ℕ) (q : List ℕ) → StartsAt 4000000000 ps s q → d < length q → f (s + d) ≡ f s + d
  whole s d q h lt = let g = starts_located 1 1 4000000000 ps s q h in (laid_of f n w' 1 1 4000000000 ps g.0 g.1 s q laid.laid g.2).0 d lt

  module _ (reads : WordList) (led : AreLed reads binds ps) where
    pub laid_at : (s d y : ℕ) (q : List ℕ) → StartsAt 4000000000 ps s q → slice_get q d ≡ Some y → d < length q → (z k i : ℕ)
        × (w' (f s + d) ≡ Some z) × LaidAs f n k i q d y z
    laid_at s d y q h e lt =
        let g = starts_located 1 1 4000000000 ps s q h in
        let l = laid_of f n w' 1 1 4000000000 ps g.0 g.1 s q laid.laid g.2 in
        let r = laid_get f n g.0 g.1 q d y (led.each s q h) e in
        (r.0, g.0, g.1, stand_get w' (f s) (laid_piece f n g.0 g.1 q) d r.0 l.1 r.1, r.2)

    pub piece_has : (s d b : ℕ) (q : List ℕ) → StartsAt 4000000000 ps s q → d < length q → b ≡ f s + d → Has w' b
    piece_has s d b q h lt e = let g = get_of q d lt in let r = laid_at s d g.0 q h g.1 lt in (r.0, ap w' e ∙ r.3)

    -- a final word of a piece is laid moved
    pub laid_final : (s d y z : ℕ) (q : List ℕ) → StartsAt 4000000000 ps s q → slice_get q d ≡ Some y → d < length q
        → is_final_word y ≡ true → w' (f s + d) ≡ Some z → z ≡ moved f y
    laid_final s d y z q h e lt fin at = let r = laid_at s d y q h e lt in same_Some z r.0 (sym at ∙ r.3) ∙ go r.0 r.4
      where
        go : {k i : ℕ} (v : ℕ) → LaidAs f n k i q d y v → v ≡ moved f y
        go v (as_moved a b) = b
        go v (as_place_name a b c l) = absurd (true≢false (sym fin ∙ ap is_final_word c ∙ ap is_final_in zero_is))
        go v (as_free a b c l) = l ∙ ap (moved f) (sym c)
        go v (as_status a b c l) = absurd (true≢false (sym fin ∙ ap is_final_word c ∙ ap is_final_in nine_is))
        go v (as_process_name a b c l) = absurd (true≢false (sym fin ∙ ap is_final_word c ∙ ap is_final_in zero_is))

    -- an address where no word stood is that of a word of a piece
    pub new_at : (a y : ℕ) → w a ≡ None → w' a ≡ Some y → (s d v k i : ℕ) × (q : List ℕ) × StartsAt 4000000000 ps s q × (d < length q)
        × (a ≡ f (s + d)) × (slice_get q d ≡ Some v) × (word_at (rows 4000000000 ps) (s + d) ≡ Some v) × LaidAs f n k i q d v y
    new_at a y e h =
        let r = laid.new a y e h in
        let g = in_rows 4000000000 r.0 r.1 ps r.2 in
        let l = laid_at g.0 g.1 r.1 g.2 g.3 g.6 g.4 in
        let at : a ≡ f (g.0 + g.1) = r.3 ∙ ap f g.5 in
        let same : l.0 ≡ y = same_Some l.0 y (sym l.3 ∙ ap w' (sym (at ∙ whole g.0 g.1 g.2 g.3 g.4)) ∙ h) in (
          g.0,
          g.1,
          r.1,
          l.1,
          l.2,
          g.2,
          g.3,
          g.4,
          at,
          g.6,
          ap (word_at (rows 4000000000 ps)) (sym g.5)
              ∙ r.2,
          subst (LaidAs f n l.1 l.2 g.2 g.1 r.1) same l.4,
        )
