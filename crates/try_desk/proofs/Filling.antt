-- An own place among pieces that takes a word.
use Rattle.std.proofs.Common.{◌≡◌, ℕ, zero, suc, ◌+◌, ◌-◌, ◌<◌, ◌≤◌, cond, List, [], ◌∷◌, length, take, drop, refl, sym, ap, ap₂, ◌∙◌}
use Rattle.std.proofs.Common.{subst}
use Rattle.std.proofs.Common.{inl, inr, arith}
use Rattle.std.specs.Prelude.{slice_set}
use Rattle.std.proofs.lemmas.List.{length-take-le, length-drop}
use Rattle.word_states.specs.Pieces.{StartsAt, is_place, is_process, place_words, process_words}
use Rattle.word_states.proofs.Pieces.{starts_above}
use Rattle.trial_laws.specs.AtHand.{end_of, ArePieces}
use Rattle.trial_laws.specs.Laws.{IsFilled}
use Rattle.trial_laws.proofs.Pieces.{not_empty, starts_below}
use Rattle.try_desk.proofs.Cutting.{end_cut}
use Rattle.try_desk.specs.Cuts.{cut, total}

-- the pieces in which the one at s has become the place with the word x
unfoldable pub filled : (b : ℕ) (ps : List (List ℕ)) (s x : ℕ) → StartsAt b ps s (0 ∷ 0 ∷ []) → List (List ℕ)
filled b [] s x h = absurd h
filled b (q ∷ ps) s x (inl h) = (0 ∷ x ∷ []) ∷ ps
filled b (q ∷ ps) s x (inr h) = q ∷ filled (b + length q) ps s x h

two : (q : List ℕ) → q ≡ 0 ∷ 0 ∷ [] → length q ≡ 2
two q e = ap length e

pub filled_now : (b : ℕ) (ps : List (List ℕ)) (s x : ℕ) (h : StartsAt b ps s (0 ∷ 0 ∷ [])) → StartsAt b (filled b ps s x h) s (0 ∷ x ∷ [])
unfolding filled
filled_now b [] s x h = absurd h
filled_now b (q ∷ ps) s x (inl h) = inl (h.0, refl)
filled_now b (q ∷ ps) s x (inr h) = inr (filled_now (b + length q) ps s x h)

pub filled_others : (b : ℕ) (ps : List (List ℕ)) (s x : ℕ) (h : StartsAt b ps s (0 ∷ 0 ∷ [])) (a : ℕ) (p : List ℕ) → (a ≡ s → ⊥)
    → StartsAt b ps a p → StartsAt b (filled b ps s x h) a p
unfolding filled
filled_others b [] s x h a p n k = absurd h
filled_others b (q ∷ ps) s x (inl h) a p n (inl k) = absurd (n (sym k.0 ∙ h.0))
filled_others b (q ∷ ps) s x (inl h) a p n (inr k) = inr (subst (λ (m : ℕ). StartsAt (b + m) ps a p) (two q h.1) k)
filled_others b (q ∷ ps) s x (inr h) a p n (inl k) = inl k
filled_others b (q ∷ ps) s x (inr h) a p n (inr k) = inr (filled_others (b + length q) ps s x h a p n k)

pub filled_back : (b : ℕ) (ps : List (List ℕ)) (s x : ℕ) (h : StartsAt b ps s (0 ∷ 0 ∷ [])) (a : ℕ) (p : List ℕ) → (a ≡ s → ⊥)
    → StartsAt b (filled b ps s x h) a p → StartsAt b ps a p
unfolding filled
filled_back b [] s x h a p n k = absurd h
filled_back b (q ∷ ps) s x (inl h) a p n (inl k) = absurd (n (sym k.0 ∙ h.0))
filled_back b (q ∷ ps) s x (inl h) a p n (inr k) = inr (subst (λ (m : ℕ). StartsAt (b + m) ps a p) (sym (two q h.1)) k)
filled_back b (q ∷ ps) s x (inr h) a p n (inl k) = inl k
filled_back b (q ∷ ps) s x (inr h) a p n (inr k) = inr (filled_back (b + length q) ps s x h a p n k)

pub filled_some : (b : ℕ) (ps : List (List ℕ)) (s x : ℕ) (h : StartsAt b ps s (0 ∷ 0 ∷ []))
    → ((a : ℕ) (p : List ℕ) → StartsAt b ps a p → 0 < length p) → (a : ℕ) (p : List ℕ) → StartsAt b (filled b ps s x h) a p → 0 < length p
unfolding filled
filled_some b [] s x h some a p k = absurd h
filled_some b (q ∷ ps) s x (inl h) some a p (inl k) = subst (λ (l : List ℕ). 0 < length l) k.1 (omega arith)
filled_some b (q ∷ ps) s x (inl h) some a p (inr k) = some a p (inr (subst (λ (m : ℕ). StartsAt (b + m) ps a p) (sym (two q h.1)) k))
filled_some b (q ∷ ps) s x (inr h) some a p (inl k) = some a p (inl k)
filled_some b (q ∷ ps) s x (inr h) some a p (inr k) = filled_some (b + length q) ps s x h (λ c l m. some c l (inr m)) a p k

pub filled_end : (b : ℕ) (ps : List (List ℕ)) (s x : ℕ) (h : StartsAt b ps s (0 ∷ 0 ∷ [])) → end_of b (filled b ps s x h) ≡ end_of b ps
unfolding filled
filled_end b [] s x h = absurd h
filled_end b (q ∷ ps) s x (inl h) = ap (λ (m : ℕ). end_of (b + m) ps) (sym (two q h.1))
filled_end b (q ∷ ps) s x (inr h) = filled_end (b + length q) ps s x h

pub filled_places : (b : ℕ) (ps : List (List ℕ)) (s x : ℕ) (h : StartsAt b ps s (0 ∷ 0 ∷ []))
    → place_words b (filled b ps s x h) ≡ place_words b ps
unfolding filled
filled_places b [] s x h = absurd h
filled_places b (q ∷ ps) s x (inl h) =
    ap (λ (l : List ℕ). cond (is_place l) (suc b ∷ place_words (b + length l) ps) (place_words (b + length l) ps)) (sym h.1)
filled_places b (q ∷ ps) s x (inr h) =
    ap (λ (l : List ℕ). cond (is_place q) (suc b ∷ l) l) (filled_places (b + length q) ps s x h)

pub filled_processes : (b : ℕ) (ps : List (List ℕ)) (s x : ℕ) (h : StartsAt b ps s (0 ∷ 0 ∷ []))
    → process_words b (filled b ps s x h) ≡ process_words b ps
unfolding filled
filled_processes b [] s x h = absurd h
filled_processes b (q ∷ ps) s x (inl h) =
    ap (λ (l : List ℕ). cond (is_process l) (b ∷ process_words (b + length l) ps) (process_words (b + length l) ps)) (sym h.1)
filled_processes b (q ∷ ps) s x (inr h) =
    ap (λ (l : List ℕ). cond (is_process q) (b ∷ l) l) (filled_processes (b + length q) ps s x h)

-- a write before a cut, and one after it
take_set : (n k : ℕ) (ws : List ℕ) (x : ℕ) → n ≤ k → take n (slice_set ws k x) ≡ take n ws
take_set zero k ws x l = refl
take_set (suc n) k [] x l = refl
take_set (suc n) zero (y ∷ ws) x l = absurd (omega arith)
take_set (suc n) (suc k) (y ∷ ws) x l = ap (λ (m : List ℕ). y ∷ m) (take_set n k ws x (omega arith))

drop_set : (n k : ℕ) (ws : List ℕ) (x : ℕ) → n ≤ k → drop n (slice_set ws k x) ≡ slice_set (drop n ws) (k - n) x
drop_set zero k ws x l = ap (λ (m : ℕ). slice_set ws m x) (none k)
  where
    none : (k : ℕ) → k ≡ k - 0
    none k = omega arith
drop_set (suc n) k [] x l = refl
drop_set (suc n) zero (y ∷ ws) x l = absurd (omega arith)
drop_set (suc n) (suc k) (y ∷ ws) x l = drop_set n k ws x (omega arith) ∙ ap (λ (m : ℕ). slice_set (drop n ws) m x) (less k n)
  where
    less : (k n : ℕ) → k - n ≡ suc k - suc n
    less k n = omega arith

-- the second of two words
take_second : (ws : List ℕ) (x : ℕ) → take 2 ws ≡ 0 ∷ 0 ∷ []
    → (take 2 (slice_set ws 1 x) ≡ 0 ∷ x ∷ []) × (drop 2 (slice_set ws 1 x) ≡ drop 2 ws)
take_second [] x e = absurd (let l : 0 ≡ 2 = ap length e in omega arith)
take_second (y ∷ []) x e = absurd (let l : 1 ≡ 2 = ap length e in omega arith)
take_second (y ∷ z ∷ ws) x e = let h : y ≡ 0 = cc in (ap (λ (n : ℕ). n ∷ x ∷ []) h, refl)

pub cut_filled : (ns ws : List ℕ) (b s k x : ℕ) (h : StartsAt b (cut ws ns) s (0 ∷ 0 ∷ [])) → total ns ≡ length ws → suc s ≡ b + k
    → cut (slice_set ws k x) ns ≡ filled b (cut ws ns) s x h
unfolding filled
cut_filled [] ws b s k x h whole e = absurd h
cut_filled (n ∷ ns) ws b s k x (inl h) whole e =
    let t : length (take n ws) ≡ n = length-take-le n ws (omega arith) in
    let l : length (take n ws) ≡ 2 = two (take n ws) h.1 in
    let is_two : n ≡ 2 = omega arith in
    let at : b ≡ s = h.0 in
    let one : k ≡ 1 = omega arith in
    let p = take_second ws x (subst (λ (m : ℕ). take m ws ≡ 0 ∷ 0 ∷ []) is_two h.1) in
    ap₂ (λ (m i : ℕ). take m (slice_set ws i x) ∷ cut (drop m (slice_set ws i x)) ns) is_two one
    ∙ (ap₂ (λ (f g : List ℕ). f ∷ cut g ns) p.0 p.1
    ∙ ap (λ (m : ℕ). (0 ∷ x ∷ []) ∷ cut (drop m ws) ns) (sym is_two))
cut_filled (n ∷ ns) ws b s k x (inr h) whole e =
    let t : length (take n ws) ≡ n = length-take-le n ws (omega arith) in
    let d : length (drop n ws) ≡ length ws - n = length-drop n ws in
    let l = starts_above (b + length (take n ws)) (cut (drop n ws) ns) s (0 ∷ 0 ∷ []) h in
    let rec = cut_filled ns (drop n ws) (b + length (take n ws)) s (k - n) x h (omega arith) (omega arith) in
    ap₂ (λ (f g : List ℕ). f ∷ cut g ns) (take_set n k ws x (omega arith)) (drop_set n k ws x (omega arith))
    ∙ ap (λ (p : List (List ℕ)). take n ws ∷ p) rec

-- so a place is filled
pub is_filled : (ns ws : List ℕ) (ps : List (List ℕ)) (s k x : ℕ) → total ns ≡ length ws → cut ws ns ≡ ps → suc s ≡ 4000000000 + k
    → ArePieces ps → StartsAt 4000000000 ps s (0 ∷ 0 ∷ []) → IsFilled s x ps (cut (slice_set ws k x) ns)
is_filled ns ws ps s k x whole is e formed h =
    let g : StartsAt 4000000000 (cut ws ns) s (0 ∷ 0 ∷ []) = subst (λ (p : List (List ℕ)). StartsAt 4000000000 p s (0 ∷ 0 ∷ []))
    (sym is) h in
    subst (λ (p : List (List ℕ)). IsFilled s x p (cut (slice_set ws k x) ns)) is
    (subst (λ (p : List (List ℕ)). IsFilled s x (cut ws ns) p) (sym (cut_filled ns ws 4000000000 s k x g whole e))
    (record {
      was = g;
      now = filled_now 4000000000 (cut ws ns) s x g;
      others = filled_others 4000000000 (cut ws ns) s x g;
      back = filled_back 4000000000 (cut ws ns) s x g;
      no_empty = filled_some 4000000000 (cut ws ns) s x g
          (λ a p m. not_empty p (formed.each a p (subst (λ (q : List (List ℕ)). StartsAt 4000000000 q a p) is m)));
      same_end = filled_end 4000000000 (cut ws ns) s x g;
      same_places = filled_places 4000000000 (cut ws ns) s x g;
      same_processes = filled_processes 4000000000 (cut ws ns) s x g;
    }))

-- its word stands among the words
pub place_inside : (ns ws : List ℕ) (ps : List (List ℕ)) (a : ℕ) → total ns ≡ length ws → cut ws ns ≡ ps → 4000000000 < a
    → StartsAt 4000000000 ps (a - 1) (0 ∷ 0 ∷ []) → a - 4000000000 < length ws
place_inside ns ws ps a whole is above h =
    let e : end_of 4000000000 ps ≡ 4000000000 + length ws = ap (end_of 4000000000) (sym is) ∙ end_cut ns ws 4000000000 whole in
    let b : a - 1 + 2 ≤ end_of 4000000000 ps = starts_below 4000000000 ps (a - 1) (0 ∷ 0 ∷ []) h in
    omega arith
