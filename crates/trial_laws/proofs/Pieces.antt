-- Pieces and their words, where more pieces are put after the others.
use Rattle.std.proofs.Common.{◌≡◌, ◌⊎◌, ℕ, suc, ◌+◌, ◌<◌, ◌≤◌, Bool, true, false, cond, List, [], ◌∷◌, ◌++◌, length, refl, sym, ap, ◌∙◌}
use Rattle.std.proofs.Common.{subst}
use Rattle.std.proofs.Common.{inl, inr, ⊎_elim, arith, Option, Some, None}
use Rattle.std.specs.Prelude.{slice_get}
use Rattle.std.proofs.lemmas.Bool.{cond-false, cond-true}
use Rattle.fcp_model.specs.Places.{Variable}
use Rattle.fcp_model.specs.Terms.{Term, Bindings}
use Rattle.fcp_model.specs.Reads.{IsPart}
use Rattle.fcp_model.specs.Programs.{Goal}
use Rattle.heap_words.specs.Trails.{word_at}
use Rattle.word_states.specs.Words.{Words, first_of, Grows}
use Rattle.word_states.specs.Denoting.{Addresses, Listed}
use Rattle.word_states.specs.Standing.{PlaceSays}
use Rattle.word_states.specs.Pieces.{rows, StartsAt, is_place, is_process, place_words, process_words, IsPiece, a_place, a_pair, a_tuple}
use Rattle.word_states.specs.Pieces.{a_wide, a_process, with_own}
use Rattle.word_states.proofs.Leading.{goal_stands_on}
use Rattle.word_states.proofs.Persisting.{denotes_on}
use Rattle.word_states.proofs.Pieces.{in_rows, rows_in, rows_above, starts_above}
use Rattle.trial_laws.specs.AtHand.{end_of, AreCalled, GoalsSay}

pub starts_left : (b : ℕ) (ps qs : List (List ℕ)) (a : ℕ) (p : List ℕ) → StartsAt b ps a p → StartsAt b (ps ++ qs) a p
starts_left b [] qs a p h = absurd h
starts_left b (q ∷ ps) qs a p (inl h) = inl h
starts_left b (q ∷ ps) qs a p (inr h) = inr (starts_left (b + length q) ps qs a p h)

pub starts_last : (b : ℕ) (ps : List (List ℕ)) (p : List ℕ) → StartsAt b (ps ++ p ∷ []) (end_of b ps) p
starts_last b [] p = inl (refl, refl)
starts_last b (q ∷ ps) p = inr (starts_last (b + length q) ps p)

pub starts_split : (b : ℕ) (ps : List (List ℕ)) (p : List ℕ) (a : ℕ) (q : List ℕ) → StartsAt b (ps ++ p ∷ []) a q
    → StartsAt b ps a q ⊎ ((a ≡ end_of b ps) × (q ≡ p))
starts_split b [] p a q (inl h) = inr (sym h.0, sym h.1)
starts_split b [] p a q (inr h) = absurd h
starts_split b (x ∷ ps) p a q (inl h) = inl (inl h)
starts_split b (x ∷ ps) p a q (inr h) = ⊎_elim (λ i. inl (inr i)) (λ i. inr i) (starts_split (b + length x) ps p a q h)

end_above : (c : ℕ) (qs : List (List ℕ)) → c ≤ end_of c qs
end_above c [] = omega arith
end_above c (x ∷ qs) = let k = end_above (c + length x) qs in omega arith

pub starts_below : (b : ℕ) (ps : List (List ℕ)) (a : ℕ) (p : List ℕ) → StartsAt b ps a p → a + length p ≤ end_of b ps
starts_below b [] a p h = absurd h
starts_below b (q ∷ ps) a p (inl h) =
    let e : b ≡ a = h.0 in let l : length q ≡ length p = ap length h.1 in let k = end_above (b + length q) ps in omega arith
starts_below b (q ∷ ps) a p (inr h) = starts_below (b + length q) ps a p h

pub end_last : (b : ℕ) (ps : List (List ℕ)) (p : List ℕ) → end_of b (ps ++ p ∷ []) ≡ end_of b ps + length p
end_last b [] p = refl
end_last b (q ∷ ps) p = end_last (b + length q) ps p

pub places_left : (b : ℕ) (ps : List (List ℕ)) (p : List ℕ) → is_place p ≡ false → place_words b (ps ++ p ∷ []) ≡ place_words b ps
places_left b [] p e = cond-false _ _ _ e
places_left b (q ∷ ps) p e = ap (λ (l : List ℕ). cond (is_place q) (suc b ∷ l) l) (places_left (b + length q) ps p e)

pub processes_left : (b : ℕ) (ps : List (List ℕ)) (p : List ℕ) → is_process p ≡ false → process_words b (ps ++ p ∷ []) ≡ process_words b ps
processes_left b [] p e = cond-false _ _ _ e
processes_left b (q ∷ ps) p e = ap (λ (l : List ℕ). cond (is_process q) (b ∷ l) l) (processes_left (b + length q) ps p e)

pub processes_last : (b : ℕ) (ps : List (List ℕ)) (p : List ℕ) → is_process p ≡ true
    → process_words b (ps ++ p ∷ []) ≡ process_words b ps ++ end_of b ps ∷ []
processes_last b [] p e = cond-true _ _ _ e
processes_last b (q ∷ ps) p e =
    ap (λ (l : List ℕ). cond (is_process q) (b ∷ l) l) (processes_last (b + length q) ps p e) ∙ go (is_process q)
  where
    go : (c : Bool) → cond c (b ∷ (process_words (b + length q) ps ++ end_of (b + length q) ps ∷ []))
        (process_words (b + length q) ps ++ end_of (b + length q) ps ∷ [])
        ≡ cond c (b ∷ process_words (b + length q) ps) (process_words (b + length q) ps) ++ end_of (b + length q) ps ∷ []
    go true = refl
    go false = refl

own_word : (b : ℕ) (ps qs : List (List ℕ)) (a x : ℕ) → word_at (rows b ps) a ≡ Some x → word_at (rows b (ps ++ qs)) a ≡ Some x
own_word b ps qs a x e =
    let r = in_rows b a x ps e in
    subst (λ (c : ℕ). word_at (rows b (ps ++ qs)) c
    ≡ Some x) (sym r.5) (rows_in b r.0 r.1 x (ps ++ qs) r.2 (starts_left b ps qs r.0 r.2 r.3) r.6)

pub none_low : (ps : List (List ℕ)) (a : ℕ) → a < 4000000000 → word_at (rows 4000000000 ps) a ≡ None
none_low ps a l = go (word_at (rows 4000000000 ps) a) refl
  where
    go : (o : Option ℕ) → word_at (rows 4000000000 ps) a ≡ o → word_at (rows 4000000000 ps) a ≡ None
    go None e = e
    go (Some x) e = absurd (let k = rows_above 4000000000 a x ps e in omega arith)

-- a word of the store
pub store_word : (w : Words) (ps : List (List ℕ)) (a x : ℕ) → a < 4000000000 → w a ≡ Some x → with_own ps w a ≡ Some x
store_word w ps a x l e = ap (λ (o : Option ℕ). first_of o (w a)) (none_low ps a l) ∙ e

-- one of the pieces
pub piece_word : (w : Words) (ps : List (List ℕ)) (a x : ℕ) → word_at (rows 4000000000 ps) a ≡ Some x → with_own ps w a ≡ Some x
piece_word w ps a x e = ap (λ (o : Option ℕ). first_of o (w a)) e

-- the word of a piece at a distance from its begin
pub word_of_piece : (w : Words) (ps : List (List ℕ)) (s d x : ℕ) (p : List ℕ) → StartsAt 4000000000 ps s p → slice_get p d ≡ Some x
    → with_own ps w (s + d) ≡ Some x
word_of_piece w ps s d x p h e = piece_word w ps (s + d) x (rows_in 4000000000 s d x ps p h e)

-- a word is one of the pieces' or of the store
pub either_word : (w : Words) (ps : List (List ℕ)) (a x : ℕ) → with_own ps w a ≡ Some x
    → (word_at (rows 4000000000 ps) a ≡ Some x) ⊎ (w a ≡ Some x)
either_word w ps a x e = go (word_at (rows 4000000000 ps) a) refl e
  where
    go : (o : Option ℕ) → word_at (rows 4000000000 ps) a ≡ o → first_of o (w a) ≡ Some x
        → (word_at (rows 4000000000 ps) a ≡ Some x) ⊎ (w a ≡ Some x)
    go None i f = inr f
    go (Some y) i f = inl (i ∙ f)

pub more_words : (w : Words) (ps qs : List (List ℕ)) → ((a x : ℕ) → w a ≡ Some x → a < 4000000000) → (a x : ℕ) → with_own ps w a ≡ Some x
    → with_own (ps ++ qs) w a ≡ Some x
more_words w ps qs low a x e =
    ⊎_elim (λ i. piece_word w (ps ++ qs) a x (own_word 4000000000 ps qs a x i)) (λ i. store_word w (ps ++ qs) a x (low a x i) i)
    (either_word w ps a x e)

-- no piece is without words, so at each address one piece begins
pub not_empty : (p : List ℕ) → IsPiece p → 0 < length p
not_empty p (a_place x e h) = let l : length p ≡ 2 = ap length e in omega arith
not_empty p (a_pair x y e f g h) = let l : length p ≡ 2 = ap length e in omega arith
not_empty p (a_tuple r n xs e d l f) = let l : length p ≡ suc (length xs) = ap length e in omega arith
not_empty p (a_wide x z e d) = let l : length p ≡ 1 = ap length e in omega arith
not_empty p (a_process f g r n xs e d d' l h) = let l : length p ≡ suc (suc (suc (suc (length xs)))) = ap length e in omega arith

pub starts_once : (b : ℕ) (ps : List (List ℕ)) (s : ℕ) (p q : List ℕ) → 0 < length p → 0 < length q → StartsAt b ps s p → StartsAt b ps s q
    → p ≡ q
starts_once b [] s p q i j h k = absurd h
starts_once b (x ∷ ps) s p q i j (inl h) (inl k) = sym h.1 ∙ k.1
starts_once b (x ∷ ps) s p q i j (inl h) (inr k) =
    absurd (let l = starts_above (b + length x) ps s q k in let e : b ≡ s = h.0 in let f : length x
    ≡ length p = ap length h.1 in omega arith)
starts_once b (x ∷ ps) s p q i j (inr h) (inl k) =
    absurd (let l = starts_above (b + length x) ps s p h in let e : b ≡ s = k.0 in let f : length x
    ≡ length q = ap length k.1 in omega arith)
starts_once b (x ∷ ps) s p q i j (inr h) (inr k) = starts_once (b + length x) ps s p q i j h k

-- What places and processes say goes on to be said where final words stay, and what is named goes on to be.
pub place_on : (u u' : Words) (us us' : Addresses) → Grows u u' → ((v : Variable) (a : ℕ) → Listed us v a → Listed us' v a) → (x : ℕ)
    (o : Option (Term Variable)) → PlaceSays u us x o → PlaceSays u' us' x o
place_on u u' us us' g m x None h = h
place_on u u' us us' g m x (Some t) h = denotes_on u u' us us' g m x t h

pub goals_on : (u u' : Words) (us us' : Addresses) (bs bs' : Bindings) → Grows u u'
    → ((v : Variable) (a : ℕ) → Listed us v a → Listed us' v a) → IsPart bs bs' → (qs : List ℕ) (gs : List (Goal Variable))
    → GoalsSay u us bs qs gs → GoalsSay u' us' bs' qs gs
goals_on u u' us us' bs bs' g m more [] [] h = tt
goals_on u u' us us' bs bs' g m more (q ∷ qs) (x ∷ gs) h =
    (goal_stands_on bs bs' more u u' us us' q x g m h.0, goals_on u u' us us' bs bs' g m more qs gs h.1)
goals_on u u' us us' bs bs' g m more [] (x ∷ gs) h = absurd h
goals_on u u' us us' bs bs' g m more (q ∷ qs) [] h = absurd h

pub goals_last : (u : Words) (us : Addresses) (bs : Bindings) (qs : List ℕ) (gs : List (Goal Variable)) (q : ℕ) (g : Goal Variable)
    → GoalsSay u us bs qs gs → GoalsSay u us bs (q ∷ []) (g ∷ []) → GoalsSay u us bs (qs ++ q ∷ []) (gs ++ g ∷ [])
goals_last u us bs [] [] q g h k = k
goals_last u us bs (p ∷ qs) (x ∷ gs) q g h k = (h.0, goals_last u us bs qs gs q g h.1 k)
goals_last u us bs [] (x ∷ gs) q g h k = absurd h
goals_last u us bs (p ∷ qs) [] q g h k = absurd h

pub named_on : (us us' : Addresses) → ((v : Variable) (a : ℕ) → Listed us v a → Listed us' v a) → (as' : List ℕ) (vs : List Variable)
    → AreCalled us as' vs → AreCalled us' as' vs
named_on us us' m [] [] h = tt
named_on us us' m (a ∷ as') (v ∷ vs) h = (m v a h.0, named_on us us' m as' vs h.1)
named_on us us' m [] (v ∷ vs) h = absurd h
named_on us us' m (a ∷ as') [] h = absurd h
