-- A commit's writes by a plan, over the words, are the commit laid.
use Rattle.std.proofs.Common.{◌≡◌, ◌⊎◌, ℕ, suc, ◌+◌, ◌<◌, ◌≤◌, Bool, true, false, cond, List, [], ◌∷◌, ◌++◌, length, map, refl, sym, ap}
use Rattle.std.proofs.Common.{◌∙◌, ⊎_elim, inl, inr, arith, Option, Some, None}
use Rattle.std.proofs.lemmas.Bool.{cond-false, ne_eqb}
use Rattle.std.proofs.lemmas.List.{length-map}
use Rattle.std.proofs.lemmas.Option.{same_Some}
use Rattle.heap_words.specs.Cells.{decoded, encoded}
use Rattle.heap_words.specs.Trails.{WordList, word_at}
use Rattle.heap_words.specs.declared.cell.Cell.TheVariants.{Status, Top}
use Rattle.heap_words.specs.declared.cell.Stand.TheVariants.{Ready, Done}
use Rattle.word_states.specs.Words.{Words, At, Among, over, first_of, row, IsIn, StandAt}
use Rattle.word_states.specs.Pieces.{rows, is_place, is_process}
use Rattle.word_states.specs.Layouts.{moved, laid_place, laid_process, laid_piece, next_place, next_process, AreLaid, CommitLaid}
use Rattle.word_states.specs.Planning.{laid_rows, moved_binds, ready_words, commit_writes, AreWhole, IsPlanned}
use Rattle.word_states.proofs.Lists.{among_left, among_right, among_either, word_among, among_word, apart_word, word_at-append, row_in}
use Rattle.word_states.proofs.Lists.{get_of}

pub moved_among : (f : ℕ → ℕ) (bs : WordList) (a x : ℕ) → Among bs (a, x) → Among (moved_binds f bs) (a, moved f x)
moved_among f [] a x h = absurd h
moved_among f (b ∷ bs) a x (inl e) = inl (λ i. ((e i).0, moved f (e i).1))
moved_among f (b ∷ bs) a x (inr h) = inr (moved_among f bs a x h)

pub among_moved : (f : ℕ → ℕ) (bs : WordList) (a y : ℕ) → Among (moved_binds f bs) (a, y) → (x : ℕ) × Among bs (a, x)
among_moved f [] a y h = absurd h
among_moved f (b ∷ bs) a y (inl e) = (b.1, inl (λ i. ((e i).0, b.1)))
among_moved f (b ∷ bs) a y (inr h) = let r = among_moved f bs a y h in (r.0, inr r.1)

pub ready_among : (qs : List ℕ) (q : ℕ) → IsIn q qs → Among (ready_words qs) (q, encoded (Status Ready))
ready_among [] q h = absurd h
ready_among (r ∷ qs) q (inl e) = inl (λ i. (e i, encoded (Status Ready)))
ready_among (r ∷ qs) q (inr h) = inr (ready_among qs q h)

pub among_ready : (qs : List ℕ) (q y : ℕ) → Among (ready_words qs) (q, y) → IsIn q qs
among_ready [] q y h = absurd h
among_ready (r ∷ qs) q y (inl e) = inl (ap (λ (z : ℕ × ℕ). z.0) e)
among_ready (r ∷ qs) q y (inr h) = inr (among_ready qs q y h)

-- words that are found stand one after another
pub stand_from : (w : Words) (a : ℕ) (xs : List ℕ) → ((b x : ℕ) → Among (row a xs) (b, x) → w b ≡ Some x) → StandAt w a xs
stand_from w a [] h = tt
stand_from w a (x ∷ xs) h = (h a x (inl refl), stand_from w (suc a) xs (λ b y k. h b y (inr k)))

pub laid_from : (f : ℕ → ℕ) (n : ℕ) (w : Words) (k i a : ℕ) (ps : List (List ℕ)) → AreWhole f a ps
    → ((b x : ℕ) → Among (laid_rows f n k i a ps) (b, x) → w b ≡ Some x) → AreLaid f n w k i a ps
laid_from f n w k i a [] h g = tt
laid_from f n w k i a (p ∷ ps) h g = (
  h.0,
  stand_from w (f a) (laid_piece f n k i p) (λ b x m. g b x (among_left (row (f a) (laid_piece f n k i p)) _ (b, x) m)),
  laid_from f n w (next_place k p) (next_process i p) (a + length p) ps h.1
      (λ b x m. g b x (among_right (row (f a) (laid_piece f n k i p)) _ (b, x) m)),
)

-- a laid piece is no longer than the piece
pub laid_length : (f : ℕ → ℕ) (n k i : ℕ) (p : List ℕ) → length (laid_piece f n k i p) ≤ length p
laid_length f n k i p = go (is_place p) (is_process p)
  where
    place_length : (p : List ℕ) → length (laid_place f n k p) ≤ length p
    place_length [] = omega arith
    place_length (x ∷ []) = omega arith
    place_length (x ∷ y ∷ []) = omega arith
    place_length (x ∷ y ∷ z ∷ zs) = omega arith

    process_length : (p : List ℕ) → length (laid_process f n i p) ≤ length p
    process_length [] = omega arith
    process_length (x ∷ []) = omega arith
    process_length (x ∷ y ∷ ys) = let e = length-map ys (moved f) in omega arith

    go : (s t : Bool) → length (cond s (laid_place f n k p) (cond t (laid_process f n i p) (map (moved f) p))) ≤ length p
    go true t = place_length p
    go false true = process_length p
    go false false = let e = length-map p (moved f) in omega arith

pub among_row : (a b x : ℕ) (xs : List ℕ) → Among (row a xs) (b, x) → (d : ℕ) × (d < length xs) × (b ≡ a + d)
among_row a b x [] h = absurd h
among_row a b x (y ∷ ys) (inl e) = (0, omega arith, (let h : a ≡ b = ap (λ (z : ℕ × ℕ). z.0) e in omega arith))
among_row a b x (y ∷ ys) (inr h) =
    let r = among_row (suc a) b x ys h in let l = r.1 in let e = r.2 in (suc r.0, (omega arith), (omega arith))

-- each laid word is that of a word of the pieces
pub row_after : (a c : ℕ) (xs : List ℕ) → a + length xs ≤ c → word_at (row a xs) c ≡ None
row_after a c [] h = refl
row_after a c (y ∷ ys) h = cond-false _ _ _ (ne_eqb c a (λ e. omega arith)) ∙ row_after (suc a) c ys (omega arith)

pub later_rows : (b c x : ℕ) (p : List ℕ) (ps : List (List ℕ)) → b + length p ≤ c → word_at (rows (b + length p) ps) c ≡ Some x
    → word_at (rows b (p ∷ ps)) c ≡ Some x
later_rows b c x p ps l e =
    word_at-append (row b p) (rows (b + length p) ps) c
    ∙ ap (λ (o : Option ℕ). first_of o (word_at (rows (b + length p) ps) c)) (row_after b c p l) ∙ e

pub own_of : (f : ℕ → ℕ) (n k i b : ℕ) (ps : List (List ℕ)) (a y : ℕ) → AreWhole f b ps → Among (laid_rows f n k i b ps) (a, y)
    → (c x : ℕ) × (word_at (rows b ps) c ≡ Some x) × (a ≡ f c) × (b ≤ c)
own_of f n k i b [] a y h m = absurd m
own_of f n k i b (p ∷ ps) a y h m = ⊎_elim
    (λ (t : Among (row (f b) (laid_piece f n k i p)) (a, y)).
    let r = among_row (f b) a y (laid_piece f n k i p) t in
    let lt = r.1 in
    let le = laid_length f n k i p in
    let below : r.0 < length p = omega arith in
    let g = get_of p r.0 below in
    let here : word_at (rows b (p ∷ ps)) (b + r.0) ≡ Some g.0 = word_at-append (row b p) (rows (b + length p) ps) (b + r.0)
    ∙ ap (λ (o : Option ℕ). first_of o (word_at (rows (b + length p) ps) (b + r.0))) (row_in b r.0 g.0 p g.1) in
    (b + r.0, g.0, here, r.2 ∙ sym (h.0 r.0 below), (omega arith)))
    (λ (t : Among (laid_rows f n (next_place k p) (next_process i p) (b + length p) ps) (a, y)).
    let r = own_of f n (next_place k p) (next_process i p) (b + length p) ps a y h.1 t in
    let le = r.4 in
    (r.0, r.1, later_rows b r.0 r.1 p ps le r.2, r.3, (omega arith)))
    (among_either (row (f b) (laid_piece f n k i p)) _ (a, y) m)

module _ (f : ℕ → ℕ) (n p : ℕ) (binds : WordList) (ps : List (List ℕ)) (wakes : List ℕ) (tops : WordList) (w : Words)
    (plan : IsPlanned f n p binds ps wakes tops w) where
  abbrev all : WordList
  all = commit_writes f n p binds ps wakes tops

  written : (a x : ℕ) → Among (commit_writes f n p binds ps wakes tops) (a, x) → over (commit_writes f n p binds ps wakes tops) w a ≡ Some x
  written a x h = ap (λ (o : Option ℕ). first_of o (w a)) (apart_word (commit_writes f n p binds ps wakes tops) a x plan.apart h)

  -- which of the writes one is
  data Which (a y : ℕ) : Type 0 where
    of_process : a ≡ p → Which a y
    of_binding : (x : ℕ) → Among binds (a, x) → Which a y
    of_woken : IsIn a wakes → Which a y
    of_top : Among tops (a, y) → Which a y
    of_piece : (c x : ℕ) → word_at (rows 4000000000 ps) c ≡ Some x → a ≡ f c → Which a y

  which : (a y : ℕ) → Among (commit_writes f n p binds ps wakes tops) (a, y) → Which a y
  which a y (inl e) = of_process (ap (λ (z : ℕ × ℕ). z.0) (sym e))
  which a y (inr h) = ⊎_elim
      (λ (t : Among (moved_binds f binds) (a, y)). let r = among_moved f binds a y t in of_binding r.0 r.1)
      (λ (t : Among (ready_words wakes ++ (tops ++ laid_rows f n 1 1 4000000000 ps)) (a, y)). ⊎_elim
      (λ (u : Among (ready_words wakes) (a, y)). of_woken (among_ready wakes a y u))
      (λ (u : Among (tops ++ laid_rows f n 1 1 4000000000 ps) (a, y)). ⊎_elim
      (λ (v : Among tops (a, y)). of_top v)
      (λ (v : Among (laid_rows f n 1 1 4000000000 ps) (a, y)). let r = own_of f n 1 1 4000000000 ps a y plan.whole v in
      of_piece r.0 r.1 r.2 r.3)
      (among_either tops _ (a, y) u))
      (among_either (ready_words wakes) _ (a, y) t))
      (among_either (moved_binds f binds) _ (a, y) h)

  others' : (a x : ℕ) → w a ≡ Some x → (a ≡ p → ⊥) → word_at binds a ≡ None → (IsIn a wakes → ⊥)
      → (over (commit_writes f n p binds ps wakes tops) w a ≡ Some x) ⊎ ((t u : ℕ) × (decoded x ≡ Some (Top t))
      × At (over (commit_writes f n p binds ps wakes tops) w) a (Top u))
  others' a x e far unbound asleep = go (word_at (commit_writes f n p binds ps wakes tops) a) refl
    where
      by : (y : ℕ) → word_at (commit_writes f n p binds ps wakes tops) a ≡ Some y → Which a y
          → (over (commit_writes f n p binds ps wakes tops) w a ≡ Some x) ⊎ ((t u : ℕ) × (decoded x ≡ Some (Top t))
          × At (over (commit_writes f n p binds ps wakes tops) w) a (Top u))
      by y i (of_process h) = absurd (far h)
      by y i (of_binding z h) = let r = among_word binds a z h in let bad : None ≡ Some r.0 = sym unbound ∙ r.1 in cc
      by y i (of_woken h) = absurd (asleep h)
      by y i (of_top h) =
          let r = plan.tops_rise a y h in inr (
            r.1,
            r.2,
            ap decoded (same_Some _ _ (sym e ∙ r.3))
                ∙ r.4,
            (y, ap (λ (o : Option ℕ). first_of o (w a)) i, r.5),
          )
      by y i (of_piece c z h g) = let bad : Some x ≡ None = sym e ∙ ap w g ∙ plan.free c z h in cc

      go : (o : Option ℕ) → word_at (commit_writes f n p binds ps wakes tops) a ≡ o
          → (over (commit_writes f n p binds ps wakes tops) w a ≡ Some x) ⊎ ((t u : ℕ) × (decoded x ≡ Some (Top t))
          × At (over (commit_writes f n p binds ps wakes tops) w) a (Top u))
      go None i = inl (ap (λ (o : Option ℕ). first_of o (w a)) i ∙ e)
      go (Some y) i = by y i (which a y (word_among (commit_writes f n p binds ps wakes tops) a y i))

  new' : (a y : ℕ) → w a ≡ None → over (commit_writes f n p binds ps wakes tops) w a ≡ Some y → (b x : ℕ)
      × (word_at (rows 4000000000 ps) b ≡ Some x) × (a ≡ f b)
  new' a y e h = go (word_at (commit_writes f n p binds ps wakes tops) a) refl
    where
      no : (x : ℕ) → w a ≡ Some x → (b x : ℕ) × (word_at (rows 4000000000 ps) b ≡ Some x) × (a ≡ f b)
      no x i = let bad : None ≡ Some x = sym e ∙ i in cc

      by : (z : ℕ) → Which a z → (b x : ℕ) × (word_at (rows 4000000000 ps) b ≡ Some x) × (a ≡ f b)
      by z (of_process i) = no plan.process.0 (ap w i ∙ plan.process.1)
      by z (of_binding x i) = let r = plan.bound a x i in no r.0 r.1
      by z (of_woken i) = let r = plan.woken a i in no r.0 r.1
      by z (of_top i) = let r = plan.tops_rise a z i in no r.0 r.3
      by z (of_piece c x i g) = (c, x, i, g)

      go : (o : Option ℕ) → word_at (commit_writes f n p binds ps wakes tops) a ≡ o → (b x : ℕ)
          × (word_at (rows 4000000000 ps) b ≡ Some x) × (a ≡ f b)
      go None i = no y (sym (ap (λ (o : Option ℕ). first_of o (w a)) i) ∙ h)
      go (Some z) i = by z (which a z (word_among (commit_writes f n p binds ps wakes tops) a z i))

  pub commit_laid : CommitLaid f n p binds ps wakes w (over (commit_writes f n p binds ps wakes tops) w)
  commit_laid = record {
    small = plan.small;
    old = plan.old;
    free = plan.free;
    one = plan.one;
    laid =
        laid_from f n (over (commit_writes f n p binds ps wakes tops) w) 1 1 4000000000 ps plan.whole
        (λ b x h. written b x (inr (among_right (moved_binds f binds) _ (
          b,
          x,
        ) (among_right (ready_words wakes) _ (b, x) (among_right tops _ (b, x) h)))));
    done = written p (encoded (Status Done)) (inl refl);
    bound =
        λ a x e. written a (moved f x) (inr (among_left (moved_binds f binds) _ (
          a,
          moved f x,
        ) (moved_among f binds a x (word_among binds a x e))));
    woken =
        λ q h. written q (encoded (Status Ready)) (inr (among_right (moved_binds f binds) _ (
          q,
          encoded (Status Ready),
        ) (among_left (ready_words wakes) _ (q, encoded (Status Ready)) (ready_among wakes q h))));
    others = others';
    new = new';
  }
