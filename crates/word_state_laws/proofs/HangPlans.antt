-- A hang's writes by a plan, over the words, are the hang laid.
use Rattle.std.proofs.Common.{◌≡◌, ℕ, suc, ◌+◌, ◌<◌, [], ◌∷◌, ◌++◌, refl, sym, ap, ◌∙◌, subst, ⊎_elim, inl, inr, arith, Option}
use Rattle.std.proofs.Common.{Some, None}
use Rattle.std.specs.Prelude.{pos}
use Rattle.std.proofs.lemmas.Option.{same_Some}
use Rattle.heap_words.specs.Cells.{decoded, encoded}
use Rattle.heap_words.specs.Trails.{WordList, word_at}
use Rattle.heap_words.specs.declared.cell.Cell.TheVariants.{Unbound, Small, Raw, Status}
use Rattle.heap_words.specs.declared.cell.Stand.TheVariants.{Waiting}
use Rattle.word_states.specs.Words.{Words, At, Has, Among, addresses_of, over, first_of, row, IsIn}
use Rattle.word_states.specs.Layouts.{HangLaid, StaysOrTop, link_word, entry_words}
use Rattle.word_states.specs.Planning.{entry_rows, head_words, hang_writes, IsHangPlanned}
use Rattle.word_states.proofs.Lists.{addresses_among, among_addresses, among_left, among_right, among_either, word_among, apart_word}
use Rattle.word_states.proofs.Persisting.{one_cell}

head_among : (entry : ℕ → ℕ) (ls : WordList) (a e : ℕ) → Among ls (a, e) → Among (head_words entry ls) (a, encoded (Unbound (entry a)))
head_among entry [] a e h = absurd h
head_among entry (l ∷ ls) a e (inl q) = inl (λ i. ((q i).0, encoded (Unbound (entry (q i).0))))
head_among entry (l ∷ ls) a e (inr h) = inr (head_among entry ls a e h)

among_head : (entry : ℕ → ℕ) (ls : WordList) (a y : ℕ) → Among (head_words entry ls) (a, y) → IsIn a (addresses_of ls)
among_head entry [] a y h = absurd h
among_head entry (l ∷ ls) a y (inl q) = inl (ap (λ (z : ℕ × ℕ). z.0) q)
among_head entry (l ∷ ls) a y (inr h) = inr (among_head entry ls a y h)

entry_among : (entry : ℕ → ℕ) (n p : ℕ) (ls : WordList) (a e : ℕ) (z : ℕ × ℕ) → Among ls (a, e)
    → Among (row (entry a) (entry_words n p e)) z → Among (entry_rows entry n p ls) z
entry_among entry n p [] a e z h k = absurd h
entry_among entry n p (l ∷ ls) a e z (inl q) k = among_left (row (entry l.0) (entry_words n p l.1)) (entry_rows entry n p ls) z
    (subst (λ (u : ℕ × ℕ). Among (row (entry u.0) (entry_words n p u.1)) z) (sym q) k)
entry_among entry n p (l ∷ ls) a e z (inr h) k =
    among_right (row (entry l.0) (entry_words n p l.1)) (entry_rows entry n p ls) z (entry_among entry n p ls a e z h k)

among_entry : (entry : ℕ → ℕ) (n p : ℕ) (ls : WordList) (c y : ℕ) → Among (entry_rows entry n p ls) (c, y) → (a e i : ℕ)
    × Among ls (a, e) × (i < 3) × (c ≡ entry a + i)
among_entry entry n p [] c y h = absurd h
among_entry entry n p (l ∷ ls) c y h =
    ⊎_elim (λ k. here k) (λ (k : Among (entry_rows entry n p ls) (c, y)). let r = among_entry entry n p ls c y k in
    (r.0, r.1, r.2, inr r.3, r.4, r.5)) (among_either (row (entry l.0) (entry_words n p l.1)) (entry_rows entry n p ls) (c, y) h)
  where
    at : (i b : ℕ) → i < 3 → b ≡ entry l.0 + i → b ≡ c → (a e i : ℕ) × Among (l ∷ ls) (a, e) × (i < 3) × (c ≡ entry a + i)
    at i b lt e q = (l.0, l.1, i, inl refl, lt, sym q ∙ e)

    here : Among (row (entry l.0) (entry_words n p l.1)) (c, y) → (a e i : ℕ) × Among (l ∷ ls) (a, e) × (i < 3) × (c ≡ entry a + i)
    here (inl q) = at 0 (entry l.0) (omega arith) (omega arith) (ap (λ (z : ℕ × ℕ). z.0) q)
    here (inr (inl q)) = at 1 (suc (entry l.0)) (omega arith) (omega arith) (ap (λ (z : ℕ × ℕ). z.0) q)
    here (inr (inr (inl q))) = at 2 (suc (suc (entry l.0))) (omega arith) (omega arith) (ap (λ (z : ℕ × ℕ). z.0) q)
    here (inr (inr (inr h))) = absurd h

-- a plan, written over the words, is the hang laid
module _ (entry : ℕ → ℕ) (n p : ℕ) (lists tops : WordList) (w : Words) (plan : IsHangPlanned entry n p lists tops w) (process : Has w p)
    (heads : (a e : ℕ) → Among lists (a, e) → At w a (Unbound e)) where
  written : (a x : ℕ) → Among (hang_writes entry n p lists tops) (a, x) → over (hang_writes entry n p lists tops) w a ≡ Some x
  written a x h = ap (λ (o : Option ℕ). first_of o (w a)) (apart_word (hang_writes entry n p lists tops) a x plan.apart h)

  -- which of the writes one is
  data Which (a y : ℕ) : Type 0 where
    of_process : a ≡ p → Which a y
    of_head : IsIn a (addresses_of lists) → Which a y
    of_top : Among tops (a, y) → Which a y
    of_entry : (b e i : ℕ) → Among lists (b, e) → i < 3 → a ≡ entry b + i → Which a y

  which : (a y : ℕ) → Among (hang_writes entry n p lists tops) (a, y) → Which a y
  which a y (inl e) = of_process (ap (λ (z : ℕ × ℕ). z.0) (sym e))
  which a y (inr h) = ⊎_elim
      (λ (t : Among (head_words entry lists) (a, y)). of_head (among_head entry lists a y t))
      (λ (t : Among (tops ++ entry_rows entry n p lists) (a, y)). ⊎_elim (λ (v : Among tops (a, y)). of_top v)
      (λ (v : Among (entry_rows entry n p lists) (a, y)). let r = among_entry entry n p lists a y v in
      of_entry r.0 r.1 r.2 r.3 r.4 r.5) (among_either tops (entry_rows entry n p lists) (a, y) t))
      (among_either (head_words entry lists) (tops ++ entry_rows entry n p lists) (a, y) h)

  laid_entry : (a e : ℕ) (z : ℕ × ℕ) → Among lists (a, e) → Among (row (entry a) (entry_words n p e)) z
      → Among (hang_writes entry n p lists tops) z
  laid_entry a e z h k =
      inr (among_right (head_words entry lists) (tops ++ entry_rows entry n p lists) z
      (among_right tops (entry_rows entry n p lists) z (entry_among entry n p lists a e z h k)))

  others' : (a x : ℕ) → w a ≡ Some x → (a ≡ p → ⊥) → (IsIn a (addresses_of lists) → ⊥)
      → StaysOrTop (over (hang_writes entry n p lists tops) w) a x
  others' a x e far out = go (word_at (hang_writes entry n p lists tops) a) refl
    where
      by : (y : ℕ) → word_at (hang_writes entry n p lists tops) a ≡ Some y → Which a y
          → StaysOrTop (over (hang_writes entry n p lists tops) w) a x
      by y i (of_process h) = absurd (far h)
      by y i (of_head h) = absurd (out h)
      by y i (of_top h) =
          let r = plan.tops_rise a y h in inr (
            r.1,
            r.2,
            ap decoded (same_Some _ _ (sym e ∙ r.3))
                ∙ r.4,
            (y, ap (λ (o : Option ℕ). first_of o (w a)) i, r.5),
          )
      by y i (of_entry b e' j h lt q) = let bad : Some x ≡ None = sym e ∙ ap w q ∙ plan.free b e' j h lt in cc

      go : (o : Option ℕ) → word_at (hang_writes entry n p lists tops) a ≡ o → StaysOrTop (over (hang_writes entry n p lists tops) w) a x
      go None i = inl (ap (λ (o : Option ℕ). first_of o (w a)) i ∙ e)
      go (Some y) i = by y i (which a y (word_among (hang_writes entry n p lists tops) a y i))

  new' : (a y : ℕ) → w a ≡ None → over (hang_writes entry n p lists tops) w a ≡ Some y → (b i : ℕ) × IsIn b (addresses_of lists)
      × (i < 3) × (a ≡ entry b + i)
  new' a y e h = go (word_at (hang_writes entry n p lists tops) a) refl
    where
      no : (x : ℕ) → w a ≡ Some x → (b i : ℕ) × IsIn b (addresses_of lists) × (i < 3) × (a ≡ entry b + i)
      no x i = let bad : None ≡ Some x = sym e ∙ i in cc

      by : (z : ℕ) → Which a z → (b i : ℕ) × IsIn b (addresses_of lists) × (i < 3) × (a ≡ entry b + i)
      by z (of_process i) = no process.0 (ap w i ∙ process.1)
      by z (of_head i) = let r = addresses_among lists a i in let u = heads a r.0 r.1 in no u.0 u.1
      by z (of_top i) = let r = plan.tops_rise a z i in no r.0 r.3
      by z (of_entry b e' j k lt q) = (b, j, among_addresses lists b e' k, lt, q)

      go : (o : Option ℕ) → word_at (hang_writes entry n p lists tops) a ≡ o → (b i : ℕ) × IsIn b (addresses_of lists) × (i < 3)
          × (a ≡ entry b + i)
      go None i = no y (sym (ap (λ (o : Option ℕ). first_of o (w a)) i) ∙ h)
      go (Some z) i = by z (which a z (word_among (hang_writes entry n p lists tops) a z i))

  pub hang_laid : HangLaid entry n p (addresses_of lists) w (over (hang_writes entry n p lists tops) w)
  hang_laid = record {
    small = plan.small;
    small_entry = λ a h. let r = addresses_among lists a h in plan.small_entry a r.0 r.1;
    free = λ a i h lt. let r = addresses_among lists a h in plan.free a r.0 i r.1 lt;
    status = written p (encoded (Status (Waiting n))) (inl refl);
    placed =
        λ a h. let r =
        addresses_among lists a h in
        written a (encoded (Unbound (entry a)))
        (inr (among_left (head_words entry lists) (tops ++ entry_rows entry n p lists) (
          a,
          encoded (Unbound (entry a)),
        ) (head_among entry lists a r.0 r.1)));
    laid = λ a e h is.
        let r = addresses_among lists a h in
        let same : Unbound r.0 ≡ Unbound e = one_cell w a _ _ (heads a r.0 r.1) is in
        let same' : r.0 ≡ e = cc in
        let m : Among lists (a, e) = subst (λ (z : ℕ). Among lists (a, z)) same' r.1 in (
          written (entry a) (encoded (Raw p)) (laid_entry a e (entry a, encoded (Raw p)) m (inl refl)),
          (
            written (suc (entry a)) (encoded (Small (pos n))) (laid_entry a e (suc (entry a), encoded (Small (pos n))) m (inr (inl refl))),
            (written (suc (suc (entry a))) (link_word e) (laid_entry a e (suc (suc (entry a)), link_word e) m (inr (inr (inl refl)))), tt),
          ),
        );
    others = others';
    new = new';
  }
