-- The words of a piece are written one after another.
use Rattle.std.proofs.Common.{◌≡◌, ℕ, suc, ◌+◌, ◌%◌, ◌<◌, ◌≤◌, List, [], ◌∷◌, ◌++◌, length, set, take, get_or, Some, sym, ap, ◌∙◌, subst}
use Rattle.std.proofs.Common.{arith, inl, inr, ⊎_elim, append_assoc}
use Rattle.std.proofs.lemmas.Bool.{cases_eq, cases_lt, false≢true}
use Rattle.std.proofs.lemmas.List.{length-set, length-append, take_more, length-take-le}
use Rattle.heap_words.specs.Heaps.{is_inside, inside_at}
use Rattle.heap_words.proofs.QuietHeaps.{slice_get-set_other}
use Rattle.word_states.specs.Words.{Words, StandAt}
use Rattle.goal_layout.specs.Pages.{Takes}
use Rattle.goal_layout.specs.Laying.{IsBlank, Fills}
use Rattle.goal_layout.proofs.Insides.{same_inside_at}
use Rattle.goal_layout.proofs.Leaves.{taken_blank}
use Rattle.goal_layout.proofs.Lays.{top_quiet, written_inside, written_other, written_word, written_pages, written_rooms}

pub stand_more : (w : Words) (a : ℕ) (xs : List ℕ) (x : ℕ) → StandAt w a xs → w (a + length xs) ≡ Some x → StandAt w a (xs ++ x ∷ [])
stand_more w a [] x h e = (subst (λ k. w k ≡ Some x) (omega arith) e, tt)
stand_more w a (y ∷ xs) x h e = (h.0, stand_more w (suc a) xs x h.1 (subst (λ k. w k ≡ Some x) (omega arith) e))

pub stand_same : (w w' : Words) (a : ℕ) (xs : List ℕ) → ((b : ℕ) → a ≤ b → b < a + length xs → w' b ≡ w b) → StandAt w a xs
    → StandAt w' a xs
stand_same w w' a [] f h = tt
stand_same w w' a (x ∷ xs) f h =
    (f a (omega arith) (omega arith) ∙ h.0, stand_same w w' (suc a) xs (λ b l u. f b (omega arith) (omega arith)) h.1)

-- none is written yet
pub fills_none : (ws ws' : List ℕ) (n a : ℕ) → Takes ws ws' n a → Fills n a [] ws ws'
fills_none ws ws' n a t = record {
  pages = t.pages;
  size = t.size;
  fits = t.fits;
  inside = t.last;
  free = t.free;
  stand = tt;
  blank = λ b l h. taken_blank ws ws' n a b t (omega arith) h;
  kept = λ b i off. ⊎_elim
      (λ l. (t.others b (inl l) ∙ i, t.kept b off))
      (λ l. ⊎_elim (λ m. absurd (false≢true (sym (t.free b l m) ∙ i))) (λ m. (t.others b (inr m) ∙ i, t.kept b off)) (cases_lt b (a + n)))
      (cases_lt b a);
  others = λ b x e d. ⊎_elim
      (λ m. inr (top_quiet ws' b x t.pages e m))
      (λ m. inl (sym (same_inside_at ws ws' b (t.others b d) (t.kept b m)) ∙ e))
      (cases_eq (b % 1024) 0);
}

-- one word more
pub fills_more : (ws ws' : List ℕ) (n a c x : ℕ) (xs : List ℕ) → length xs < n → c ≡ a + length xs → Fills n a xs ws ws'
    → Fills n a (xs ++ x ∷ []) ws (set ws' c x)
fills_more ws ws' n a c x xs lt ec f = record {
  pages = written_pages ws' c x f.pages b;
  size = length-set ws' c x ∙ f.size;
  fits = f.fits ∙ ap Some (sym (written_rooms ws' c x f.pages b));
  inside = f.inside;
  free = f.free;
  stand = stand_more (inside_at (set ws' c x)) a xs x
      (stand_same (inside_at ws') (inside_at (set ws' c x)) a xs
      (λ k l h. written_other ws' c x f.pages b k (λ e. omega (arith, e, ec))) f.stand)
      (subst (λ k. inside_at (set ws' c x) k ≡ Some x) ec (written_word ws' c x f.pages b));
  blank = λ k l h.
      let longer : length (xs ++ x ∷ []) ≡ length xs + 1 = length-append xs (x ∷ []) in
      let j = f.blank k (omega (arith, longer)) h in
      record { word = written_other ws' c x f.pages b k (λ e. omega (arith, e, ec, longer)) ∙ j.word; off = j.off };
  kept = λ k i off.
      let j = f.kept k i off in
      let d : k ≡ c → ⊥ = λ e. false≢true (sym (f.free c (omega (arith, ec)) (omega (arith, ec))) ∙ ap (is_inside ws) (sym e) ∙ i) in
      (written_inside ws' c x f.pages b k ∙ j.0, slice_get-set_other ws' c k x d ∙ j.1);
  others = λ k y e d.
      let o : k ≡ c → ⊥ = λ q. ⊎_elim (λ l. omega (arith, l, q, ec)) (λ l. omega (arith, l, q, ec)) d in
      f.others k y (sym (written_other ws' c x f.pages b k o) ∙ e) d;
}
  where
    b : IsBlank ws' c
    b = f.blank c (omega (arith, ec)) (omega (arith, ec))

-- four words
pub fills_four : (ws w1 : List ℕ) (n a x0 x1 x2 x3 y0 y1 y2 y3 : ℕ) → Takes ws w1 (4 + n) a → y0 ≡ x0 → y1 ≡ x1 → y2 ≡ x2 → y3 ≡ x3
    → Fills (4 + n) a (x0 ∷ x1 ∷ x2 ∷ x3 ∷ []) ws (set (set (set (set w1 a y0) (a + 1) y1) (a + 2) y2) (a + 3) y3)
fills_four ws w1 n a x0 x1 x2 x3 y0 y1 y2 y3 t e0 e1 e2 e3 =
    subst (λ xs. Fills (4 + n) a xs ws (set (set (set (set w1 a y0) (a + 1) y1) (a + 2) y2) (a + 3) y3))
    (λ k. e0 k ∷ e1 k ∷ e2 k ∷ e3 k ∷ [])
    (fills_more ws (set (set (set w1 a y0) (a + 1) y1) (a + 2) y2) (4 + n) a (a + 3) y3 (y0 ∷ y1 ∷ y2 ∷ []) (omega arith) (λ k. a + 3)
    (fills_more ws (set (set w1 a y0) (a + 1) y1) (4 + n) a (a + 2) y2 (y0 ∷ y1 ∷ []) (omega arith) (λ k. a + 2)
    (fills_more ws (set w1 a y0) (4 + n) a (a + 1) y1 (y0 ∷ []) (omega arith) (λ k. a + 1)
    (fills_more ws w1 (4 + n) a a y0 [] (omega arith) (omega arith) (fills_none ws w1 (4 + n) a t)))))

-- the next of some words after them
pub fills_next : (ws ws' : List ℕ) (a c x i : ℕ) (front xs : List ℕ) → length front ≡ 4 → i < length xs → x ≡ get_or xs i 0 → c ≡ a + 4 + i
    → Fills (4 + length xs) a (front ++ take i xs) ws ws' → Fills (4 + length xs) a (front ++ take (i + 1) xs) ws (set ws' c x)
fills_next ws ws' a c x i front xs four lt ex ec f =
    let size : length (front ++ take i xs) ≡ 4 + i = length-append front (take i xs)
    ∙ (λ k. four k + length-take-le i xs (omega arith) k) in
    let longer : (front ++ take i xs) ++ x ∷ [] ≡ front ++ take (i + 1) xs =
    append_assoc front (take i xs) (x ∷ []) ∙ ap (λ ys. front ++ ys) (ap (λ y. take i xs ++ y ∷ []) ex ∙ sym (take_more xs i 0 lt)) in
    subst (λ ys. Fills (4 + length xs) a ys ws (set ws' c x)) longer
    (fills_more ws ws' (4 + length xs) a c x (front ++ take i xs) (omega (arith, size)) (omega (arith, ec, size)) f)
