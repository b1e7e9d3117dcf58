-- Pieces laid one after another, and words of them written.
use Rattle.std.proofs.Common.{◌≡◌, ℕ, ◌+◌, ◌-◌, ◌*◌, ◌/◌, ◌%◌, ◌<◌, ◌≤◌, true, false, List, [], ◌∷◌, ◌++◌, length, set, slice_get, Option}
use Rattle.std.proofs.Common.{Some, None, refl, sym, ap, ◌∙◌, subst, arith, ◌⊎◌, inl, inr, ⊎_elim}
use Rattle.std.specs.Option.{option_and_then}
use Rattle.std.proofs.lemmas.Bool.{cases_eq, cases_lt, false≢true}
use Rattle.std.proofs.lemmas.List.{length-set}
use Rattle.std.proofs.lemmas.Option.{same_Some, slice_get_within}
use Rattle.heap_words.specs.Cells.{decoded, is_final_word, is_final_in}
use Rattle.heap_words.specs.Heaps.{top_said, top_at, is_inside, inside_at}
use Rattle.heap_words.specs.HeapLaws.{inside_is, inside_known, inside_below}
use Rattle.heap_words.specs.declared.cell.Cell.{Cell}
use Rattle.heap_words.specs.declared.cell.Cell.TheVariants.{Unbound, Ref, RoRef, Small, Wide, Str, Nil, Cons, Tuple, Status, Raw, Top}
use Rattle.heap_words.proofs.QuietHeaps.{same_top, slice_get-set_same, slice_get-set_other}
use Rattle.word_states.specs.Words.{Words, Grows}
use Rattle.word_states.specs.Denoting.{Addresses}
use Rattle.goal_layout.specs.FirstFit.{fit, first_fit}
use Rattle.goal_layout.specs.Pages.{rooms_from, rooms, ArePages, Takes}
use Rattle.goal_layout.specs.Laying.{IsQuiet, IsSaid, Lays, IsBlank}
use Rattle.goal_layout.proofs.Insides.{inside_word, same_inside, same_inside_at}
use Rattle.goal_layout.proofs.Fits.{same_rooms}
use Rattle.word_states.proofs.Persisting.{expr_on}

-- pieces one after another
pub first_fit-append : (rs xs ys : List ℕ) → first_fit rs (xs ++ ys) ≡ option_and_then (λ ss. first_fit ss ys) (first_fit rs xs)
first_fit-append rs [] ys = refl
first_fit-append rs (x ∷ xs) ys = go (fit x rs) (λ ss. first_fit-append ss xs ys)
  where
    go : (o : Option (List ℕ)) → ((ss : List ℕ) → first_fit ss (xs ++ ys) ≡ option_and_then (λ qs. first_fit qs ys) (first_fit ss xs))
        → option_and_then (λ ss. first_fit ss (xs ++ ys)) o
        ≡ option_and_then (λ ss. first_fit ss ys) (option_and_then (λ ss. first_fit ss xs) o)
    go None f = refl
    go (Some ss) f = f ss

-- the word 0 is that of an unbound place for which none waits
pub zero_quiet : IsQuiet 0
unfolding decoded
zero_quiet = record { cell = Unbound 0; says = refl; quiet = refl }

pub zero_moves : is_final_word 0 ≡ false
unfolding decoded
zero_moves = refl

-- a page's first word is its top
top_is : (o : Option Cell) (a : ℕ) → a < top_said o → (t : ℕ) × (o ≡ Some (Top t))
top_is (Some (Top t)) a h = (t, refl)
top_is (Some (Unbound e)) a h = absurd (omega (arith, h))
top_is (Some (Ref e)) a h = absurd (omega (arith, h))
top_is (Some (RoRef e)) a h = absurd (omega (arith, h))
top_is (Some (Small e)) a h = absurd (omega (arith, h))
top_is (Some (Wide e f)) a h = absurd (omega (arith, h))
top_is (Some (Str e)) a h = absurd (omega (arith, h))
top_is (Some Nil) a h = absurd (omega (arith, h))
top_is (Some (Cons e)) a h = absurd (omega (arith, h))
top_is (Some (Tuple e)) a h = absurd (omega (arith, h))
top_is (Some (Status e)) a h = absurd (omega (arith, h))
top_is (Some (Raw e)) a h = absurd (omega (arith, h))
top_is None a h = absurd (omega (arith, h))

pub top_word : (ws : List ℕ) (a x : ℕ) → ArePages ws → inside_at ws a ≡ Some x → a % 1024 ≡ 0 → (t : ℕ) × (decoded x ≡ Some (Top t))
top_word ws a x pages e m =
    let g : slice_get ws a ≡ Some x = inside_word ws a x e in
    let l : a < length ws = slice_get_within ws a x g in
    let f : 1024 * (a / 1024) ≡ a = omega (arith, m) in
    let h : a < top_at ws a = subst (λ b. b < top_at ws b) f (pages.above (a / 1024) (omega (arith, l, f))) in
    top_is (decoded x) a (subst (λ o. a < top_said (option_and_then decoded o)) g h)

pub top_quiet : (ws : List ℕ) (a x : ℕ) → ArePages ws → inside_at ws a ≡ Some x → a % 1024 ≡ 0 → IsQuiet x
top_quiet ws a x pages e m =
    let t = top_word ws a x pages e m in
    record { cell = Top t.0; says = t.1; quiet = refl }

-- no final word is a page's first
pub final_off : (ws : List ℕ) (a x : ℕ) → ArePages ws → inside_at ws a ≡ Some x → is_final_word x ≡ true → a % 1024 ≡ 0 → ⊥
final_off ws a x pages e f m =
    let t = top_word ws a x pages e m in
    false≢true (sym (ap is_final_in t.1) ∙ f)

-- words that are kept
pub kept_word : (ws ws' : List ℕ) (a x : ℕ) → (is_inside ws' a ≡ true) × (slice_get ws' a ≡ slice_get ws a) → inside_at ws a ≡ Some x
    → inside_at ws' a ≡ Some x
kept_word ws ws' a x k e = inside_is ws' a x k.0 (k.1 ∙ inside_word ws a x e)

pub lays_grows : (vs : Addresses) (sizes ws ws' : List ℕ) → ArePages ws → Lays vs sizes ws ws' → Grows (inside_at ws) (inside_at ws')
lays_grows vs sizes ws ws' pages l a x e f =
    kept_word ws ws' a x (l.kept a (inside_known ws a x e) (final_off ws a x pages e f)) e

-- what is said goes on to be said
pub said_on : (w w' : Words) (vs : Addresses) (x : ℕ) → Grows w w' → IsSaid w vs x → IsSaid w' vs x
said_on w w' vs x grows (inl q) = inl q
said_on w w' vs x grows (inr h) = inr (h.0, expr_on w w' vs vs grows (λ v a l. l) x h.0 h.1)

-- nothing was laid
pub lays_none : (vs : Addresses) (ws : List ℕ) → ArePages ws → Lays vs [] ws ws
lays_none vs ws pages = record {
  pages = pages;
  size = refl;
  fits = refl;
  kept = λ a i off. (i, refl);
  said = λ a x e. inl e;
}

-- one piece, whose words are 0 yet
pub take_lays : (vs : Addresses) (ws ws' : List ℕ) (n a : ℕ) → Takes ws ws' n a → Lays vs (n ∷ []) ws ws'
take_lays vs ws ws' n a t = record {
  pages = t.pages;
  size = t.size;
  fits = ap (option_and_then (λ ss. Some ss)) t.fits;
  kept = λ b i off. ⊎_elim
      (λ l. (t.others b (inl l) ∙ i, t.kept b off))
      (λ l. ⊎_elim (λ m. absurd (false≢true (sym (t.free b l m) ∙ i))) (λ m. (t.others b (inr m) ∙ i, t.kept b off)) (cases_lt b (a + n)))
      (cases_lt b a);
  said = λ b x e. ⊎_elim
      (λ l. other b x e (inl l))
      (λ l. ⊎_elim (λ m. inr (inl (subst IsQuiet (same_Some 0 x (sym (t.taken b l m) ∙ e)) zero_quiet))) (λ m. other b x e (inr m))
      (cases_lt b (a + n)))
      (cases_lt b a);
}
  where
    other : (b x : ℕ) → inside_at ws' b ≡ Some x → (b < a) ⊎ (a + n ≤ b) → (inside_at ws b ≡ Some x) ⊎ IsSaid (inside_at ws') vs x
    other b x e d = ⊎_elim
        (λ m. inr (inl (top_quiet ws' b x t.pages e m)))
        (λ m. inl (sym (same_inside_at ws ws' b (t.others b d) (t.kept b m)) ∙ e))
        (cases_eq (b % 1024) 0)

-- pieces and then others
pub lays_then : (vs : Addresses) (xs ys ws ws' ws'' : List ℕ) → Lays vs xs ws ws' → Lays vs ys ws' ws'' → Lays vs (xs ++ ys) ws ws''
lays_then vs xs ys ws ws' ws'' l m = record {
  pages = m.pages;
  size = m.size ∙ l.size;
  fits = first_fit-append (rooms ws) xs ys ∙ ap (option_and_then (λ ss. first_fit ss ys)) l.fits ∙ m.fits;
  kept = λ a i off. let j = l.kept a i off in let k = m.kept a j.0 off in (k.0, k.1 ∙ j.1);
  said = λ a x e. ⊎_elim
      (λ i. ⊎_elim (λ j. inl j) (λ j. inr (said_on (inside_at ws') (inside_at ws'') vs x (lays_grows vs ys ws' ws'' l.pages m) j))
      (l.said a x i))
      (λ i. inr i)
      (m.said a x e);
}

pub blank_on : (vs : Addresses) (sizes ws ws' : List ℕ) (c : ℕ) → Lays vs sizes ws ws' → IsBlank ws c → IsBlank ws' c
blank_on vs sizes ws ws' c l b = record {
  word = kept_word ws ws' c 0 (l.kept c (inside_known ws c 0 b.word) b.off) b.word;
  off = b.off;
}

-- it is written
module _ (ws : List ℕ) (c y : ℕ) (pages : ArePages ws) (blank : IsBlank ws c) where
  abbrev written : List ℕ
  written = set ws c y

  there : c < length ws
  there = inside_below ws c (inside_known ws c 0 blank.word)

  same_length : length written ≡ length ws
  same_length = length-set ws c y

  same_tops : (a : ℕ) → a % 1024 ≡ 0 → top_at written a ≡ top_at ws a
  same_tops a m = same_top ws c y a (λ e. blank.off (subst (λ k. k % 1024 ≡ 0) e m))

  pub written_inside : (a : ℕ) → is_inside written a ≡ is_inside ws a
  written_inside a = same_inside ws written a same_length (same_tops (a - a % 1024) (omega arith))

  pub written_other : (a : ℕ) → (a ≡ c → ⊥) → inside_at written a ≡ inside_at ws a
  written_other a d = same_inside_at ws written a (written_inside a) (slice_get-set_other ws c a y d)

  pub written_word : inside_at written c ≡ Some y
  written_word = inside_is written c y (written_inside c ∙ inside_known ws c 0 blank.word) (slice_get-set_same ws c y there)

  pub written_pages : ArePages written
  written_pages = record {
    whole = ap (λ k. k % 1024) same_length ∙ pages.whole;
    small = let s = pages.small in omega (arith, same_length, s);
    above = λ p h. subst (λ k. 1024 * p < k) (sym (same_tops (1024 * p) (omega arith))) (pages.above p (omega (arith, h, same_length)));
    within = λ p h. subst (λ k. k ≤ 1024 * p + 1024) (sym (same_tops (1024 * p) (omega arith)))
        (pages.within p (omega (arith, h, same_length)));
    clear = λ a h f. let g : is_inside ws a ≡ false = sym (written_inside a) ∙ f in
        slice_get-set_other ws c a y (λ e. false≢true (sym g ∙ ap (is_inside ws) e ∙ inside_known ws c 0 blank.word))
        ∙ pages.clear a (omega (arith, h, same_length)) g;
  }

  pub written_rooms : rooms written ≡ rooms ws
  written_rooms =
      same_rooms ws written 0 (length written / 1024) (λ q _ _. ap (λ t. 1024 * q + 1024 - t) (same_tops (1024 * q) (omega arith)))
      ∙ ap (λ k. rooms_from ws 0 (k / 1024)) same_length

  pub written_grows : Grows (inside_at ws) (inside_at written)
  written_grows a x e f = ⊎_elim
      (λ d. let z : 0 ≡ x = same_Some 0 x (sym blank.word ∙ sym (ap (inside_at ws) d) ∙ e) in
      absurd (false≢true (sym zero_moves ∙ ap is_final_word z ∙ f)))
      (λ d. written_other a d ∙ e)
      (cases_eq a c)

  -- where it is new
  pub lays_written : (vs : Addresses) (sizes base : List ℕ) → Lays vs sizes base ws → is_inside base c ≡ false
      → IsSaid (inside_at ws) vs y → Lays vs sizes base written
  lays_written vs sizes base l new h = record {
    pages = written_pages;
    size = same_length ∙ l.size;
    fits = l.fits ∙ ap Some (sym written_rooms);
    kept = λ a i off. let k = l.kept a i off in (
      written_inside a ∙ k.0,
      slice_get-set_other ws c a y (λ e. false≢true (sym new ∙ ap (is_inside base) (sym e) ∙ i)) ∙ k.1,
    );
    said = λ a x e. ⊎_elim
        (λ d. inr (said_on (inside_at ws) (inside_at written) vs x written_grows
        (subst (IsSaid (inside_at ws) vs) (same_Some y x (sym written_word ∙ ap (inside_at written) (sym d) ∙ e)) h)))
        (λ d. ⊎_elim (λ i. inl i) (λ i. inr (said_on (inside_at ws) (inside_at written) vs x written_grows i))
        (l.said a x (sym (written_other a d) ∙ e)))
        (cases_eq a c);
  }
