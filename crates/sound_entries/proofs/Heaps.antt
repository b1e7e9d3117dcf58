-- The words of a heap, and those that writes leave.
use Rattle.std.proofs.Common.{◌≡◌, ℕ, ◌+◌, ◌-◌, ◌*◌, ◌/◌, ◌%◌, ◌<◌, ◌≤◌, Bool, true, false, cond, List, [], ◌∷◌, length, set, slice_get}
use Rattle.std.proofs.Common.{refl, sym, ap, ◌∙◌, subst, ⊎_elim, inl, inr, arith, true≢false, Option, Some, None}
use Rattle.std.specs.Prelude.{nat_eq, nat_lt, ◌||◌}
use Rattle.std.proofs.lemmas.Bool.{cond-true, cond-false, eq-eqb, eqb-true, and_parts, and_from, or_cases, or_left, or_right, lt-ltb}
use Rattle.std.proofs.lemmas.Bool.{ltb-true}
use Rattle.std.proofs.lemmas.List.{length-set}
use Rattle.heap_words.specs.Heaps.{IsHeap, top_at, is_inside, inside_at}
use Rattle.heap_words.specs.HeapLaws.{inside_below, inside_is}
use Rattle.heap_words.specs.WordsLaws.{Acyclic}
use Rattle.heap_words.specs.Trails.{WordList, word_at}
use Rattle.sound_entries.proofs.Applied.{length_same}
use Rattle.heap_words.proofs.QuietHeaps.{slice_get-set_same, slice_get-set_other}
use Rattle.heap_words.specs.HeapLaws.{inside_known}
use Rattle.word_states.specs.Tame.{finals}
use Rattle.word_states.specs.Words.{Words, Among, over, first_of, AreApart, Has}
use Rattle.word_states.specs.Writing.{applied, MayWrite}
use Rattle.word_states.proofs.Lists.{among_word, word_among}
use Rattle.sound_entries.specs.Closed.{AreClosed, Stands}
use Rattle.sound_entries.proofs.Known.{get_of}

-- an address inside is in use
pub inside_has : (ws : List ℕ) (a : ℕ) → is_inside ws a ≡ true → Has (inside_at ws) a
inside_has ws a h = let r = get_of ws a (inside_below ws a h) in (r.0, inside_is ws a r.0 h r.1)

pub has_inside : (ws : List ℕ) (a : ℕ) → Has (inside_at ws) a → is_inside ws a ≡ true
has_inside ws a h = inside_known ws a h.0 h.1

pub has_below : (ws : List ℕ) (a x : ℕ) → inside_at ws a ≡ Some x → a < length ws
has_below ws a x e = inside_below ws a (inside_known ws a x e)

-- the words of a heap lead to words in use
pub heap_closed : (ws : List ℕ) → IsHeap ws → AreClosed (Stands (inside_at ws)) (inside_at ws)
heap_closed ws heap = record {
  now = λ a x e. e;
  within = λ a x e. (x, e);
  leads = λ a x e. let l = heap.inside a x e in record {
    refers = λ b c d r. inside_has ws b (l.refers b c d r);
    refers_by = λ t y n b c d i k g r. inside_has ws b (l.refers_by t y n b c d i k g r);
    part_final = λ b y c d r h. l.part_final b y c d r h;
    part_final_by = λ t z n b y c d i k g r h. l.part_final_by t z n b y c d i k g r h;
  };
  process = λ p x b d e h l k. inside_has ws b (heap.process p x b d e h l k);
  arguments = λ p x y n b d e h i j l k. inside_has ws b (heap.arguments p x y n b d e h i j l k);
}

-- and so words are a heap
pub heap_of : (ws : List ℕ) → length ws % 1024 ≡ 0 → length ws ≤ 4000000000
    → ((p : ℕ) → 1024 * p < length ws → 1024 * p < top_at ws (1024 * p)) → ((p : ℕ) → 1024 * p < length ws
    → top_at ws (1024 * p) ≤ 1024 * p + 1024)
    → AreClosed (Stands (inside_at ws)) (inside_at ws) → Acyclic (finals (inside_at ws)) → IsHeap ws
heap_of ws whole small above within closed acyclic = record {
  whole = whole;
  small = small;
  above = above;
  within = within;
  inside = λ a x e. let l = closed.leads a x e in record {
    refers = λ b c d r. has_inside ws b (l.refers b c d r);
    refers_by = λ t y n b c d i k g r. has_inside ws b (l.refers_by t y n b c d i k g r);
    part_final = λ b y c d r h. l.part_final b y c d r h;
    part_final_by = λ t z n b y c d i k g r h. l.part_final_by t z n b y c d i k g r h;
  };
  process = λ p x b d e h l k. has_inside ws b (closed.process p x b d e h l k);
  arguments = λ p x y n b d e h i j l k. has_inside ws b (closed.arguments p x y n b d e h i j l k);
  no_cycle = acyclic;
}

-- the words of a list after writes
distinct_none : (xs : WordList) (a : ℕ) → ((y : ℕ) → Among xs (a, y) → ⊥) → word_at xs a ≡ None
distinct_none xs a f = go (word_at xs a) refl
  where
    go : (o : Option ℕ) → word_at xs a ≡ o → word_at xs a ≡ None
    go None e = e
    go (Some y) e = absurd (f y (word_among xs a y e))

pub applied_get : (xs : WordList) (ws : List ℕ) (a : ℕ) → AreApart xs → ((b x : ℕ) → Among xs (b, x) → b < length ws)
    → slice_get (applied ws xs) a ≡ first_of (word_at xs a) (slice_get ws a)
applied_get [] ws a d l = refl
applied_get (x ∷ xs) ws a d l =
    applied_get xs (set ws x.0 x.1) a d.1 (λ b y h. subst (λ (n : ℕ). b < n) (sym (length-set ws x.0 x.1)) (l b y (inr h)))
    ∙ go (nat_eq a x.0) refl
  where
    go : (t : Bool) → nat_eq a x.0 ≡ t
        → first_of (word_at xs a) (slice_get (set ws x.0 x.1) a) ≡ first_of (cond t (Some x.1) (word_at xs a)) (slice_get ws a)
    go true i =
        let e : a ≡ x.0 = eqb-true a x.0 i in
        let none_there : word_at xs a ≡ None = distinct_none xs a (λ y h. d.0 y (subst (λ (b : ℕ). Among xs (b, y)) e h)) in
        ap (λ (o : Option ℕ). first_of o (slice_get (set ws x.0 x.1) a)) none_there ∙ ap (slice_get (set ws x.0 x.1)) e
        ∙ slice_get-set_same ws x.0 x.1 (l x.0 x.1 (inl refl))
    go false i = ap (first_of (word_at xs a)) (slice_get-set_other ws x.0 a x.1 (λ e. true≢false (sym (eq-eqb a x.0 e) ∙ i)))

-- what was inside stays so
pub inside_after : (ws : List ℕ) (xs : WordList) (a : ℕ) → MayWrite ws xs → is_inside ws a ≡ true → is_inside (applied ws xs) a ≡ true
unfolding is_inside
inside_after ws xs a may h =
    let r = and_parts (nat_lt a (length ws)) (nat_eq (a % 1024) 0 || nat_lt a (top_at ws (a - a % 1024))) h in
    let size : length (applied ws xs) ≡ length ws = length_same ws xs in
    and_from (nat_lt a (length (applied ws xs))) (nat_eq (a % 1024) 0 || nat_lt a (top_at (applied ws xs) (a - a % 1024)))
    (subst (λ (n : ℕ). nat_lt a n ≡ true) (sym size) r.0)
    (⊎_elim
    (λ (t : nat_eq (a % 1024) 0 ≡ true). or_left _ _ t)
    (λ (t : nat_lt a (top_at ws (a - a % 1024)) ≡ true).
    let lt : a < top_at ws (a - a % 1024) = ltb-true a _ t in
    let page : a - a % 1024 ≡ 1024 * (a / 1024) = omega arith in
    let up : top_at ws (1024 * (a / 1024)) ≤ top_at (applied ws xs) (1024 * (a / 1024)) = may.rises (a / 1024) in
    let same : top_at ws (a - a % 1024) ≡ top_at ws (1024 * (a / 1024)) = ap (top_at ws) page in
    let same' : top_at (applied ws xs) (a - a % 1024) ≡ top_at (applied ws xs) (1024 * (a / 1024)) = ap (top_at (applied ws xs)) page in
    or_right (nat_eq (a % 1024) 0) _ (lt-ltb a (top_at (applied ws xs) (a - a % 1024)) (omega arith)))
    (or_cases _ _ r.1))

module _ (ws : List ℕ) (xs : WordList) (may : MayWrite ws xs) where
  -- the words in use after the writes
  pub after_is : (a : ℕ) → inside_at (applied ws xs) a ≡ over xs (inside_at ws) a
  after_is a = go (word_at xs a) refl (is_inside ws a) refl (is_inside (applied ws xs) a) refl
    where
      got : slice_get (applied ws xs) a ≡ first_of (word_at xs a) (slice_get ws a)
      got = applied_get xs ws a may.distinct may.ranges

      go : (o : Option ℕ) → word_at xs a ≡ o → (s : Bool) → is_inside ws a ≡ s → (t : Bool) → is_inside (applied ws xs) a ≡ t
          → inside_at (applied ws xs) a ≡ over xs (inside_at ws) a
      go (Some y) e s i t j =
          cond-true _ _ _ (may.below a y (word_among xs a y e)) ∙ got ∙ ap (λ (o : Option ℕ). first_of o (slice_get ws a)) e
          ∙ sym (ap (λ (o : Option ℕ). first_of o (inside_at ws a)) e)
      go None e true i t j =
          cond-true _ _ _ (inside_after ws xs a may i) ∙ got ∙ ap (λ (o : Option ℕ). first_of o (slice_get ws a)) e
          ∙ sym (cond-true (is_inside ws a) (slice_get ws a) None i) ∙ sym (ap (λ (o : Option ℕ). first_of o (inside_at ws a)) e)
      go None e false i true j =
          absurd (⊎_elim (λ (h : is_inside ws a ≡ true). true≢false (sym h ∙ i)) (λ (h : (x : ℕ)
          × Among xs (a, x)). let r = among_word xs a h.0 h.1 in let bad : None ≡ Some r.0 = sym e ∙ r.1 in cc) (may.fills a j))
      go None e false i false j =
          cond-false _ _ _ j ∙ sym (cond-false (is_inside ws a) (slice_get ws a) None i)
          ∙ sym (ap (λ (o : Option ℕ). first_of o (inside_at ws a)) e)

  pub after_words : inside_at (applied ws xs) ≡ over xs (inside_at ws)
  after_words = λ i a. after_is a i

-- writes leave a heap that leave words which lead to words in use, without a cycle
pub writes_heap : (ws : List ℕ) (xs : WordList) → IsHeap ws → MayWrite ws xs
    → AreClosed (Stands (over xs (inside_at ws))) (over xs (inside_at ws)) → Acyclic (finals (over xs (inside_at ws)))
    → IsHeap (applied ws xs)
writes_heap ws xs heap follow closed acyclic =
    let size : length (applied ws xs) ≡ length ws = length_same ws xs in
    let words : inside_at (applied ws xs) ≡ over xs (inside_at ws) = after_words ws xs follow in
    heap_of (applied ws xs)
    (ap (λ (n : ℕ). n % 1024) size ∙ heap.whole)
    (subst (λ (n : ℕ). n ≤ 4000000000) (sym size) heap.small)
    (λ p h. let a = heap.above p (subst (λ (n : ℕ). 1024 * p < n) size h) in let r = follow.rises p in omega arith)
    (λ p h. follow.within p (subst (λ (n : ℕ). 1024 * p < n) size h))
    (subst (λ (v : Words). AreClosed (Stands v) v) (sym words) closed)
    (subst (λ (v : Words). Acyclic (finals v)) (sym words) acyclic)

-- fewer words that stood are closed too
pub closed_less : (ever less : ℕ → ℕ → Type 0) (w : Words) → AreClosed ever w → ((a x : ℕ) → less a x → ever a x)
    → ((a x : ℕ) → w a ≡ Some x → less a x) → AreClosed less w
closed_less ever less w closed f now = record {
  now = now;
  within = λ a x e. closed.within a x (f a x e);
  leads = λ a x e. let l = closed.leads a x (f a x e) in record {
    refers = l.refers;
    refers_by = λ t y n b c d i k g r. l.refers_by t y n b c d i (f t y k) g r;
    part_final = λ b y c d r h. l.part_final b y c d r (f b y h);
    part_final_by = λ t z n b y c d i k g r h. l.part_final_by t z n b y c d i (f t z k) g r (f b y h);
  };
  process = λ p x b d e. closed.process p x b d (f p x e);
  arguments = λ p x y n b d e h i. closed.arguments p x y n b d (f p x e) h (f (p + 3) y i);
}
