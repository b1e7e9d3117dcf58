-- Heaps whose words refer to nothing: a new heap, and one to which such words are added.
use Rattle.std.proofs.Common.{inl, ◌≡◌, ℕ, zero, suc, ◌+◌, ◌-◌, ◌*◌, ◌||◌, ◌%◌, ◌<◌, ◌≤◌, Bool, true, false, cond, List, [], ◌∷◌}
use Rattle.std.proofs.Common.{length, set, slice_get, Option, Some, None, refl, sym, ap, ◌∙◌, subst, arith, ⊎_elim}
use Rattle.std.specs.Prelude.{nat_eq, nat_lt}
use Rattle.std.specs.Option.{option_and_then}
use Rattle.std.proofs.lemmas.Bool.{and_from, or_right, lt-ltb, eqb-true, cases_eq}
use Rattle.std.proofs.lemmas.List.{length-set}
use Rattle.std.proofs.lemmas.Option.{cond_some, slice_get_within, same_Some}
use Rattle.heap_words.specs.Cells.{decoded, encoded, is_final_word}
use Rattle.heap_words.specs.Refers.{Refers, HasPart, reaches_refers, teller}
use Rattle.heap_words.specs.Heaps.{IsHeap, RefersInside, AreFresh, fresh_word, top_said, top_at, is_inside, inside_at, only_final, final_at}
use Rattle.heap_words.specs.declared.cell.Cell.{Cell}
use Rattle.heap_words.specs.declared.cell.Cell.TheVariants.{Unbound, Ref, RoRef, Small, Wide, Str, Nil, Cons, Tuple, Status, Raw, Top}
use Rattle.heap_words.specs.declared.cell.Stand.{Stand}
use Rattle.heap_words.proofs.Encodings.{decoded_encoded}

-- elements of a list after a write
pub slice_get-set_same : (xs : List ℕ) (i v : ℕ) → i < length xs → slice_get (set xs i v) i ≡ Some v
slice_get-set_same [] i v h = absurd (omega arith)
slice_get-set_same (x ∷ xs) zero v h = refl
slice_get-set_same (x ∷ xs) (suc i) v h = slice_get-set_same xs i v (omega arith)

pub slice_get-set_other : (xs : List ℕ) (i j v : ℕ) → (j ≡ i → ⊥) → slice_get (set xs i v) j ≡ slice_get xs j
slice_get-set_other [] i j v h = refl
slice_get-set_other (x ∷ xs) zero zero v h = absurd (h refl)
slice_get-set_other (x ∷ xs) zero (suc j) v h = refl
slice_get-set_other (x ∷ xs) (suc i) zero v h = refl
slice_get-set_other (x ∷ xs) (suc i) (suc j) v h = slice_get-set_other xs i j v (λ e. h (ap suc e))

-- a cell that refers to nothing, and is no process's first word
abbrev pub is_quiet : Cell → Bool
is_quiet (Unbound e) = nat_eq e 0
is_quiet (Small z) = true
is_quiet (Str s) = true
is_quiet Nil = true
is_quiet (Raw n) = true
is_quiet (Top a) = true
is_quiet _ = false

-- the word of such a cell
pub record IsQuiet (x : ℕ) : Type 0 where
  pub cell : Cell
  pub says : decoded x ≡ Some cell
  pub quiet : is_quiet cell ≡ true

quiet_refers : (c : Cell) (b : ℕ) → is_quiet c ≡ true → Refers c b → ⊥
quiet_refers (Unbound e) b q r = let h : e ≡ 0 = eqb-true e 0 q in let k : 0 < e = r.0 in omega arith
quiet_refers (Ref a) b q r = cc
quiet_refers (RoRef a) b q r = cc
quiet_refers (Small z) b q r = r
quiet_refers (Wide a h) b q r = cc
quiet_refers (Str s) b q r = r
quiet_refers Nil b q r = r
quiet_refers (Cons a) b q r = cc
quiet_refers (Tuple a) b q r = cc
quiet_refers (Status d) b q r = r
quiet_refers (Raw n) b q r = r
quiet_refers (Top a) b q r = r

quiet_part : (c : Cell) (b : ℕ) → is_quiet c ≡ true → HasPart c b → ⊥
quiet_part (Unbound e) b q r = quiet_refers (Unbound e) b q r
quiet_part (Ref a) b q r = r
quiet_part (RoRef a) b q r = r
quiet_part (Small z) b q r = r
quiet_part (Wide a h) b q r = cc
quiet_part (Str s) b q r = r
quiet_part Nil b q r = r
quiet_part (Cons a) b q r = cc
quiet_part (Tuple a) b q r = cc
quiet_part (Status d) b q r = r
quiet_part (Raw n) b q r = r
quiet_part (Top a) b q r = r

quiet_tells : (c : Cell) (t : ℕ) → is_quiet c ≡ true → teller c ≡ Some t → ⊥
quiet_tells (Unbound e) t q i = let j : None ≡ Some t = sym (ap (λ b. cond b None (Some e)) q) ∙ i in cc
quiet_tells (Ref a) t q i = cc
quiet_tells (RoRef a) t q i = cc
quiet_tells (Small z) t q i = cc
quiet_tells (Wide a h) t q i = cc
quiet_tells (Str s) t q i = cc
quiet_tells Nil t q i = cc
quiet_tells (Cons a) t q i = cc
quiet_tells (Tuple a) t q i = cc
quiet_tells (Status d) t q i = cc
quiet_tells (Raw n) t q i = cc
quiet_tells (Top a) t q i = cc

-- the cell of a quiet word is quiet
quiet_cell : (x : ℕ) (c : Cell) → IsQuiet x → decoded x ≡ Some c → is_quiet c ≡ true
quiet_cell x c q d = subst (λ (z : Cell). is_quiet z ≡ true) (same_Some q.cell c (sym q.says ∙ d)) q.quiet

no_status : (x : ℕ) (d : Stand) → IsQuiet x → decoded x ≡ Some (Status d) → ⊥
no_status x d q e = let h : false ≡ true = quiet_cell x (Status d) q e in cc

quiet_inside : (ws : List ℕ) (x : ℕ) → IsQuiet x → RefersInside ws x
quiet_inside ws x q = record {
  refers = λ b c d r. absurd (quiet_refers c b (quiet_cell x c q d) r);
  refers_by = λ t y n b c d i _ _ _. absurd (quiet_tells c t (quiet_cell x c q d) i);
  part_final = λ b y c d r _. absurd (quiet_part c b (quiet_cell x c q d) r);
  part_final_by = λ t z n b y c d i _ _ _ _. absurd (quiet_tells c t (quiet_cell x c q d) i);
}

inside_word : (ws : List ℕ) (a x : ℕ) → inside_at ws a ≡ Some x → slice_get ws a ≡ Some x
inside_word ws a x e = go (is_inside ws a) e
  where
    go : (t : Bool) → cond t (slice_get ws a) None ≡ Some x → slice_get ws a ≡ Some x
    go true f = f
    go false f = cc

final_word : (ws : List ℕ) (a x : ℕ) → final_at ws a ≡ Some x → slice_get ws a ≡ Some x
final_word ws a x e = go (inside_at ws a) refl e
  where
    go : (o : Option ℕ) → inside_at ws a ≡ o → only_final o ≡ Some x → slice_get ws a ≡ Some x
    go None i f = cc
    go (Some y) i f = inside_word ws a x (i ∙ ap Some (cond_some (is_final_word y) y x f).1)

-- pages of quiet words, with their tops
pub record AreQuiet (pages : ℕ) (ws : List ℕ) : Type 0 where
  pub size : length ws ≡ 1024 * pages
  pub few : pages ≤ 3906250
  pub above : (p : ℕ) → p < pages → 1024 * p < top_at ws (1024 * p)
  pub within : (p : ℕ) → p < pages → top_at ws (1024 * p) ≤ 1024 * p + 1024
  pub each : (a x : ℕ) → slice_get ws a ≡ Some x → IsQuiet x

page_below : (p pages : ℕ) → 1024 * p < 1024 * pages → p < pages
page_below p pages h = omega arith

pub quiet_heap : (pages : ℕ) (ws : List ℕ) → AreQuiet pages ws → IsHeap ws
quiet_heap pages ws q = record {
  whole = let e : length ws ≡ 1024 * pages = q.size in omega arith;
  small = let e : length ws ≡ 1024 * pages = q.size in let f : pages ≤ 3906250 = q.few in omega arith;
  above = λ p h. q.above p (page_below p pages (subst (λ (n : ℕ). 1024 * p < n) q.size h));
  within = λ p h. q.within p (page_below p pages (subst (λ (n : ℕ). 1024 * p < n) q.size h));
  inside = λ a x e. quiet_inside ws x (q.each a x (inside_word ws a x e));
  process = λ p x b d e f _ _. absurd (no_status x d (q.each p x (inside_word ws p x e)) f);
  arguments = λ p x y n b d e f _ _ _ _. absurd (no_status x d (q.each p x (inside_word ws p x e)) f);
  no_cycle = record {
    rank = λ a. 0;
    falls = λ a b x c e d r. absurd (quiet_refers c b (quiet_cell x c (q.each a x (final_word ws a x e)) d) (reaches_refers c b r));
    falls_by = λ a b x t y n c e d i _ _ _. absurd (quiet_tells c t (quiet_cell x c (q.each a x (final_word ws a x e)) d) i);
    order = λ a. 0;
    links = λ a c x y n e d _ _. absurd (quiet_refers (Cons c) c (quiet_cell x (Cons c) (q.each a x (final_word ws a x e)) d) (inl refl));
  };
}

-- new words
decoded_zero : decoded 0 ≡ Some (Unbound 0)
unfolding decoded
decoded_zero = refl

fresh_is_quiet : (a : ℕ) → a < 4000000000 → IsQuiet (fresh_word a)
fresh_is_quiet a h = go (nat_eq (a % 1024) 0)
  where
    go : (t : Bool) → IsQuiet (cond t (encoded (Top (a + 1))) 0)
    go true = record { cell = Top (a + 1); says = decoded_encoded (Top (a + 1)) (omega arith); quiet = refl }
    go false = record { cell = Unbound 0; says = decoded_zero; quiet = refl }

fresh_top : (n a : ℕ) (ws : List ℕ) → AreFresh n ws → a < n → a < 4000000000 → a % 1024 ≡ 0 → top_at ws a ≡ a + 1
fresh_top n a ws f h b m =
    ap (λ o. top_said (option_and_then decoded o)) (f.each a h ∙ ap (λ r. Some (cond (nat_eq r 0) (encoded (Top (a + 1))) 0)) m)
    ∙ ap top_said (decoded_encoded (Top (a + 1)) (omega arith))

page_top : (pages p : ℕ) (ws : List ℕ) → pages ≤ 3906250 → AreFresh (1024 * pages) ws → p < pages → top_at ws (1024 * p) ≡ 1024 * p + 1
page_top pages p ws few f h = fresh_top (1024 * pages) (1024 * p) ws f (omega arith) (omega arith) (omega arith)

fresh_each : (n : ℕ) (ws : List ℕ) → AreFresh n ws → n ≤ 4000000000 → (a x : ℕ) → slice_get ws a ≡ Some x → IsQuiet x
fresh_each n ws f few a x e =
    let b : a < n = subst (λ (m : ℕ). a < m) f.size (slice_get_within ws a x e) in
    let same : fresh_word a ≡ x = same_Some (fresh_word a) x (sym (f.each a b) ∙ e) in
    subst IsQuiet same (fresh_is_quiet a (omega arith))

pub fresh_quiet : (pages : ℕ) (ws : List ℕ) → pages ≤ 3906250 → AreFresh (1024 * pages) ws → AreQuiet pages ws
fresh_quiet pages ws few f = record {
  size = f.size;
  few = few;
  above = λ p h. let e = page_top pages p ws few f h in omega (arith, e);
  within = λ p h. let e = page_top pages p ws few f h in omega (arith, e);
  each = fresh_each (1024 * pages) ws f (omega arith);
}

-- a quiet word is written, other than a top
set_each : (ws : List ℕ) (i v : ℕ) → IsQuiet v → ((a x : ℕ) → slice_get ws a ≡ Some x → IsQuiet x) → (a x : ℕ)
    → slice_get (set ws i v) a ≡ Some x → IsQuiet x
set_each ws i v q each a x e = ⊎_elim
    (λ s. let b : i < length ws = subst (λ (n : ℕ). i < n) (length-set ws i v)
    (subst (λ (k : ℕ). k < length (set ws i v)) s (slice_get_within (set ws i v) a x e)) in
    subst IsQuiet (same_Some v x (sym (slice_get-set_same ws i v b) ∙ subst (λ (k : ℕ). slice_get (set ws i v) k ≡ Some x) s e)) q)
    (λ d. each a x (sym (slice_get-set_other ws i a v d) ∙ e))
    (cases_eq a i)

pub same_top : (ws : List ℕ) (i v a : ℕ) → (a ≡ i → ⊥) → top_at (set ws i v) a ≡ top_at ws a
same_top ws i v a d = ap (λ o. top_said (option_and_then decoded o)) (slice_get-set_other ws i a v d)

pub quiet_word : (pages : ℕ) (ws : List ℕ) (i v : ℕ) → AreQuiet pages ws → (i % 1024 ≡ 0 → ⊥) → IsQuiet v → AreQuiet pages (set ws i v)
quiet_word pages ws i v q off w = record {
  size = length-set ws i v ∙ q.size;
  few = q.few;
  above = λ p h. let e = same_top ws i v (1024 * p) (other p) in let k = q.above p h in omega (arith, e, k);
  within = λ p h. let e = same_top ws i v (1024 * p) (other p) in let k = q.within p h in omega (arith, e, k);
  each = set_each ws i v w q.each;
}
  where
    other : (p : ℕ) → 1024 * p ≡ i → ⊥
    other p e = off (omega arith)

-- a page's top is raised
pub new_top : (ws : List ℕ) (i t : ℕ) → i < length ws → t < 0x100000000 → top_at (set ws i (encoded (Top t))) i ≡ t
new_top ws i t h b =
    ap (λ o. top_said (option_and_then decoded o)) (slice_get-set_same ws i (encoded (Top t)) h) ∙ ap top_said (decoded_encoded (Top t) b)

pub quiet_top : (pages : ℕ) (ws : List ℕ) (i t : ℕ) → AreQuiet pages ws → i < 1024 * pages → i < t → t ≤ i + 1024
    → AreQuiet pages (set ws i (encoded (Top t)))
quiet_top pages ws i t q there lo hi =
    let few : pages ≤ 3906250 = q.few in
    let fits : t < 0x100000000 = omega arith in
    let in_list : i < length ws = subst (λ (n : ℕ). i < n) (sym q.size) there in
    let new : top_at (set ws i (encoded (Top t))) i ≡ t = new_top ws i t in_list fits in
    record {
      size = length-set ws i (encoded (Top t)) ∙ q.size;
      few = q.few;
      above = λ p h. ⊎_elim
          (λ e. subst (λ (k : ℕ). k < top_at (set ws i (encoded (Top t))) k) (sym e) (subst (λ (n : ℕ). i < n) (sym new) lo))
          (λ d. subst (λ (n : ℕ). 1024 * p < n) (sym (same_top ws i (encoded (Top t)) (1024 * p) d)) (q.above p h))
          (cases_eq (1024 * p) i);
      within = λ p h. ⊎_elim
          (λ e. subst (λ (k : ℕ). top_at (set ws i (encoded (Top t))) k ≤ k + 1024) (sym e) (subst (λ (n : ℕ). n ≤ i + 1024) (sym new) hi))
          (λ d. subst (λ (n : ℕ). n ≤ 1024 * p + 1024) (sym (same_top ws i (encoded (Top t)) (1024 * p) d)) (q.within p h))
          (cases_eq (1024 * p) i);
      each = set_each ws i (encoded (Top t)) (record { cell = Top t; says = decoded_encoded (Top t) fits; quiet = refl }) q.each;
    }

-- an address below its page's top is inside
pub below_top : (ws : List ℕ) (a : ℕ) → a < length ws → a < top_at ws (a - a % 1024) → is_inside ws a ≡ true
unfolding is_inside
below_top ws a h i = and_from (nat_lt a (length ws)) (nat_eq (a % 1024) 0 || nat_lt a (top_at ws (a - a % 1024))) (lt-ltb a (length ws) h)
    (or_right (nat_eq (a % 1024) 0) (nat_lt a (top_at ws (a - a % 1024))) (lt-ltb a (top_at ws (a - a % 1024)) i))
