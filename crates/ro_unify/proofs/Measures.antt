-- Each step of a walk lowers the measure.
use Rattle.std.proofs.Common.{◌≡◌, ℕ, zero, suc, ◌+◌, ◌*◌, ◌<◌, ◌≤◌, Bool, true, false, cond, List, [], ◌∷◌, ◌++◌, length, Option, Some}
use Rattle.std.proofs.Common.{None, refl, sym, ap, ◌∙◌, subst, arith, mul_comm, mul-le-mul_right, length-append, eqb-true}
use Rattle.std.specs.Prelude.{nat_eq, unwrap_or}
use Rattle.std.proofs.lemmas.Bool.Decides.{nat_tests}
use Rattle.heap_words.specs.Cells.{decoded}
use Rattle.heap_words.specs.WordsLaws.{WordsLaws}
use Rattle.heap_words.specs.Trails.{WordList, Memory, word_at, KeepsLoads, Says}
use Rattle.heap_words.specs.declared.cell.Cell.{Cell}
use Rattle.heap_words.specs.declared.cell.Cell.TheVariants as cell
use Rattle.ro_unify.specs.declared.look.Look.{Look}
use Rattle.ro_unify.specs.declared.look.Look.TheVariants.{Writable, ReadOnly, Solid}
use Rattle.ro_unify.specs.declared.look.Step.{Step}
use Rattle.ro_unify.specs.declared.look.Step.TheVariants.{End, On}
use Rattle.ro_unify.specs.declared.occurrence.Whole.{Whole}
use Rattle.ro_unify.specs.declared.occurrence.Whole.TheVariants.{Atom, Pair, Tuple}
use Rattle.ro_unify.specs.Value.{leads_on, Values, ends, goes, step_of, step_at, bound_step, open_at, is_unbound}
use Rattle.ro_unify.specs.Occurs.{whole_of, count_of, words_after, parts_of, look_parts, Visits}
use Rattle.ro_unify.specs.Alike.{alike_as, pairs_after, same_atoms}
use Rattle.ro_unify.specs.Walks.{seen_memory, Tame, kids_of, kids, total, size, most_by, enough, weight, lacks, most, words_left}
use Rattle.ro_unify.proofs.Sizes.{all_shown, short, short_low, short_falls, total_most, length_after, step_falls}
use Rattle.ro_unify.proofs.Seeing.{lacks_less, nothing_new, agrees}

-- a count is at most 65
pub count_most : (o : Option Cell) → count_of o ≤ 65
count_most (Some (cell.Raw k)) = grind (arith, nat_tests)
count_most None = omega arith
count_most (Some (cell.Unbound k)) = omega arith
count_most (Some (cell.Ref a)) = omega arith
count_most (Some (cell.RoRef a)) = omega arith
count_most (Some (cell.Small z)) = omega arith
count_most (Some (cell.Wide a h)) = omega arith
count_most (Some (cell.Str s)) = omega arith
count_most (Some cell.Nil) = omega arith
count_most (Some (cell.Cons a)) = omega arith
count_most (Some (cell.Tuple a)) = omega arith
count_most (Some (cell.Status d)) = omega arith
count_most (Some (cell.Top a)) = omega arith

pub parts_most : (m : Memory) (w : Whole) → length (parts_of m w) ≤ 65
parts_most m Atom = omega arith
parts_most m (Pair a) = omega arith
parts_most m (Tuple a) = omega (arith, length_after m a (count_of (decoded (m a))), count_most (decoded (m a)))

kids_most : (bs : WordList) (m : Memory) (o : Option (Bool × ℕ)) (w : Whole) → length (kids_of bs m o w) ≤ 65
kids_most bs m (Some s) w = omega arith
kids_most bs m None w = parts_most m w

pub most_least : (k : ℕ) → 66 ≤ most_by k
most_least zero = omega arith
most_least (suc k) = omega (arith, most_least k)

pub size_most : (k : ℕ) (bs : WordList) (m : Memory) (x : ℕ) → size k bs m x ≤ most_by k
size_most zero bs m x = omega arith
size_most (suc k) bs m x =
    let a = total_most (size k bs m) (most_by k) (size_most k bs m) (kids bs m x) in
    let b : length (kids bs m x) * most_by k ≤ 65 * most_by k =
    mul-le-mul_right (most_by k) (kids_most bs m (leads_on false (decoded x)) (whole_of (decoded x))) in
    omega (arith, a, b, most_least k)

-- so a list that has at most 66 words more than its size before is within the bound
pub within_most : {A : Type 0} (b s : ℕ) (f : A → ℕ) (xs : List A) → 66 ≤ b → ((x : A) → f x ≤ b + b) → length xs ≤ s + 66
    → total f xs ≤ (b + b) * (s + (b + b))
within_most b s f xs h i j =
    let k = total_most f (b + b) i xs in
    let l : length xs * (b + b) ≤ (s + (b + b)) * (b + b) = mul-le-mul_right (b + b) (omega arith) in
    omega (arith, k, l, mul_comm (s + (b + b)) (b + b))

pub total_append : {A : Type 0} (f : A → ℕ) (xs ys : List A) → total f (xs ++ ys) ≡ total f xs + total f ys
total_append f [] ys = omega arith
total_append f (x ∷ xs) ys = omega (arith, total_append f xs ys)

pub total_least : {A : Type 0} (f : A → ℕ) → ((x : A) → 0 < f x) → (xs : List A) → length xs ≤ total f xs
total_least f h [] = omega arith
total_least f h (x ∷ xs) = omega (arith, h x, total_least f h xs)

-- in a tame memory the size of a word is one more than those of the words behind it
pub weight_is : (binds kept : WordList) (own : ℕ → Option ℕ) (n : ℕ) → Tame binds kept own n → (x : ℕ)
    → weight n binds kept own x ≡ suc (total (weight n binds kept own) (kids binds (seen_memory kept own) x))
weight_is binds kept own n t x =
    all_shown binds (seen_memory kept own) (short t.rank n) (λ a b e. short_falls t.rank n a b (t.within a b e) (t.falls a b e))
    (suc (n + n + n)) x (λ b r. short_low t.rank n b)

-- the place of a reference is the same with a mark met and without
pub same_place : (only still : Bool) (o : Option Cell) (a : ℕ) → leads_on only o ≡ Some (still, a)
    → (s : Bool) × (leads_on false o ≡ Some (s, a))
same_place only still (Some (cell.Ref b)) a e =
    (false, ap (λ (o : Option (Bool × ℕ)). elim o [ None ↦ Some (false, b) | Some p ↦ Some (false, p.1) ]) e)
same_place only still (Some (cell.RoRef b)) a e =
    (true, ap (λ (o : Option (Bool × ℕ)). elim o [ None ↦ Some (true, b) | Some p ↦ Some (true, p.1) ]) e)
same_place only still None a e = cc
same_place only still (Some (cell.Unbound k)) a e = cc
same_place only still (Some (cell.Small z)) a e = cc
same_place only still (Some (cell.Wide b h)) a e = cc
same_place only still (Some (cell.Str s)) a e = cc
same_place only still (Some cell.Nil) a e = cc
same_place only still (Some (cell.Cons b)) a e = cc
same_place only still (Some (cell.Tuple b)) a e = cc
same_place only still (Some (cell.Status d)) a e = cc
same_place only still (Some (cell.Raw k)) a e = cc
same_place only still (Some (cell.Top b)) a e = cc

pub no_place : (only : Bool) (o : Option Cell) → leads_on only o ≡ None → leads_on false o ≡ None
no_place only (Some (cell.Ref b)) e = cc
no_place only (Some (cell.RoRef b)) e = cc
no_place only None e = refl
no_place only (Some (cell.Unbound k)) e = refl
no_place only (Some (cell.Small z)) e = refl
no_place only (Some (cell.Wide b h)) e = refl
no_place only (Some (cell.Str s)) e = refl
no_place only (Some cell.Nil) e = refl
no_place only (Some (cell.Cons b)) e = refl
no_place only (Some (cell.Tuple b)) e = refl
no_place only (Some (cell.Status d)) e = refl
no_place only (Some (cell.Raw k)) e = refl
no_place only (Some (cell.Top b)) e = refl

-- what a step comes to
pub data Stepped (bs : WordList) (m : Memory) (only : Bool) (w : ℕ) : Step → Type 0 where
  solid : leads_on false (decoded w) ≡ None → Stepped bs m only w (End (Solid w))
  opens : (s o : Bool) (a : ℕ) → leads_on false (decoded w) ≡ Some (s, a) → word_at bs a ≡ None → is_unbound (decoded (m a)) ≡ true
      → Stepped bs m only w (End (open_at o a))
  bound : (s o : Bool) (a x : ℕ) → leads_on false (decoded w) ≡ Some (s, a) → word_at bs a ≡ Some x → Stepped bs m only w (On o x)
  passes : (s o : Bool) (a : ℕ) → leads_on false (decoded w) ≡ Some (s, a) → word_at bs a ≡ None → is_unbound (decoded (m a)) ≡ false
      → Stepped bs m only w (On o (m a))

pub stepped : (bs : WordList) (m : Memory) (only : Bool) (w : ℕ) → Stepped bs m only w (step_of bs m only w)
stepped bs m only w = go (leads_on only (decoded w)) refl
  where
    at : (s o : Bool) (a : ℕ) → leads_on false (decoded w) ≡ Some (s, a) → (b : Option ℕ) → word_at bs a ≡ b → (u : Bool)
        → is_unbound (decoded (m a)) ≡ u → Stepped bs m only w (bound_step o a b (m a))
    at s o a e (Some x) i u j = bound s o a x e i
    at s o a e None i true j =
        subst (λ (c : Bool). Stepped bs m only w (cond c (End (open_at o a)) (On o (m a)))) (sym j) (opens s o a e i j)
    at s o a e None i false j =
        subst (λ (c : Bool). Stepped bs m only w (cond c (End (open_at o a)) (On o (m a)))) (sym j) (passes s o a e i j)

    go : (o : Option (Bool × ℕ)) → leads_on only (decoded w) ≡ o → Stepped bs m only w (step_at bs m w o)
    go None e = solid (no_place only (decoded w) e)
    go (Some p) e =
        let q = same_place only p.0 (decoded w) p.1 e in at q.0 p.0 p.1 q.1 (word_at bs p.1) refl (is_unbound (decoded (m p.1))) refl

-- a step on goes to the one word behind
kids_on : (bs : WordList) (m : Memory) (only : Bool) (w : ℕ) (s : Step) (o : Bool) (x : ℕ) → Stepped bs m only w s → s ≡ On o x
    → kids bs m w ≡ x ∷ []
kids_on bs m only w _ o x (solid e) i = cc
kids_on bs m only w _ o x (opens s c a e j k) i = cc
kids_on bs m only w _ o x (bound s c a y e j) i =
    ap (λ (q : Option (Bool × ℕ)). kids_of bs m q (whole_of (decoded w))) e ∙ ap (λ (z : ℕ). z ∷ [])
    (ap (λ (q : Option ℕ). unwrap_or q (m a)) j ∙ (let k : y ≡ x = cc in k))
kids_on bs m only w _ o x (passes s c a e j k) i =
    ap (λ (q : Option (Bool × ℕ)). kids_of bs m q (whole_of (decoded w))) e ∙ ap (λ (z : ℕ). z ∷ [])
    (ap (λ (q : Option ℕ). unwrap_or q (m a)) j ∙ (let l : m a ≡ x = cc in l))

-- of a weight that is one more than those behind
module _ (bs : WordList) (m : Memory) (f : ℕ → ℕ) (is : (x : ℕ) → f x ≡ suc (total f (kids bs m x))) where
  pub on_less : (only : Bool) (w : ℕ) (o : Bool) (x : ℕ) → step_of bs m only w ≡ On o x → f x < f w
  on_less only w o x e =
      let k = kids_on bs m only w (step_of bs m only w) o x (stepped bs m only w) e in omega (arith, is w, ap (total f) k)

  solid_is : (only : Bool) (w : ℕ) (s : Step) (x : ℕ) → Stepped bs m only w s → s ≡ End (Solid x)
      → (x ≡ w) × (leads_on false (decoded x) ≡ None)
  solid_is only w _ x (solid e) i = let j : w ≡ x = cc in (sym j, subst (λ (z : ℕ). leads_on false (decoded z) ≡ None) j e)
  solid_is only w _ x (opens s true a e j k) i = cc
  solid_is only w _ x (opens s false a e j k) i = cc
  solid_is only w _ x (bound s c a y e j) i = cc
  solid_is only w _ x (passes s c a e j k) i = cc

  -- a value that is no place has no greater weight, and its parts together less
  pub solid_less : (only : Bool) (w : ℕ) (l : Look) (x : ℕ) → Values bs m only w l → l ≡ Solid x
      → total f (parts_of m (whole_of (decoded x))) < f w
  solid_less only w l x (ends _ _ _ e) i =
      let s = solid_is only w (step_of bs m only w) x (stepped bs m only w) (e ∙ ap End i) in
      let k : total f (kids bs m x) ≡ total f (parts_of m (whole_of (decoded x))) =
      ap (λ (q : Option (Bool × ℕ)). total f (kids_of bs m q (whole_of (decoded x)))) s.1 in
      omega (arith, is x, k, ap f s.0)
  solid_less only w l x (goes _ _ o y _ e v) i = omega (arith, solid_less o y l x v i, on_less only w o y e)

  -- the pairs of the parts of two words that are alike weigh no more than the parts
  pub after_weigh : (a b n : ℕ)
      → total (λ (p : ℕ × ℕ). f p.0 + f p.1) (pairs_after m a b n) ≡ total f (words_after m a n) + total f (words_after m b n)
  after_weigh a b zero = omega arith
  after_weigh a b (suc n) = omega (arith, after_weigh (a + 1) (b + 1) n)

  pub alike_weigh : (x y : ℕ) (v w : Whole) (qs : List (ℕ × ℕ)) → alike_as m x y v w ≡ Some qs
      → total (λ (p : ℕ × ℕ). f p.0 + f p.1) qs ≤ total f (parts_of m v) + total f (parts_of m w)
  alike_weigh x y Atom Atom qs e = go (same_atoms m x y) e
    where
      go : (c : Bool) → cond c (Some []) None ≡ Some qs → total (λ (p : ℕ × ℕ). f p.0 + f p.1) qs ≤ 0 + 0
      go true h = subst (λ (rs : List (ℕ × ℕ)). total (λ (p : ℕ × ℕ). f p.0 + f p.1) rs ≤ 0 + 0) (let i : [] ≡ qs = cc in i) (omega arith)
      go false h = cc
  alike_weigh x y Atom (Pair b) qs e = cc
  alike_weigh x y Atom (Tuple b) qs e = cc
  alike_weigh x y (Pair a) Atom qs e = cc
  alike_weigh x y (Pair a) (Pair b) qs e =
      subst (λ (rs : List (ℕ × ℕ)). total (λ (p : ℕ × ℕ). f p.0 + f p.1) rs ≤ total f (parts_of m (Pair a)) + total f
      (parts_of m (Pair b))) (let i : (m a, m b) ∷ (m (a + 1), m (b + 1)) ∷ [] ≡ qs = cc in i) (omega arith)
  alike_weigh x y (Pair a) (Tuple b) qs e = cc
  alike_weigh x y (Tuple a) Atom qs e = cc
  alike_weigh x y (Tuple a) (Pair b) qs e = cc
  alike_weigh x y (Tuple a) (Tuple b) qs e = go (nat_eq (m a) (m b)) refl e
    where
      go : (c : Bool) → nat_eq (m a) (m b) ≡ c → cond c (Some (pairs_after m a b (count_of (decoded (m a))))) None ≡ Some qs
          → total (λ (p : ℕ × ℕ). f p.0 + f p.1) qs ≤ total f (parts_of m (Tuple a)) + total f (parts_of m (Tuple b))
      go true i h =
          let same : m a ≡ m b = eqb-true (m a) (m b) i in
          let k = after_weigh a b (count_of (decoded (m a))) in
          subst (λ (rs : List (ℕ × ℕ)). total (λ (p : ℕ × ℕ). f p.0 + f p.1) rs ≤ total f (parts_of m (Tuple a)) + total f
          (parts_of m (Tuple b))) (let j : pairs_after m a b (count_of (decoded (m a))) ≡ qs = cc in j)
          (omega (arith, k, ap (λ (z : ℕ). total f (words_after m b (count_of (decoded z)))) same))
      go false i h = cc

module _ {S : Type 0} {addresses : S → ℕ} {sound : S → Type 0} {knows : S → ℕ → Type 0} {had : S → ℕ → ℕ → Type 0} {leads : S → ℕ → Type 0}
    {own shown : S → ℕ → Option ℕ} {later : S → S → Type 0} {gave : S → S → ℕ → ℕ → Type 0}
    (laws : WordsLaws {S = S} addresses sound knows had leads own shown later gave) where
  -- A list of words falls, where its weight falls if nothing new was kept, and it has at most 66 words more than it weighed.
  pub words_fall : {kept binds kept' binds' : WordList} {v w : S} (ws ws' : List ℕ)
      → KeepsLoads sound had leads later gave kept binds v kept' binds' w → binds' ≡ binds
      → (seen_memory kept' (own w) ≡ seen_memory kept (own v)
      → total (size (enough (addresses v)) binds (seen_memory kept (own v))) ws' < total (weight (addresses v) binds kept (own v)) ws)
      → length ws' ≤ total (weight (addresses v) binds kept (own v)) ws + 66
      → words_left (addresses w) binds' kept' (own w) ws' < words_left (addresses v) binds kept (own v) ws
  words_fall {kept = kept} {binds = binds} {kept' = kept'} {binds' = binds'} {v = v} {w = w} ws ws' p same falls few =
      subst (λ (k : ℕ). words_left k binds' kept' (own w) ws' < words_left (addresses v) binds kept (own v) ws) (sym size_same)
      (subst (λ (bs : WordList). words_left n bs kept' (own w) ws' < words_left n binds kept (own v) ws) (sym same) step)
    where
      n : ℕ
      n = addresses v

      size_same : addresses w ≡ addresses v
      size_same = laws.fixed v w p.went.between

      b : ℕ
      b = most_by (enough n)

      step : words_left n binds kept' (own w) ws' < words_left n binds kept (own v) ws
      step = step_falls (most n) (lacks kept n) (lacks kept' n) (total (weight n binds kept (own v)) ws)
          (total (weight n binds kept' (own w)) ws') (omega (arith, most_least (enough n)))
          (lacks_less kept kept' n p.went.grows)
          (λ e. let m = nothing_new laws p (subst (λ (k : ℕ). lacks kept' k ≡ lacks kept k) (sym size_same) e) in
          subst (λ (z : ℕ → ℕ). total (size (enough n) binds z) ws' < total (weight n binds kept (own v)) ws) (sym m) (falls m))
          (within_most b (total (weight n binds kept (own v)) ws) (weight n binds kept' (own w)) ws' (most_least (enough n))
          (λ x. omega (arith, size_most (enough n) binds (seen_memory kept' (own w)) x)) few)

  -- a step through a place
  pub place_falls : {kept binds kept' binds' : WordList} {v w : S} (only o : Bool) (at next : ℕ)
      → KeepsLoads sound had leads later gave kept binds v kept' binds' w → binds' ≡ binds → Tame binds kept (own v) (addresses v)
      → Says (own w) kept' (λ m. step_of binds m only at ≡ On o next)
      → words_left (addresses w) binds' kept' (own w) (next ∷ []) < words_left (addresses v) binds kept (own v) (at ∷ [])
  place_falls {kept = kept} {binds = binds} {kept' = kept'} {binds' = binds'} {v = v} {w = w} only o at next p same t says =
      words_fall (at ∷ []) (next ∷ []) p same
      (λ e. let k = on_less binds (seen_memory kept (own v)) (weight (addresses v) binds kept (own v))
      (weight_is binds kept (own v) (addresses v) t) only at o next
      (subst (λ (m : Memory). step_of binds m only at ≡ On o next) e
      (says (seen_memory kept' (own w)) (agrees laws 6 p.holds))) in omega arith)
      (omega arith)

  -- the visit of a word
  pub visit_falls : {kept binds kept' binds' : WordList} {v w : S} (x : ℕ) (ws rs ws' rs' : List ℕ) (l : Look)
      → KeepsLoads sound had leads later gave kept binds v kept' binds' w → binds' ≡ binds → Tame binds kept (own v) (addresses v)
      → Says (own w) kept' (λ m. Visits binds m x ws rs ws' rs' l)
      → words_left (addresses w) binds' kept' (own w) ws' < words_left (addresses v) binds kept (own v) (x ∷ ws)
  visit_falls {kept = kept} {binds = binds} {kept' = kept'} {binds' = binds'} {v = v} {w = w} x ws rs ws' rs' l p same t says =
      words_fall (x ∷ ws) ws' p same falls
      (let i = (says (seen_memory kept' (own w)) (agrees laws 6 p.holds)).1 in
      omega (arith, ap length i, length-append (look_parts (seen_memory kept' (own w)) l) ws, few l, total_least f least ws))
    where
      f : ℕ → ℕ
      f = weight (addresses v) binds kept (own v)

      least : (y : ℕ) → 0 < f y
      least y = omega arith

      few : (l : Look) → length (look_parts (seen_memory kept' (own w)) l) ≤ 65
      few (Solid y) = parts_most (seen_memory kept' (own w)) (whole_of (decoded y))
      few (Writable a) = omega arith
      few (ReadOnly a) = omega arith

      less : (l : Look) → Values binds (seen_memory kept (own v)) false x l → total f (look_parts (seen_memory kept (own v)) l) < f x
      less (Solid y) i =
          solid_less binds (seen_memory kept (own v)) f (weight_is binds kept (own v) (addresses v) t) false x (Solid y) y i refl
      less (Writable a) i = least x
      less (ReadOnly a) i = least x

      falls : seen_memory kept' (own w) ≡ seen_memory kept (own v) → total f ws' < total f (x ∷ ws)
      falls e =
          let i = subst (λ (m : Memory). Visits binds m x ws rs ws' rs' l) e (says (seen_memory kept' (own w)) (agrees laws 6 p.holds)) in
          omega (arith, ap (total f) i.1, total_append f (look_parts (seen_memory kept (own v)) l) ws, less l i.0)
