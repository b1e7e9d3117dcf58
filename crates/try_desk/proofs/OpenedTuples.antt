-- A tuple whose parts go into slots.
use Rattle.std.proofs.Common.{◌≡◌, ℕ, zero, suc, ◌+◌, ◌<◌, ◌≤◌, Bool, true, false, cond, Option, Some, None, refl, sym, ap, ap₂}
use Rattle.std.proofs.Common.{◌∙◌, subst, arith}
use Rattle.std.specs.Prelude.{nat_eq}
use Rattle.std.proofs.lemmas.Bool.{eqb-true, lt-ltb, cond-true}
use Rattle.heap_words.specs.Cells.{decoded}
use Rattle.heap_words.specs.Refers.{parts}
use Rattle.heap_words.specs.Trails.{WordList, Memory, KeepsLoads, Says}
use Rattle.heap_words.specs.WordsLaws.{WordsLaws}
use Rattle.heap_words.specs.declared.cell.Cell.{Cell}
use Rattle.heap_words.specs.declared.cell.Cell.TheVariants as cell
use Rattle.ro_unify.specs.declared.look.Look.{Look}
use Rattle.ro_unify.specs.declared.look.Look.TheVariants as look
use Rattle.ro_unify.specs.declared.occurrence.Whole.TheVariants as whole
use Rattle.ro_unify.specs.Occurs.{whole_of, count_of, words_after}
use Rattle.ro_unify.specs.Value.{look_word}
use Rattle.ro_unify.specs.Walks.{IsSeen}
use Rattle.ro_unify.proofs.Seeing.{said_seen, is_seen_on}
use Rattle.trial_laws.specs.Opening.{is_count, tuple_in, tuple_at}
use Rattle.try_desk.specs.Held.{Held, held_with}
use Rattle.try_desk.specs.Opened.{held_all, tuple_cell, any_tuple}

tuple_whole : (o : Option Cell) (c : ℕ) → tuple_cell o ≡ Some c → whole_of o ≡ whole.Tuple c
tuple_whole (Some (cell.Tuple a)) c e = cc
tuple_whole None c e = cc
tuple_whole (Some (cell.Unbound a)) c e = cc
tuple_whole (Some (cell.Ref a)) c e = cc
tuple_whole (Some (cell.RoRef a)) c e = cc
tuple_whole (Some (cell.Small z)) c e = cc
tuple_whole (Some (cell.Wide a h)) c e = cc
tuple_whole (Some (cell.Str s)) c e = cc
tuple_whole (Some cell.Nil) c e = cc
tuple_whole (Some (cell.Cons a)) c e = cc
tuple_whole (Some (cell.Status d)) c e = cc
tuple_whole (Some (cell.Raw a)) c e = cc
tuple_whole (Some (cell.Top a)) c e = cc

-- the word of a value that is a tuple
pub tuple_word : (l : Look) (c : ℕ) → any_tuple l ≡ Some c → whole_of (decoded (look_word l)) ≡ whole.Tuple c
tuple_word (look.Solid x) c e = tuple_whole (decoded x) c e
tuple_word (look.Writable a) c e = cc
tuple_word (look.ReadOnly a) c e = cc

-- a number of parts below 66
pub count_parts : (n : ℕ) (o : Option Cell) → is_count n o ≡ true → n < 66 → count_of o ≡ n
count_parts n (Some (cell.Raw m)) e l = subst (λ (z : ℕ). parts z ≡ n) (sym (eqb-true m n e)) (cond-true _ _ _ (lt-ltb n 66 l))
count_parts n None e l = cc
count_parts n (Some (cell.Unbound a)) e l = cc
count_parts n (Some (cell.Ref a)) e l = cc
count_parts n (Some (cell.RoRef a)) e l = cc
count_parts n (Some (cell.Small z)) e l = cc
count_parts n (Some (cell.Wide a h)) e l = cc
count_parts n (Some (cell.Str s)) e l = cc
count_parts n (Some cell.Nil) e l = cc
count_parts n (Some (cell.Cons a)) e l = cc
count_parts n (Some (cell.Tuple a)) e l = cc
count_parts n (Some (cell.Status d)) e l = cc
count_parts n (Some (cell.Top a)) e l = cc

-- a tuple is one of so many parts, or of another number of them
counted : (m : Memory) (n y : ℕ) (o : Option Cell) (c : ℕ) (b : Bool) → tuple_cell o ≡ Some c → m c ≡ y → is_count n (decoded y) ≡ b
    → tuple_in m n o ≡ cond b (Some c) None
counted m n y (Some (cell.Tuple a)) c b e f g =
    let k : a ≡ c = cc in
    ap (λ (z : ℕ). cond (is_count n (decoded (m z))) (Some z) None) k
    ∙ ap (λ (t : Bool). cond t (Some c) None) (ap (λ (z : ℕ). is_count n (decoded z)) f ∙ g)
counted m n y None c b e f g = cc
counted m n y (Some (cell.Unbound a)) c b e f g = cc
counted m n y (Some (cell.Ref a)) c b e f g = cc
counted m n y (Some (cell.RoRef a)) c b e f g = cc
counted m n y (Some (cell.Small z)) c b e f g = cc
counted m n y (Some (cell.Wide a h)) c b e f g = cc
counted m n y (Some (cell.Str s)) c b e f g = cc
counted m n y (Some cell.Nil) c b e f g = cc
counted m n y (Some (cell.Cons a)) c b e f g = cc
counted m n y (Some (cell.Status d)) c b e f g = cc
counted m n y (Some (cell.Raw a)) c b e f g = cc
counted m n y (Some (cell.Top a)) c b e f g = cc

pub tuple_counted : (m : Memory) (n y : ℕ) (l : Look) (c : ℕ) (b : Bool) → any_tuple l ≡ Some c → m c ≡ y → is_count n (decoded y) ≡ b
    → tuple_at m n l ≡ cond b (Some c) None
tuple_counted m n y (look.Solid x) c b e f g = counted m n y (decoded x) c b e f g
tuple_counted m n y (look.Writable a) c b e f g = cc
tuple_counted m n y (look.ReadOnly a) c b e f g = cc

uncounted : (m : Memory) (n : ℕ) (o : Option Cell) → tuple_cell o ≡ None → tuple_in m n o ≡ None
uncounted m n (Some (cell.Tuple a)) e = cc
uncounted m n None e = refl
uncounted m n (Some (cell.Unbound a)) e = refl
uncounted m n (Some (cell.Ref a)) e = refl
uncounted m n (Some (cell.RoRef a)) e = refl
uncounted m n (Some (cell.Small z)) e = refl
uncounted m n (Some (cell.Wide a h)) e = refl
uncounted m n (Some (cell.Str s)) e = refl
uncounted m n (Some cell.Nil) e = refl
uncounted m n (Some (cell.Cons a)) e = refl
uncounted m n (Some (cell.Status d)) e = refl
uncounted m n (Some (cell.Raw a)) e = refl
uncounted m n (Some (cell.Top a)) e = refl

pub no_tuple : (m : Memory) (n : ℕ) (l : Look) → any_tuple l ≡ None → tuple_at m n l ≡ None
no_tuple m n (look.Solid x) e = uncounted m n (decoded x) e
no_tuple m n (look.Writable a) e = refl
no_tuple m n (look.ReadOnly a) e = refl

-- one part more
held_more : (m : Memory) (h : Held) (a i n : ℕ)
    → held_all h i (words_after m a (suc n)) ≡ held_with (held_all h i (words_after m a n)) (i + n) (m (a + (n + 1))) false
held_more m h a i zero =
    let e : i ≡ i + 0 = omega arith in
    let f : a + 1 ≡ a + (0 + 1) = omega arith in
    ap₂ (λ (k b : ℕ). held_with h k (m b) false) e f
held_more m h a i (suc n) =
    let e : suc i + n ≡ i + suc n = omega arith in
    let f : a + 1 + (n + 1) ≡ a + (suc n + 1) = omega arith in
    held_more m (held_with h i (m (a + 1)) false) (a + 1) (suc i) n
    ∙ ap₂ (λ (k b : ℕ). held_with (held_all (held_with h i (m (a + 1)) false) (suc i) (words_after m (a + 1) n)) k (m b) false) e f

pub part_taken : (m : Memory) (h h' h'' : Held) (a i n x : ℕ) → h' ≡ held_all h i (words_after m a n) → h'' ≡ held_with h' (i + n) x false
    → m (a + (n + 1)) ≡ x → h'' ≡ held_all h i (words_after m a (n + 1))
part_taken m h h' h'' a i n x e f g =
    let more : n + 1 ≡ suc n = omega arith in
    f ∙ (ap₂ (λ (z : Held) (y : ℕ). held_with z (i + n) y false) e (sym g)
    ∙ (sym (held_more m h a i n) ∙ ap (λ (k : ℕ). held_all h i (words_after m a k)) (sym more)))

module _ {S : Type 0} {addresses : S → ℕ} {sound : S → Type 0} {knows : S → ℕ → Type 0} {had : S → ℕ → ℕ → Type 0} {leads : S → ℕ → Type 0}
    {own shown : S → ℕ → Option ℕ} {later : S → S → Type 0} {gave : S → S → ℕ → ℕ → Type 0}
    (laws : WordsLaws {S = S} addresses sound knows had leads own shown later gave) where
  -- a part that was seen before, or that was loaded now
  pub part_seen : {kept binds kept' binds' : WordList} {v w : S} (b a x : ℕ)
      → KeepsLoads sound had leads later gave kept binds v kept' binds' w → Says (own w) kept' (λ m. m a ≡ x) → b ≤ a
      → (b < a → IsSeen kept (own v) b) → IsSeen kept' (own w) b
  part_seen {kept = kept} {kept' = kept'} {v = v} {w = w} b a x p says l old = go (nat_eq a b) refl
    where
      go : (t : Bool) → nat_eq a b ≡ t → IsSeen kept' (own w) b
      go true e = subst (λ (c : ℕ). IsSeen kept' (own w) c) (let k : a ≡ b = grind arith in k) (said_seen laws a x p.holds says)
      go false e = is_seen_on laws p b (old (let k : b < a = grind arith in k))
