-- Which addresses are inside.
use Rattle.std.proofs.Common.{◌≡◌, ℕ, ◌-◌, ◌%◌, ◌<◌, ◌≤◌, Bool, true, false, cond, List, length, slice_get, Some, None, refl, arith, ◌⊎◌}
use Rattle.std.proofs.Common.{inl, inr, ⊎_elim, ◌||◌}
use Rattle.std.specs.Prelude.{nat_eq, nat_lt, ◌&&◌}
use Rattle.std.proofs.lemmas.Bool.{and_parts, and_from, or_left, or_cases, eqb-true, eq-eqb, ltb-true, lt-ltb}
use Rattle.std.proofs.lemmas.Option.{slice_get-get_or}
use Rattle.heap_words.specs.Heaps.{top_at, is_inside, inside_at}
use Rattle.heap_words.specs.HeapLaws.{inside_below, inside_is}

-- a page's first word is inside
pub first_inside : (ws : List ℕ) (a : ℕ) → a < length ws → a % 1024 ≡ 0 → is_inside ws a ≡ true
unfolding is_inside
first_inside ws a h m = and_from (nat_lt a (length ws)) (nat_eq (a % 1024) 0 || nat_lt a (top_at ws (a - a % 1024)))
    (lt-ltb a (length ws) h) (or_left (nat_eq (a % 1024) 0) (nat_lt a (top_at ws (a - a % 1024))) (eq-eqb (a % 1024) 0 m))

-- an address inside is a page's first, or below a top
pub inside_cases : (ws : List ℕ) (a : ℕ) → is_inside ws a ≡ true → (a < length ws) × ((a % 1024 ≡ 0) ⊎ (a < top_at ws (a - a % 1024)))
unfolding is_inside
inside_cases ws a h =
    let p = and_parts (nat_lt a (length ws)) (nat_eq (a % 1024) 0 || nat_lt a (top_at ws (a - a % 1024))) h in (
      ltb-true a (length ws) p.0,
      ⊎_elim (λ e. inl (eqb-true (a % 1024) 0 e)) (λ e. inr (ltb-true a (top_at ws (a - a % 1024)) e))
          (or_cases (nat_eq (a % 1024) 0) (nat_lt a (top_at ws (a - a % 1024))) p.1),
    )

pub not_inside : (ws : List ℕ) (a : ℕ) → (is_inside ws a ≡ true → ⊥) → is_inside ws a ≡ false
not_inside ws a h = go (is_inside ws a) refl
  where
    go : (t : Bool) → is_inside ws a ≡ t → is_inside ws a ≡ false
    go true e = absurd (h e)
    go false e = e

-- nothing from a top on is inside
pub above_top : (ws : List ℕ) (a : ℕ) → (a % 1024 ≡ 0 → ⊥) → top_at ws (a - a % 1024) ≤ a → is_inside ws a ≡ false
above_top ws a off h = not_inside ws a (λ i. ⊎_elim off (λ l. omega (arith, l)) (inside_cases ws a i).1)

-- it depends on the number of words and the page's top alone
pub same_inside : (ws ws' : List ℕ) (a : ℕ) → length ws' ≡ length ws → top_at ws' (a - a % 1024) ≡ top_at ws (a - a % 1024)
    → is_inside ws' a ≡ is_inside ws a
unfolding is_inside
same_inside ws ws' a l t = λ i. nat_lt a (l i) && (nat_eq (a % 1024) 0 || nat_lt a (t i))

-- the word at an address inside
pub inside_word : (ws : List ℕ) (a x : ℕ) → inside_at ws a ≡ Some x → slice_get ws a ≡ Some x
inside_word ws a x e = go (is_inside ws a) e
  where
    go : (t : Bool) → cond t (slice_get ws a) None ≡ Some x → slice_get ws a ≡ Some x
    go true f = f
    go false f = cc

pub some_word : (ws : List ℕ) (a : ℕ) → is_inside ws a ≡ true → (x : ℕ) × (inside_at ws a ≡ Some x)
some_word ws a i =
    let e = slice_get-get_or ws a 0 (inside_below ws a i) in
    (_, inside_is ws a _ i e)

-- two memories with the same words at an address have the same words inside
pub same_inside_at : (ws ws' : List ℕ) (a : ℕ) → is_inside ws' a ≡ is_inside ws a → slice_get ws' a ≡ slice_get ws a
    → inside_at ws' a ≡ inside_at ws a
same_inside_at ws ws' a i g = λ k. cond (i k) (g k) None
