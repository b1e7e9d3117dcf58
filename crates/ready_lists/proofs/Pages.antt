-- Where words stand in a page.
use Rattle.std.proofs.Common.{◌≡◌, ℕ, ◌+◌, ◌-◌, ◌*◌, ◌%◌, ◌<◌, ◌≤◌, ◌||◌, true, List, length, get_or}
use Rattle.std.proofs.Common.{Option, Some, sym, ap, ◌∙◌, subst, arith, ⊎_elim}
use Rattle.std.specs.Prelude.{nat_eq, nat_lt}
use Rattle.std.specs.Option.{option_and_then}
use Rattle.std.proofs.lemmas.Bool.{and_parts, or_cases, ltb-true, eqb-true}
use Rattle.std.proofs.lemmas.Option.{same_Some, slice_get-get_or}
use Rattle.heap_words.specs.Cells.{decoded}
use Rattle.heap_words.specs.Heaps.{IsHeap, top_said, top_at, is_inside, inside_at}
use Rattle.heap_words.specs.HeapLaws.{inside_below, inside_is, inside_known}
use Rattle.heap_words.specs.declared.cell.Cell.{Cell}
use Rattle.heap_words.specs.declared.cell.Cell.TheVariants.{Status}
use Rattle.heap_words.specs.declared.cell.Stand.{Stand}
use Rattle.heap_words.proofs.QuietHeaps.{below_top}
use Rattle.word_states.specs.Words.{At}

-- behind a page's first word, no address from the top on is inside
pub inside_page : (ws : List ℕ) (p a : ℕ) → 1024 * p < a → a < 1024 * p + 1024 → is_inside ws a ≡ true → a < top_at ws (1024 * p)
unfolding is_inside
inside_page ws p a lo hi h =
    let first : a - a % 1024 ≡ 1024 * p = omega arith in
    let parts = and_parts (nat_lt a (length ws)) (nat_eq (a % 1024) 0 || nat_lt a (top_at ws (a - a % 1024))) h in
    ⊎_elim (λ e. let z : a % 1024 ≡ 0 = eqb-true (a % 1024) 0 e in absurd (omega arith))
    (λ e. subst (λ b. a < top_at ws b) first (ltb-true a (top_at ws (a - a % 1024)) e))
    (or_cases (nat_eq (a % 1024) 0) (nat_lt a (top_at ws (a - a % 1024))) parts.1)

-- and those before it are
pub below_page_top : (ws : List ℕ) (p a : ℕ) → IsHeap ws → 1024 * p < length ws → 1024 * p < a → a < top_at ws (1024 * p)
    → is_inside ws a ≡ true
below_page_top ws p a heap there lo hi =
    let end : top_at ws (1024 * p) ≤ 1024 * p + 1024 = heap.within p there in
    let whole : length ws % 1024 ≡ 0 = heap.whole in
    let first : 1024 * p ≡ a - a % 1024 = omega arith in
    below_top ws a (omega arith) (subst (λ b. a < top_at ws b) first hi)

-- the top of a page by its first word
pub top_is : (ws : List ℕ) (a d : ℕ) → a < length ws → top_said (decoded (get_or ws a d)) ≡ top_at ws a
top_is ws a d h = sym (ap (λ (o : Option ℕ). top_said (option_and_then decoded o)) (slice_get-get_or ws a d h))

-- the word at an address inside is the one that stands there
pub word_at_place : (ws : List ℕ) (a x d : ℕ) → inside_at ws a ≡ Some x → x ≡ get_or ws a d
word_at_place ws a x d e =
    let i = inside_known ws a x e in
    same_Some x (get_or ws a d) (sym e ∙ inside_is ws a _ i (slice_get-get_or ws a d (inside_below ws a i)))

pub cell_at_place : (ws : List ℕ) (a d : ℕ) (c : Cell) → At (inside_at ws) a c → decoded (get_or ws a d) ≡ Some c
cell_at_place ws a d c h = ap decoded (sym (word_at_place ws a h.0 d h.1)) ∙ h.2

pub at_from_place : (ws : List ℕ) (a d : ℕ) (c : Cell) → is_inside ws a ≡ true → decoded (get_or ws a d) ≡ Some c → At (inside_at ws) a c
at_from_place ws a d c i e = (get_or ws a d, inside_is ws a _ i (slice_get-get_or ws a d (inside_below ws a i)), e)

-- a page's first word is no status
pub first_is_top : (ws : List ℕ) (p : ℕ) (d : Stand) → IsHeap ws → 1024 * p < length ws → At (inside_at ws) (1024 * p) (Status d) → ⊥
first_is_top ws p d heap there h =
    let up : 1024 * p < top_at ws (1024 * p) = heap.above p there in
    let zero : 0 ≡ top_at ws (1024 * p) =
    ap top_said (sym (cell_at_place ws (1024 * p) 0 (Status d) h)) ∙ top_is ws (1024 * p) 0 there in
    omega arith

-- behind a status another word stands
pub next_inside : (ws : List ℕ) (a : ℕ) (d : Stand) → IsHeap ws → At (inside_at ws) a (Status d) → is_inside ws (a + 1) ≡ true
next_inside ws a d heap h = heap.process a h.0 (a + 1) d h.1 h.2 (omega arith) (omega arith)
