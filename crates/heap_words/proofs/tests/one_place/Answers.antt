use Rattle.std.proofs.Common.{◌≡◌, ℕ, ◌*◌, ◌<◌, true, List, length, set, sym, subst, arith}
use Rattle.std.proofs.lemmas.List.{length-set}
use Rattle.heap_words.specs.Cells.{encoded}
use Rattle.heap_words.specs.Heaps.{IsHeap, AreFresh, is_inside, top_at}
use Rattle.heap_words.specs.declared.cell.Cell.TheVariants.{Top}
use Rattle.heap_words.proofs.QuietHeaps.{quiet_heap, fresh_quiet, quiet_top, new_top, below_top}
use Rattle.heap_words.proofs.tests.one_place.Goals as goal

raised_heap : (ws : List ℕ) (x : ℕ) → AreFresh (1024 * 1) ws → x ≡ encoded (Top 2) → IsHeap (set ws 0 x)
raised_heap ws x f e =
    subst (λ (y : ℕ). IsHeap (set ws 0 y)) (sym e)
    (quiet_heap 1 (set ws 0 (encoded (Top 2)))
    (quiet_top 1 ws 0 2 (fresh_quiet 1 ws (omega arith) f) (omega arith) (omega arith) (omega arith)))

raised_place : (ws : List ℕ) (x : ℕ) → AreFresh (1024 * 1) ws → x ≡ encoded (Top 2) → is_inside (set ws 0 x) 1 ≡ true
raised_place ws x f e =
    let size : length ws ≡ 1024 * 1 = f.size in
    let new : top_at (set ws 0 (encoded (Top 2))) 0 ≡ 2 = new_top ws 0 2 (omega arith) (omega arith) in
    subst (λ (y : ℕ). is_inside (set ws 0 y) 1 ≡ true) (sym e)
    (below_top (set ws 0 (encoded (Top 2))) 1 (subst (λ (n : ℕ). 1 < n) (sym (length-set ws 0 (encoded (Top 2)))) (omega arith))
    (subst (λ (n : ℕ). 1 < n) (sym new) (omega arith)))

pub store-requires-clause-heap : goal.store-requires-clause-heap
store-requires-clause-heap c =
    raised_heap c.in_ok-heap.heap.words.items c.encode-top.result c.in_ok-heap.ensures.words c.encode-top.ensures.value

pub returns-clause-heap : goal.returns-clause-heap
returns-clause-heap c =
    subst (λ (ws : List ℕ). IsHeap ws) (sym c.store.ensures)
    (raised_heap c.in_ok-heap.heap.words.items c.encode-top.result c.in_ok-heap.ensures.words c.encode-top.ensures.value)

pub returns-clause-place : goal.returns-clause-place
returns-clause-place c =
    subst (λ (ws : List ℕ). is_inside ws 1 ≡ true) (sym c.store.ensures)
    (raised_place c.in_ok-heap.heap.words.items c.encode-top.result c.in_ok-heap.ensures.words c.encode-top.ensures.value)
