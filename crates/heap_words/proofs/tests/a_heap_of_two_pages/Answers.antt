use Rattle.std.proofs.Common.{◌≡◌, ℕ, ◌*◌, ◌<◌, pos, true, List, length, set, refl, sym, ◌∙◌, subst, arith}
use Rattle.std.proofs.lemmas.Int.{ints}
use Rattle.std.proofs.lemmas.List.{length-set}
use Rattle.heap_words.specs.Cells.{encoded}
use Rattle.heap_words.specs.Heaps.{IsHeap, AreFresh, is_inside, top_at}
use Rattle.heap_words.specs.declared.cell.Cell.TheVariants.{Small, Top}
use Rattle.heap_words.proofs.Encodings.{decoded_encoded}
use Rattle.heap_words.proofs.QuietHeaps.{AreQuiet, IsQuiet, quiet_heap, fresh_quiet, quiet_top, quiet_word, new_top, same_top, below_top}
use Rattle.heap_words.proofs.tests.a_heap_of_two_pages.Goals as goal

small : IsQuiet (encoded (Small (pos 7)))
small = record { cell = Small (pos 7); says = decoded_encoded (Small (pos 7)) (omega (arith, ints), omega (arith, ints)); quiet = refl }

-- the top of the second page is raised by a word
raised : (ws vs : List ℕ) (x : ℕ) → AreFresh (1024 * 2) ws → x ≡ encoded (Top 1026) → vs ≡ set ws 1024 x → AreQuiet 2 vs
raised ws vs x f e h =
    subst (λ (us : List ℕ). AreQuiet 2 us) (sym h)
    (subst (λ (y : ℕ). AreQuiet 2 (set ws 1024 y)) (sym e)
    (quiet_top 2 ws 1024 1026 (fresh_quiet 2 ws (omega arith) f) (omega arith) (omega arith) (omega arith)))

-- and a number is written there
written : (vs us : List ℕ) (x : ℕ) → AreQuiet 2 vs → x ≡ encoded (Small (pos 7)) → us ≡ set vs 1025 x → AreQuiet 2 us
written vs us x q e h =
    subst (λ (ts : List ℕ). AreQuiet 2 ts) (sym h)
    (quiet_word 2 vs 1025 x q (λ o. omega arith) (subst IsQuiet (sym e) small))

both_heap : (ws vs us : List ℕ) (x y : ℕ) → AreFresh (1024 * 2) ws → x ≡ encoded (Top 1026) → vs ≡ set ws 1024 x
    → y ≡ encoded (Small (pos 7)) → us ≡ set vs 1025 y → IsHeap us
both_heap ws vs us x y f e h d k = quiet_heap 2 us (written vs us y (raised ws vs x f e h) d k)

place : (ws vs us : List ℕ) (x y : ℕ) → AreFresh (1024 * 2) ws → x ≡ encoded (Top 1026) → vs ≡ set ws 1024 x → us ≡ set vs 1025 y
    → is_inside us 1025 ≡ true
place ws vs us x y f e h k =
    let size : length ws ≡ 1024 * 2 = f.size in
    let vs_size : length vs ≡ 1024 * 2 = subst (λ (ts : List ℕ). length ts ≡ 1024 * 2) (sym h) (length-set ws 1024 x ∙ size) in
    let us_size : length us ≡ 1024 * 2 = subst (λ (ts : List ℕ). length ts ≡ 1024 * 2) (sym k) (length-set vs 1025 y ∙ vs_size) in
    let top : top_at vs 1024 ≡ 1026 =
    subst (λ (ts : List ℕ). top_at ts 1024 ≡ 1026) (sym h)
    (subst (λ (z : ℕ). top_at (set ws 1024 z) 1024 ≡ 1026) (sym e) (new_top ws 1024 1026 (omega arith) (omega arith))) in
    let same : top_at us 1024 ≡ 1026 =
    subst (λ (ts : List ℕ). top_at ts 1024 ≡ 1026) (sym k) (same_top vs 1025 y 1024 (λ o. omega arith) ∙ top) in
    below_top us 1025 (omega arith) (subst (λ (n : ℕ). 1025 < n) (sym same) (omega arith))

pub store-requires-clause-heap : goal.store-requires-clause-heap
store-requires-clause-heap g c =
    quiet_heap 2 _ (raised c.in_ok-heap.heap.words.items _ c.encode-top.result c.in_ok-heap.ensures.words c.encode-top.ensures.value refl)

pub store-requires-2-clause-heap : goal.store-requires-2-clause-heap
store-requires-2-clause-heap g c =
    both_heap c.in_ok-heap.heap.words.items c.store.new.self.words.items _ c.encode-top.result c.encode-seven.result
    c.in_ok-heap.ensures.words c.encode-top.ensures.value c.store.ensures c.encode-seven.ensures.value refl

pub room-requires-2-clause-heap : goal.room-requires-2-clause-heap
room-requires-2-clause-heap g c =
    both_heap c.in_ok-heap.heap.words.items c.store.new.self.words.items _ c.encode-top.result c.encode-seven.result
    c.in_ok-heap.ensures.words c.encode-top.ensures.value c.store.ensures c.encode-seven.ensures.value c.store-2.ensures

pub room-requires-3-clause-heap : goal.room-requires-3-clause-heap
room-requires-3-clause-heap g c =
    both_heap c.in_ok-heap.heap.words.items c.store.new.self.words.items _ c.encode-top.result c.encode-seven.result
    c.in_ok-heap.ensures.words c.encode-top.ensures.value c.store.ensures c.encode-seven.ensures.value c.store-2.ensures

pub load-requires-clause-sound : goal.load-requires-clause-sound
load-requires-clause-sound g c =
    both_heap c.in_ok-heap.heap.words.items c.store.new.self.words.items _ c.encode-top.result c.encode-seven.result
    c.in_ok-heap.ensures.words c.encode-top.ensures.value c.store.ensures c.encode-seven.ensures.value c.store-2.ensures

pub load-requires-clause-known : goal.load-requires-clause-known
load-requires-clause-known g c =
    place c.in_ok-heap.heap.words.items c.store.new.self.words.items c.store-2.new.self.words.items c.encode-top.result
    c.encode-seven.result c.in_ok-heap.ensures.words c.encode-top.ensures.value c.store.ensures c.store-2.ensures
