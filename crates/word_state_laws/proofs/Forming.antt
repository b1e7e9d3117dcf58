-- Over a heap that has what a trial read, the bindings and the pieces of its commit are well formed.
use Rattle.std.proofs.Common.{◌≡◌, ℕ, ◌<◌, true, List, sym, ◌∙◌, ⊎_elim, inl, inr, arith, Some, None}
use Rattle.heap_words.specs.Cells.{decoded}
use Rattle.heap_words.specs.Heaps.{IsHeap, is_inside, inside_at}
use Rattle.heap_words.specs.HeapLaws.{inside_below, inside_known}
use Rattle.heap_words.specs.Trails.{WordList}
use Rattle.heap_words.specs.declared.cell.Cell.{Cell}
use Rattle.word_states.specs.Words.{HasAll}
use Rattle.word_states.specs.Pieces.{RefersOwn}
use Rattle.word_states.specs.Led.{IsKnown, read_at, reached, reached_by, of_process, IsLed, was_read, of_known, LeadsOn, AreLed}
use Rattle.word_states.specs.Formed.{IsOld, IsRooted, AreFormed}

module _ (ws : List ℕ) (heap : IsHeap ws) where
  inside_low : (a : ℕ) → is_inside ws a ≡ true → a < 4000000000
  inside_low a h = let l = inside_below ws a h in let small = heap.small in omega arith

  -- words in use are the store's, and refer to the store's alone
  pub heap_low : (a x : ℕ) → inside_at ws a ≡ Some x → a < 4000000000
  heap_low a x e = inside_low a (inside_known ws a x e)

  pub heap_old : (a x : ℕ) → inside_at ws a ≡ Some x → IsOld (inside_at ws) x
  heap_old a x e = record {
    refers = λ b c d r. inside_low b ((heap.inside a x e).refers b c d r);
    refers_by = λ t y n b c d i j k r. inside_low b ((heap.inside a x e).refers_by t y n b c d i j k r);
  }

  module _ (reads : WordList) (has : HasAll reads (inside_at ws)) where
    known_low : (b : ℕ) → IsKnown reads b → b < 4000000000
    known_low b (read_at x h) = heap_low b x (has b x h)
    known_low b (reached a x c h d r) = (heap_old a x (has a x h)).refers b c d r
    known_low b (reached_by a x t y n c h d i k e r) = (heap_old a x (has a x h)).refers_by t y n b c d i (has t y k) e r
    known_low b (of_process p x d h e l k) = inside_low b (heap.process p x b d (has p x h) e l k)

    led_old : (x : ℕ) → IsLed reads x → IsOld (inside_at ws) x
    led_old x (was_read a h) = heap_old a x (has a x h)
    led_old x (of_known f) = record {
      refers = λ b c d r. known_low b ((f c d).2 b r);
      refers_by = λ t y n b c d i j k r. let bad : None ≡ Some t = sym (f c d).0 ∙ i in cc;
    }

    leads_rooted : (ps : List (List ℕ)) (x : ℕ) → LeadsOn reads ps x → IsRooted (inside_at ws) ps x
    leads_rooted ps x h = ⊎_elim (λ (k : IsLed reads x). inl (led_old x k))
        (λ (k : (c : Cell) × (decoded x ≡ Some c) × RefersOwn ps c). inr k) h

    pub led_formed : (binds : WordList) (ps : List (List ℕ)) → AreLed reads binds ps → AreFormed (inside_at ws) binds ps
    led_formed binds ps led = record {
      each = led.each;
      rooted = λ a x e fin. leads_rooted ps x (led.own a x e fin);
      bound_rooted = λ a x e. leads_rooted ps x (led.bound a x e);
    }
