-- What a plain hall's words are after an entry.
use Rattle.std.proofs.Common.{◌≡◌, ℕ, zero, suc, ◌+◌, ◌*◌, ◌/◌, ◌<◌, Bool, List, [], ◌∷◌, length, Some}
use Rattle.std.proofs.Common.{ap, arith, inl, inr, ⊎_elim}
use Rattle.std.specs.Prelude.{true, slice_index_or}
use Rattle.heap_words.specs.Cells.{is_final_word}
use Rattle.heap_words.specs.Heaps.{IsHeap, inside_at, final_at}
use Rattle.word_states.specs.Words.{Among, HasAll}
use Rattle.word_states.specs.Writing.{applied, MayWrite}
use Rattle.sound_entries.proofs.Ranking.{final_parts}
use Rattle.page_layout.specs.declared.written.Written.{Written}
use Rattle.page_layout.specs.Writing.{written}
use Rattle.word_moves.specs.declared.word_move.WordMove.{WordMove}
use Rattle.commit_engine.specs.Halls.{MayStamp, writes_of}

-- a write is one of all
pub among_writes : (n i : ℕ) (xs : List Written) (w : Written) → i < length xs → slice_index_or xs i w ≡ w
    → Among (written n xs) (w.addr, w.word + w.step * n)
among_writes n i [] w lt e = absurd (omega arith)
among_writes n zero (x ∷ xs) w lt e = inl (ap (λ (v : Written). (v.addr, v.word + v.step * n)) e)
among_writes n (suc i) (x ∷ xs) w lt e = inr (among_writes n i xs w (omega arith) e)

-- an entry that may be stamped over the words of a heap: they have what it read, its writes may follow, and leave a heap
module _ (holds : ℕ → Bool) (primed : ℕ → ℕ → Type 0) (ws : List ℕ) (e : WordMove)
    (stamp : MayStamp (length ws / 1024) holds (λ a x. inside_at ws a ≡ Some x) primed (final_at ws) e) where
  pub stamp_reads : HasAll e.reads.items (inside_at ws)
  stamp_reads a x h =
      ⊎_elim (λ (k : inside_at ws a ≡ Some x). k) (λ (k : (is_final_word x ≡ true) × (final_at ws a ≡ Some x)).
      (final_parts (inside_at ws a) x k.1).0) (stamp.reads a x h)

  pub stamp_may : (n : ℕ) → IsHeap ws → n < 0x8000001 → MayWrite ws (writes_of e n)
  stamp_may n heap small =
      stamp.writes n ws small heap (let w = heap.whole in omega arith) (λ a x h. h) (λ a x h. (final_parts (inside_at ws a) x h).0)

  pub stamp_heap : (n : ℕ) → IsHeap ws → n < 0x8000001 → IsHeap (applied ws (writes_of e n))
  stamp_heap n heap small = (stamp.sound n small).heap ws heap stamp_reads (stamp_may n heap small)
