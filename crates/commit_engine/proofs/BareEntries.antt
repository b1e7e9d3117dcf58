-- An entry that reads and writes no words may be stamped.
use Rattle.std.proofs.Common.{◌≡◌, ℕ, Bool, List, [], Option, sym, ap, ◌∙◌, subst, inl, arith}
use Rattle.std.proofs.lemmas.List.{append-nil}
use Rattle.fcp_model.specs.declared.run.Entry.{Entry}
use Rattle.heap_words.specs.Heaps.{IsHeap, inside_at}
use Rattle.heap_words.specs.Trails.{WordList}
use Rattle.word_states.specs.Words.{Among}
use Rattle.word_states.specs.Writing.{applied, MayWrite}
use Rattle.sound_entries.specs.Closed.{AreClosed}
use Rattle.sound_entries.specs.Sound.{IsSound}
use Rattle.page_layout.specs.Writing.{written}
use Rattle.word_moves.specs.declared.word_move.WordMove.{WordMove}
use Rattle.commit_engine.specs.declared.plain_hall.PlainHall.{PlainHall}
use Rattle.commit_engine.specs.Bare.{IsBare}
use Rattle.commit_engine.specs.Halls.{MayStamp, writes_of}
use Rattle.commit_engine.specs.PlainHalls.{IsAdded}

-- no writes may follow, and they are sound
none_may : (ws : List ℕ) → IsHeap ws → MayWrite ws []
none_may ws heap = record {
  distinct = tt;
  ranges = λ a x h. absurd h;
  soft = λ a x y h e. absurd h;
  below = λ a x h. absurd h;
  rises = λ p. omega arith;
  within = heap.within;
  fills = λ a h. inl h;
}

none_sound : IsSound [] []
none_sound = record {
  heap = λ ws heap has may. heap;
  closed = λ ever ws size closed has may.
      subst (λ (xs : WordList). AreClosed (λ a x. Among xs (a, x)) (inside_at ws)) (sym (append-nil ever)) closed;
}

pub may_stamp_bare : (pages : ℕ) (holds : ℕ → Bool) (stands primed : ℕ → ℕ → Type 0) (shown : ℕ → Option ℕ) (e : WordMove)
    → e.reads.items ≡ [] → e.writes.items ≡ [] → MayStamp pages holds stands primed shown e
may_stamp_bare pages holds stands primed shown e reads writes =
    let nothing : (n : ℕ) → writes_of e n ≡ [] = λ n. ap (written n) writes in
    record {
      reads = λ a x h. absurd (subst (λ (xs : WordList). Among xs (a, x)) reads h);
      held_reads = λ a x h soft. absurd (subst (λ (xs : WordList). Among xs (a, x)) reads h);
      held_writes = λ n a x h. absurd (subst (λ (xs : WordList). Among xs (a, x)) (nothing n) h);
      sound = λ n few. subst (λ (xs : WordList). IsSound xs (writes_of e n)) (sym reads)
          (subst (λ (xs : WordList). IsSound [] xs) (sym (nothing n)) none_sound);
      writes = λ n ws few heap size st sh. subst (MayWrite ws) (sym (nothing n)) (none_may ws heap);
      primed_new = λ n a x h. absurd (subst (λ (xs : WordList). Among xs (a, x)) (nothing n) h);
    }

-- and leaves the words of a plain hall as they are
pub bare_words : (g h : PlainHall) (e : WordMove) (n : ℕ) (entry : Entry) (address : ℕ) → IsAdded g h e n → IsBare e entry address
    → h.words.items ≡ g.words.items
bare_words g h e n entry address added bare =
    added.words ∙ ap (λ (ws : WordList). applied g.words.items ws) (ap (written n) bare.writes)
