-- Writes that are sound.
use Rattle.std.specs.Prelude.{ℕ, ◌≤◌, List, length, ◌++◌}
use Rattle.heap_words.specs.Heaps.{IsHeap, inside_at}
use Rattle.heap_words.specs.Trails.{WordList}
use Rattle.word_states.specs.Words.{Among, HasAll}
use Rattle.word_states.specs.Writing.{applied, MayWrite}
use Rattle.sound_entries.specs.Closed.{AreClosed}

-- Writes are sound by what was read.
pub record IsSound (reads xs : WordList) : Type 0 where
  -- over a heap that has what was read they leave a heap
  pub heap : (ws : List ℕ) → IsHeap ws → HasAll reads (inside_at ws) → MayWrite ws xs → IsHeap (applied ws xs)
  -- over any words that have it, those that stand or stood refer to addresses in use alone, as they did before
  pub closed : (ever : WordList) (ws : List ℕ) → length ws ≤ 4000000000 → AreClosed (λ a x. Among ever (a, x)) (inside_at ws)
      → HasAll reads (inside_at ws) → MayWrite ws xs → AreClosed (λ a x. Among (ever ++ xs) (a, x)) (inside_at (applied ws xs))
