-- What makes the writes of a commit and of a hang sound.
use Rattle.std.specs.Prelude.{◌≡◌, ℕ, ◌≤◌, List, length, Some}
use Rattle.heap_words.specs.Heaps.{inside_at}
use Rattle.heap_words.specs.Trails.{WordList, word_at}
use Rattle.word_states.specs.Words.{Among, HasAll, IsIn}
use Rattle.word_states.specs.Led.{AreLed, ReadsStatus, ReadsPlace}
use Rattle.word_states.specs.Tame.{IsTame}
use Rattle.word_states.specs.Planning.{commit_writes, IsPlanned, hang_writes, IsHangPlanned}
use Rattle.word_states.specs.Writing.{MayWrite}

-- the writes of a commit, by what was read
pub record IsCommitWrites (reads : WordList) (f : ℕ → ℕ) (n p : ℕ) (binds : WordList) (ps : List (List ℕ)) (wakes : List ℕ)
    (tops : WordList) : Type 0 where
  -- the bindings and the pieces lead on, and close no cycle
  pub led : AreLed reads binds ps
  pub tame : IsTame reads binds ps
  -- each bound place was read as unbound, and the statuses that change were read
  pub opened : (a x : ℕ) → word_at binds a ≡ Some x → (e : ℕ) × ReadsPlace reads a e
  pub parent : ReadsStatus reads p
  pub sleepers : (q : ℕ) → IsIn q wakes → ReadsStatus reads q
  -- the pieces go by a plan to free addresses
  pub plan : (ws : List ℕ) → length ws ≤ 4000000000 → HasAll reads (inside_at ws) → MayWrite ws (commit_writes f n p binds ps wakes tops)
      → IsPlanned f n p binds ps wakes tops (inside_at ws)

-- the writes of a hang, by what was read
pub record IsHangWrites (reads : WordList) (entry : ℕ → ℕ) (n p : ℕ) (lists tops : WordList) : Type 0 where
  -- the status that changes was read, and so were the places with their lists
  pub parent : ReadsStatus reads p
  pub places : (a e : ℕ) → Among lists (a, e) → ReadsPlace reads a e
  -- the waiting entries go by a plan to free addresses
  pub plan : (ws : List ℕ) → length ws ≤ 4000000000 → HasAll reads (inside_at ws) → MayWrite ws (hang_writes entry n p lists tops)
      → IsHangPlanned entry n p lists tops (inside_at ws)
