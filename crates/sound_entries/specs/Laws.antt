-- The laws: the writes of a commit and of a hang are sound.
use Rattle.std.specs.Prelude.{ℕ, List}
use Rattle.heap_words.specs.Trails.{WordList}
use Rattle.word_states.specs.Planning.{commit_writes, hang_writes}
use Rattle.sound_entries.specs.Sound.{IsSound}
use Rattle.sound_entries.specs.EntryWrites.{IsCommitWrites, IsHangWrites}

-- those of a commit
abbrev pub ACommitIsSound : Type 0
ACommitIsSound = (reads : WordList) (f : ℕ → ℕ) (n p : ℕ) (binds : WordList) (ps : List (List ℕ)) (wakes : List ℕ) (tops : WordList)
    → IsCommitWrites reads f n p binds ps wakes tops → IsSound reads (commit_writes f n p binds ps wakes tops)

-- and those of a hang
abbrev pub AHangIsSound : Type 0
AHangIsSound = (reads : WordList) (entry : ℕ → ℕ) (n p : ℕ) (lists tops : WordList) → IsHangWrites reads entry n p lists tops
    → IsSound reads (hang_writes entry n p lists tops)
