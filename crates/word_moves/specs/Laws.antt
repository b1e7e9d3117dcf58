-- The laws: a move that is planned is legal, and sound.
use Rattle.std.specs.Prelude.{ℕ, List}
use Rattle.fcp_model.specs.Programs.{Program}
use Rattle.heap_words.specs.Trails.{WordList}
use Rattle.word_states.specs.Words.{addresses_of}
use Rattle.word_states.specs.Trials.{AreReads, TriedCommit, TriedWait, TriedFail}
use Rattle.word_states.specs.Going.{Move, Fits}
use Rattle.page_layout.specs.declared.rooms.Room.{Room}
use Rattle.page_layout.specs.Laying.{cuts}
use Rattle.word_moves.specs.Planned.{ReadsProcess, CellsSay, IsPlannedCommit, IsCommitMove}
use Rattle.word_moves.specs.Planned.{IsPlannedHang, IsHangMove, IsFailMove, IsSafeMove}

-- a commit fits each program for which it is decided
abbrev pub ACommitFits : Type 0
ACommitFits = (v : Move) (kept : WordList) (p z k : ℕ) (binds : WordList) (sizes own wakes : List ℕ) (rooms : List Room) (table : List ℕ)
    → IsPlannedCommit kept p z binds sizes own wakes rooms table → IsCommitMove v kept p z k binds sizes own wakes rooms table
    → (m : Program) → TriedCommit m kept p k binds (cuts sizes own) → CellsSay m kept p k v.cells → Fits m v

-- so does a hang
abbrev pub AHangFits : Type 0
AHangFits = (v : Move) (kept : WordList) (p z : ℕ) (lists : WordList) (rooms : List Room) (table : List ℕ)
    → IsPlannedHang kept p z lists rooms table → IsHangMove v kept p z lists rooms table
    → (m : Program) → TriedWait m kept p (addresses_of lists) → Fits m v

-- and a fail
abbrev pub AFailFits : Type 0
AFailFits = (v : Move) (kept : WordList) (p z : ℕ) → ReadsProcess kept p z → IsFailMove v kept p z
    → (m : Program) → TriedFail m kept p → Fits m v

-- and each is sound
abbrev pub ACommitIsSafe : Type 0
ACommitIsSafe = (v : Move) (kept : WordList) (p z k : ℕ) (binds : WordList) (sizes own wakes : List ℕ) (rooms : List Room) (table : List ℕ)
    → IsPlannedCommit kept p z binds sizes own wakes rooms table → IsCommitMove v kept p z k binds sizes own wakes rooms table
    → IsSafeMove v

abbrev pub AHangIsSafe : Type 0
AHangIsSafe = (v : Move) (kept : WordList) (p z : ℕ) (lists : WordList) (rooms : List Room) (table : List ℕ)
    → IsPlannedHang kept p z lists rooms table → IsHangMove v kept p z lists rooms table → IsSafeMove v

abbrev pub AFailIsSafe : Type 0
AFailIsSafe = (v : Move) (kept : WordList) (p z : ℕ) → AreReads kept → IsFailMove v kept p z → IsSafeMove v
