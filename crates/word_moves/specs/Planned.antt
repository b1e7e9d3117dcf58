-- Moves that are planned: by what was read and decided, and where their words go.
use Rattle.std.specs.Prelude.{◌≡◌, ℕ, ◌+◌, ◌*◌, ◌/◌, ◌%◌, ◌<◌, pos, List, [], length}
use Rattle.fcp_model.specs.declared.run.Proc.{Proc}
use Rattle.fcp_model.specs.declared.run.Entry.TheVariants.{Commit, Hang, Fail}
use Rattle.fcp_model.specs.Places.{proc}
use Rattle.fcp_model.specs.Terms.{Bindings}
use Rattle.fcp_model.specs.Places.{Variable}
use Rattle.fcp_model.specs.Programs.{Goal, Program}
use Rattle.fcp_model.specs.Cells.{clause_used, commit_cells}
use Rattle.heap_words.specs.Heaps.{IsHeap, inside_at}
use Rattle.heap_words.specs.Trails.{WordList, word_at}
use Rattle.heap_words.specs.declared.cell.Cell.TheVariants.{Unbound, Small, Status}
use Rattle.heap_words.specs.declared.cell.Stand.TheVariants.{Ready}
use Rattle.word_states.specs.Words.{Words, At, Among, HasAll, addresses_of}
use Rattle.word_states.specs.Denoting.{Addresses}
use Rattle.word_states.specs.Layouts.{born_at}
use Rattle.word_states.specs.Planning.{commit_writes, hang_writes}
use Rattle.word_states.specs.Trials.{IsTried, AreReads, IsReadCommit, IsReadWait}
use Rattle.word_states.specs.Waking.{ReadWakes}
use Rattle.word_states.specs.Writing.{MayWrite}
use Rattle.word_states.specs.Going.{Move}
use Rattle.sound_entries.specs.Sound.{IsSound}
use Rattle.page_layout.specs.declared.rooms.Room.{Room}
use Rattle.page_layout.specs.Laying.{moved_to, total, cuts, IsLaid, tops_of}
use Rattle.page_layout.specs.Hangs.{threes, entry_of}
use Rattle.page_layout.specs.Openings.{AreTops}
use Rattle.page_layout.specs.Writing.{written}
use Rattle.word_moves.specs.declared.word_move.WordMove.{WordMove}

-- the process of whose name the word says this number
abbrev pub process_of : ℕ → Proc
process_of z = proc (z / 268435456) (z % 268435456)

-- The process at p was read: it is Ready, and its name's word says the number z.
pub record ReadsProcess (kept : WordList) (p z : ℕ) : Type 0 where
  pub status : At (word_at kept) p (Status Ready)
  pub name : At (word_at kept) (p + 1) (Small (pos z))

-- wherever words have what was read, a commit of the process by clause k has so many cells
abbrev pub CellsSay : Program → WordList → ℕ → ℕ → ℕ → Type 0
CellsSay m kept p k cells = (w : Words) (vs : Addresses) (bound : Bindings) (g : Goal Variable) → IsTried kept p w vs bound g
    → commit_cells (clause_used m g k) ≡ cells

-- A commit is planned: what was read, bound and made is sound, the woken are those that wait, and the pieces are laid.
pub record IsPlannedCommit (kept : WordList) (p z : ℕ) (binds : WordList) (sizes own wakes : List ℕ) (rooms : List Room)
    (table : List ℕ) : Type 0 where
  pub process : ReadsProcess kept p z
  pub read : IsReadCommit kept binds (cuts sizes own)
  pub woken : ReadWakes kept (addresses_of binds) wakes
  pub laid : IsLaid rooms table sizes
  pub size : length own ≡ total sizes
  pub tops : AreTops rooms (word_at kept)

-- the move is this commit
pub record IsCommitMove (v : Move) (kept : WordList) (p z k : ℕ) (binds : WordList) (sizes own wakes : List ℕ) (rooms : List Room)
    (table : List ℕ) : Type 0 where
  pub process : v.process ≡ p
  pub entry : v.entry ≡ Commit (process_of z) k
  pub reads : v.reads ≡ kept
  pub writes : (n : ℕ) → v.writes n ≡ commit_writes (moved_to table) n p binds (cuts sizes own) wakes (tops_of rooms)
  pub children : v.children ≡ born_at (moved_to table) (cuts sizes own)
  pub woken : v.woken ≡ wakes
  pub bound : v.bound ≡ addresses_of binds
  pub waits : v.waits ≡ []

-- A hang is planned: its places were read unbound, with the lists that begin where they say, and the waiting entries are laid.
pub record IsPlannedHang (kept : WordList) (p z : ℕ) (lists : WordList) (rooms : List Room) (table : List ℕ) : Type 0 where
  pub process : ReadsProcess kept p z
  pub small : p < 0x100000000
  pub read : IsReadWait kept (addresses_of lists)
  pub places : (a e : ℕ) → Among lists (a, e) → At (word_at kept) a (Unbound e)
  pub laid : IsLaid rooms table (threes (length lists))
  pub tops : AreTops rooms (word_at kept)

-- the move is this hang
pub record IsHangMove (v : Move) (kept : WordList) (p z : ℕ) (lists : WordList) (rooms : List Room) (table : List ℕ) : Type 0 where
  pub process : v.process ≡ p
  pub entry : v.entry ≡ Hang (process_of z)
  pub reads : v.reads ≡ kept
  pub writes : (n : ℕ) → v.writes n ≡ hang_writes (entry_of table lists) n p lists (tops_of rooms)
  pub cells : v.cells ≡ 3 * length lists
  pub children : v.children ≡ []
  pub woken : v.woken ≡ []
  pub bound : v.bound ≡ []
  pub waits : v.waits ≡ addresses_of lists

-- the move is the fail of the process
pub record IsFailMove (v : Move) (kept : WordList) (p z : ℕ) : Type 0 where
  pub process : v.process ≡ p
  pub entry : v.entry ≡ Fail (process_of z)
  pub reads : v.reads ≡ kept
  pub writes : (n : ℕ) → v.writes n ≡ []
  pub cells : v.cells ≡ 0
  pub children : v.children ≡ []
  pub woken : v.woken ≡ []
  pub bound : v.bound ≡ []
  pub waits : v.waits ≡ []

-- Whatever the program is, what the move writes may follow over every heap that has what it read, and is sound by that.
pub record IsSafeMove (v : Move) : Type 0 where
  pub reads : AreReads v.reads
  pub may : (n : ℕ) (ws : List ℕ) → n < 0x8000001 → IsHeap ws → HasAll v.reads (inside_at ws) → MayWrite ws (v.writes n)
  pub sound : (n : ℕ) → n < 0x8000001 → IsSound v.reads (v.writes n)

-- A move as it is carried out: what it makes, wakes, binds and waits for is known beside it.
pub record IsCarried (e : WordMove) (v : Move) : Type 0 where
  pub process : v.process ≡ e.address
  pub entry : v.entry ≡ e.entry
  pub reads : v.reads ≡ e.reads.items
  pub writes : (n : ℕ) → v.writes n ≡ written n e.writes.items
  pub cells : v.cells ≡ e.cells
