-- What is laid is a plan for an entry's writes, and they may follow over the heap into which it was laid.
use Rattle.std.specs.Prelude.{◌≡◌, ℕ, ◌<◌, List, length}
use Rattle.heap_words.specs.Heaps.{IsHeap, inside_at}
use Rattle.heap_words.specs.Trails.{WordList, word_at}
use Rattle.word_states.specs.Words.{Words, HasAll}
use Rattle.word_states.specs.Planning.{commit_writes, IsPlanned, hang_writes, IsHangPlanned}
use Rattle.word_states.specs.Writing.{MayWrite}
use Rattle.page_layout.specs.declared.rooms.Room.{Room}
use Rattle.page_layout.specs.Laying.{moved_to, total, cuts, IsLaid, AreNamed, tops_of}
use Rattle.page_layout.specs.Hangs.{threes, entry_of}
use Rattle.page_layout.specs.Openings.{AreTops, FindsCommit, FindsHang}

-- What an entry finds among words that were kept, it finds among all words that have them.
pub record StaysFound (kept : WordList) (w : Words) : Type 0 where
  pub tops : (rooms : List Room) → AreTops rooms (word_at kept) → AreTops rooms w
  pub commit : (p : ℕ) (binds : WordList) (wakes : List ℕ) → FindsCommit p binds wakes (word_at kept) → FindsCommit p binds wakes w
  pub hang : (p : ℕ) (lists : WordList) → FindsHang p lists (word_at kept) → FindsHang p lists w

-- this is so of any words
abbrev pub KeptIsFound : Type 0
KeptIsFound = (kept : WordList) (w : Words) → HasAll kept w → StaysFound kept w

-- A commit whose pieces are laid, over words of which it is not asked that they are a heap: they may have been loaded at different moments.
abbrev pub ACommitIsPlanned : Type 0
ACommitIsPlanned = (ws : List ℕ) (rooms : List Room) (table sizes own : List ℕ) (n p : ℕ) (binds : WordList) (wakes : List ℕ)
    → IsLaid rooms table sizes → length own ≡ total sizes → FindsCommit p binds wakes (inside_at ws) → AreTops rooms (inside_at ws)
    → IsPlanned (moved_to table) n p binds (cuts sizes own) wakes (tops_of rooms) (inside_at ws)

-- and a hang whose waiting entries are laid
abbrev pub AHangIsPlanned : Type 0
AHangIsPlanned = (ws : List ℕ) (rooms : List Room) (table : List ℕ) (n p : ℕ) (lists : WordList)
    → IsLaid rooms table (threes (length lists)) → FindsHang p lists (inside_at ws) → AreTops rooms (inside_at ws) → p < 0x100000000
    → n < 0x100000000 → IsHangPlanned (entry_of table lists) n p lists (tops_of rooms) (inside_at ws)

-- over a heap the writes of the commit may follow
abbrev pub ACommitMayFollow : Type 0
ACommitMayFollow = (ws : List ℕ) (rooms : List Room) (table sizes own : List ℕ) (n p : ℕ) (binds : WordList) (wakes : List ℕ) → IsHeap ws
    → IsLaid rooms table sizes → length own ≡ total sizes → AreNamed (cuts sizes own) → FindsCommit p binds wakes (inside_at ws)
    → AreTops rooms (inside_at ws) → MayWrite ws (commit_writes (moved_to table) n p binds (cuts sizes own) wakes (tops_of rooms))

-- and those of the hang
abbrev pub AHangMayFollow : Type 0
AHangMayFollow = (ws : List ℕ) (rooms : List Room) (table : List ℕ) (n p : ℕ) (lists : WordList) → IsHeap ws
    → IsLaid rooms table (threes (length lists)) → FindsHang p lists (inside_at ws) → AreTops rooms (inside_at ws)
    → MayWrite ws (hang_writes (entry_of table lists) n p lists (tops_of rooms))
