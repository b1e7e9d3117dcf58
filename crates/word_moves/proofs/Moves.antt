-- The moves of a commit, of a hang and of a fail, and that a move with their parts is one of them.
use Rattle.std.proofs.Common.{◌≡◌, ℕ, ◌*◌, List, [], length, refl}
use Rattle.fcp_model.specs.declared.run.Entry.TheVariants.{Commit, Hang, Fail}
use Rattle.heap_words.specs.Trails.{WordList}
use Rattle.word_states.specs.Words.{addresses_of}
use Rattle.word_states.specs.Layouts.{born_at}
use Rattle.word_states.specs.Planning.{commit_writes, hang_writes}
use Rattle.word_states.specs.Going.{Move}
use Rattle.page_layout.specs.declared.rooms.Room.{Room}
use Rattle.page_layout.specs.Laying.{moved_to, cuts, tops_of}
use Rattle.page_layout.specs.Hangs.{entry_of}
use Rattle.word_moves.specs.Planned.{process_of, IsCommitMove, IsHangMove, IsFailMove}

-- moves with the same parts are one
one_move : (v u : Move) → v.process ≡ u.process → v.entry ≡ u.entry → v.reads ≡ u.reads → ((n : ℕ) → v.writes n ≡ u.writes n)
    → v.cells ≡ u.cells → v.children ≡ u.children → v.woken ≡ u.woken → v.bound ≡ u.bound → v.waits ≡ u.waits → v ≡ u
one_move v u process entry reads writes cells children woken bound waits = λ i. record {
  process = process i;
  entry = entry i;
  reads = reads i;
  writes = λ n. writes n i;
  cells = cells i;
  children = children i;
  woken = woken i;
  bound = bound i;
  waits = waits i;
}

abbrev pub the_commit : WordList → ℕ → ℕ → ℕ → WordList → List ℕ → List ℕ → List ℕ → List Room → List ℕ → ℕ → Move
the_commit kept p z k binds sizes own wakes rooms table cells = record {
  process = p;
  entry = Commit (process_of z) k;
  reads = kept;
  writes = λ n. commit_writes (moved_to table) n p binds (cuts sizes own) wakes (tops_of rooms);
  cells = cells;
  children = born_at (moved_to table) (cuts sizes own);
  woken = wakes;
  bound = addresses_of binds;
  waits = [];
}

pub is_commit : {v : Move} {kept : WordList} {p z k : ℕ} {binds : WordList} {sizes own wakes : List ℕ} {rooms : List Room}
    {table : List ℕ} → IsCommitMove v kept p z k binds sizes own wakes rooms table
    → v ≡ the_commit kept p z k binds sizes own wakes rooms table v.cells
is_commit h = one_move _ _ h.process h.entry h.reads h.writes refl h.children h.woken h.bound h.waits

abbrev pub the_hang : WordList → ℕ → ℕ → WordList → List Room → List ℕ → Move
the_hang kept p z lists rooms table = record {
  process = p;
  entry = Hang (process_of z);
  reads = kept;
  writes = λ n. hang_writes (entry_of table lists) n p lists (tops_of rooms);
  cells = 3 * length lists;
  children = [];
  woken = [];
  bound = [];
  waits = addresses_of lists;
}

pub is_hang : {v : Move} {kept : WordList} {p z : ℕ} {lists : WordList} {rooms : List Room} {table : List ℕ}
    → IsHangMove v kept p z lists rooms table → v ≡ the_hang kept p z lists rooms table
is_hang h = one_move _ _ h.process h.entry h.reads h.writes h.cells h.children h.woken h.bound h.waits

abbrev pub the_fail : WordList → ℕ → ℕ → Move
the_fail kept p z = record {
  process = p;
  entry = Fail (process_of z);
  reads = kept;
  writes = λ n. [];
  cells = 0;
  children = [];
  woken = [];
  bound = [];
  waits = [];
}

pub is_fail : {v : Move} {kept : WordList} {p z : ℕ} → IsFailMove v kept p z → v ≡ the_fail kept p z
is_fail h = one_move _ _ h.process h.entry h.reads h.writes h.cells h.children h.woken h.bound h.waits
