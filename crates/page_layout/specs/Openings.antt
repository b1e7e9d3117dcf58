-- What an entry finds among the words over which it is laid.
use Rattle.std.specs.Prelude.{◌≡◌, ℕ, ◌+◌, ◌*◌, ◌<◌, ◌≤◌, List, slice_get, Some, None}
use Rattle.heap_words.specs.Trails.{WordList}
use Rattle.heap_words.specs.declared.cell.Cell.TheVariants.{Unbound, Status, Top}
use Rattle.heap_words.specs.declared.cell.Stand.TheVariants.{Ready, Waiting}
use Rattle.word_states.specs.Words.{Words, At, Among, AreApart, IsIn, AreDistinct}
use Rattle.page_layout.specs.declared.rooms.Room.{Room}

-- the tops of the rooms are as they were loaded
abbrev pub AreTops : List Room → Words → Type 0
AreTops rooms w = (k : ℕ) (r : Room) → slice_get rooms k ≡ Some r → At w (1024 * r.page) (Top r.old)

-- and the words from them to the ends of the pages are free
abbrev pub AreFree : List Room → Words → Type 0
AreFree rooms w = (k a : ℕ) (r : Room) → slice_get rooms k ≡ Some r → r.old ≤ a → a < 1024 * r.page + 1024 → w a ≡ None

-- A commit finds its process ready, what it binds unbound, and what it wakes waiting, each once.
pub record FindsCommit (p : ℕ) (binds : WordList) (wakes : List ℕ) (w : Words) : Type 0 where
  pub process : At w p (Status Ready)
  pub bound : (a x : ℕ) → Among binds (a, x) → (e : ℕ) × At w a (Unbound e)
  pub woken : (q : ℕ) → IsIn q wakes → (n : ℕ) × At w q (Status (Waiting n))
  pub binds_once : AreApart binds
  pub wakes_once : AreDistinct wakes

-- A hang finds its process ready, and each of its places, once and unbound, with the list that begins where it says.
pub record FindsHang (p : ℕ) (lists : WordList) (w : Words) : Type 0 where
  pub process : At w p (Status Ready)
  pub places : (a e : ℕ) → Among lists (a, e) → At w a (Unbound e)
  pub once : AreApart lists
