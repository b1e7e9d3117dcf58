-- Where pieces go: free words of pages, and a table with the address of each word of the pieces.
use Rattle.std.specs.Prelude.{◌≡◌, ℕ, zero, suc, ◌+◌, ◌-◌, ◌*◌, ◌<◌, ◌≤◌, List, [], ◌∷◌, length, take, drop, true}
use Rattle.std.specs.Prelude.{if◌then◌else◌, nat_lt, slice_get, unwrap_or, Some}
use Rattle.heap_words.specs.Cells.{encoded}
use Rattle.heap_words.specs.Trails.{WordList}
use Rattle.heap_words.specs.declared.cell.Cell.TheVariants.{Top}
use Rattle.word_states.specs.Pieces.{is_process}
use Rattle.page_layout.specs.declared.rooms.Room.{Room}

-- addresses one after another
abbrev pub run : ℕ → ℕ → List ℕ
run a zero = []
run a (suc n) = a ∷ run (suc a) n

-- where a word goes: word i of the pieces, from 0, to the address at position i of the table
abbrev pub moved_to : List ℕ → ℕ → ℕ
moved_to table a = if nat_lt a 4000000000 then a else unwrap_or (slice_get table (a - 4000000000)) a

-- the pieces of these sizes, one after another in a list of words
abbrev pub cuts : List ℕ → List ℕ → List (List ℕ)
cuts [] ws = []
cuts (n ∷ ns) ws = take n ws ∷ cuts ns (drop n ws)

-- how many words pieces of these sizes have
abbrev pub total : List ℕ → ℕ
total [] = 0
total (n ∷ ns) = n + total ns

-- pieces of these sizes stay whole, where the first one begins at the address
abbrev pub StayWhole : (ℕ → ℕ) → ℕ → List ℕ → Type 0
StayWhole f a [] = Unit {0}
StayWhole f a (n ∷ ns) = ((d : ℕ) → d < n → f (a + d) ≡ f a + d) × StayWhole f (a + n) ns

-- the words of a page that were free are those from `old` on, and those below `top` are taken
pub record IsRoom (r : Room) : Type 0 where
  pub above : 1024 * r.page < r.old
  pub rises : r.old ≤ r.top
  pub within : r.top ≤ 1024 * r.page + 1024
  pub small : r.page < 3906250

-- the free words of pages, each page once
pub record AreRooms (rooms : List Room) : Type 0 where
  pub each : (k : ℕ) (r : Room) → slice_get rooms k ≡ Some r → IsRoom r
  pub once : (j k : ℕ) (r q : Room) → slice_get rooms j ≡ Some r → slice_get rooms k ≡ Some q → r.page ≡ q.page → j ≡ k

-- Pieces of these sizes are laid.
pub record IsLaid (rooms : List Room) (table sizes : List ℕ) : Type 0 where
  pub pages : AreRooms rooms
  -- each word has an address, and each piece is whole
  pub size : length table ≡ total sizes
  pub whole : StayWhole (moved_to table) 4000000000 sizes
  -- the addresses are exactly the taken words of the rooms, each once
  pub apart : (i j t : ℕ) → slice_get table i ≡ Some t → slice_get table j ≡ Some t → i ≡ j
  pub taken : (i t : ℕ) → slice_get table i ≡ Some t → (k : ℕ) × (r : Room) × (slice_get rooms k ≡ Some r) × (r.old ≤ t) × (t < r.top)
  pub full : (k t : ℕ) (r : Room) → slice_get rooms k ≡ Some r → r.old ≤ t → t < r.top → (i : ℕ) × (slice_get table i ≡ Some t)

-- the tops that rise
abbrev pub tops_of : List Room → WordList
tops_of [] = []
tops_of (r ∷ rs) = if nat_lt r.old r.top then (1024 * r.page, encoded (Top r.top)) ∷ tops_of rs else tops_of rs

-- each process among pieces has a second word, for its name
abbrev pub AreNamed : List (List ℕ) → Type 0
AreNamed [] = Unit {0}
AreNamed (p ∷ ps) = (is_process p ≡ true → 2 ≤ length p) × AreNamed ps
