-- Pages that were looked at, and the room that they have.
use Rattle.std.specs.Prelude.{◌≡◌, ◌⊎◌, ℕ, ◌+◌, ◌*◌, ◌<◌, ◌≤◌, List, [], ◌∷◌, slice_get, Option, Some, take, nat_eq, if◌then◌else◌}
use Rattle.heap_words.specs.Cells.{decoded}
use Rattle.heap_words.specs.Trails.{WordList, word_at}
use Rattle.heap_words.specs.declared.cell.Cell.{Cell}
use Rattle.heap_words.specs.declared.cell.Cell.TheVariants.{Top}
use Rattle.word_states.specs.Words.{Words}
use Rattle.suspension_lists.specs.Waking.{Within}
use Rattle.page_layout.specs.declared.rooms.Room.{Room}
use Rattle.page_layout.specs.Laying.{IsRoom, IsLaid}
use Rattle.page_layout.specs.Openings.{AreTops}
use Rattle.page_layout.specs.FirstFit.{next_free, GoFirst}

-- what the first word of a page says where it is that page's top
abbrev pub IsTopOf : ℕ → Option Cell → Type 0
IsTopOf p (Some (Top t)) = (1024 * p < t) × (t ≤ 1024 * p + 1024)
IsTopOf p _ = ⊥

-- a page was looked at: it is one of the rooms', or its first word, which was kept, is no top of it
abbrev pub WasLooked : WordList → List Room → ℕ → Type 0
WasLooked kept rooms p = ((k : ℕ) × (r : Room) × (slice_get rooms k ≡ Some r) × (r.page ≡ p))
    ⊎ ((x : ℕ) × (word_at kept (1024 * p) ≡ Some x) × (IsTopOf p (decoded x) → ⊥))

-- rooms stand in ascending order of their pages
abbrev pub Rise : List Room → Type 0
Rise rooms = (j k : ℕ) (r q : Room) → j < k → slice_get rooms j ≡ Some r → slice_get rooms k ≡ Some q → r.page < q.page

-- Rooms of pages from `from` on and before `end`, in ascending order, whose tops were kept.
pub record AreOpened (kept : WordList) (rooms : List Room) (from end : ℕ) : Type 0 where
  pub each : (k : ℕ) (r : Room) → slice_get rooms k ≡ Some r → IsRoom r
  pub range : (k : ℕ) (r : Room) → slice_get rooms k ≡ Some r → (from ≤ r.page) × (r.page < end)
  pub rise : Rise rooms
  pub tops : AreTops rooms (word_at kept)

-- a room has less than so many free words
abbrev pub Lacks : Room → ℕ → Type 0
Lacks r need = 1024 * r.page + 1024 < r.top + need

-- and so do all of them
abbrev pub AllLack : List Room → ℕ → Type 0
AllLack rooms need = (k : ℕ) (r : Room) → slice_get rooms k ≡ Some r → Lacks r need

-- No page from `from` on and before `pages` has so many free words, after what was laid.
pub record AreFull (kept : WordList) (rooms : List Room) (from pages need : ℕ) : Type 0 where
  pub looked : (p : ℕ) → from ≤ p → p < pages → WasLooked kept rooms p
  pub lack : AllLack rooms need

-- The first pieces are laid, each in the first page with room, and the next one finds none.
pub record StopsFull (kept : WordList) (rooms : List Room) (table : List ℕ) (from pages : ℕ) (sizes : List ℕ) : Type 0 where
  pub count : ℕ
  pub need : ℕ
  pub next : slice_get sizes count ≡ Some need
  pub laid : IsLaid rooms table (take count sizes)
  pub first : GoFirst kept from pages (take count sizes) table
  pub full : AreFull kept rooms from pages need

-- the first of the rooms that has so many free words is the k-th
abbrev pub FirstWith : List Room → ℕ → ℕ → Type 0
FirstWith rooms need k = (r : Room) × (slice_get rooms k ≡ Some r) × (r.top + need ≤ 1024 * r.page + 1024)
    × ((j : ℕ) (q : Room) → j < k → slice_get rooms j ≡ Some q → Lacks q need)

-- the next free address of each page: that of its room, and where it has none, as the words say it
abbrev pub free_in : Words → List Room → ℕ → ℕ
free_in w [] p = next_free w p
free_in w (r ∷ rs) p = if nat_eq r.page p then r.top else free_in w rs p

-- More pages were looked at, from `next` on and before `end`.
pub record Looked (kept : WordList) (rooms : List Room) (next : ℕ) (kept' : WordList) (rooms' : List Room) (end : ℕ) : Type 0 where
  pub further : next ≤ end
  pub opened : (from : ℕ) → from ≤ next → AreOpened kept rooms from next → AreOpened kept' rooms' from end
  pub pages : (from : ℕ) → ((p : ℕ) → from ≤ p → p < next → WasLooked kept rooms p)
      → (p : ℕ) → from ≤ p → p < end → WasLooked kept' rooms' p
  pub each : (k : ℕ) (r : Room) → slice_get rooms' k ≡ Some r → IsRoom r
  pub below : (k : ℕ) (r : Room) → slice_get rooms' k ≡ Some r → r.page < end
  -- what was laid is still laid, and no word came into use
  pub laid : (table sizes : List ℕ) → IsLaid rooms table sizes → IsLaid rooms' table sizes
  pub free : (w : Words) → Within (word_at kept') w → (p : ℕ) → free_in w rooms' p ≡ free_in w rooms p
