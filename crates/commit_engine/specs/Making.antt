-- An entry that is made: what is known of it, and what its making says.
use Rattle.std.specs.Prelude.{◌≡◌, ◌⊎◌, ℕ, ◌-◌, ◌*◌, ◌/◌, ◌<◌, ◌≤◌, Bool, true, false, nat_le, List, Option, Some, None}
use Rattle.heap_words.specs.Cells.{decoded, is_final_word}
use Rattle.heap_words.specs.Heaps.{IsHeap, inside_at}
use Rattle.heap_words.specs.Trails.{WordList}
use Rattle.heap_words.specs.declared.cell.Cell.{Cell}
use Rattle.heap_words.specs.declared.cell.Cell.TheVariants.{Top}
use Rattle.word_states.specs.Words.{Among, HasAll, IsIn}
use Rattle.word_states.specs.Writing.{MayWrite}
use Rattle.sound_entries.specs.Sound.{IsSound}
use Rattle.word_commit.specs.declared.quota.Quota.{Quota}
use Rattle.word_moves.specs.declared.word_move.WordMove.{WordMove}
use Rattle.commit_engine.specs.declared.change.Change.{Change}
use Rattle.commit_engine.specs.declared.making.Making.{Making}
use Rattle.commit_engine.specs.declared.making.Making.TheVariants as making
use Rattle.commit_engine.specs.Halls.{writes_of, IsSpent}
use Rattle.commit_engine.specs.Holding.{IsQuiet, IsOpen, IsNew, ArePlaced, pages_of}
use Rattle.commit_engine.specs.Takes.{TookEach, FoundBusy}

-- the cell is a page's top that the address is not below
abbrev pub is_above_top : Option Cell → ℕ → Bool
is_above_top (Some (Top t)) a = nat_le t a
is_above_top _ a = false

-- A place that is written was put among the new ones, where it is new.
pub record PutsPlace (reads : WordList) (a : ℕ) (before after : List ℕ) : Type 0 where
  pub here : IsOpen reads a ⊎ IsIn a after
  pub still : (b : ℕ) → IsIn b before → IsIn b after
  pub above : (b : ℕ) → IsIn b after → IsIn b before ⊎ IsNew reads b

-- Of an entry: its pages, its new places, and that it is sound and its writes may follow by what it read.
pub record IsEntry (e : WordMove) (pages places : List ℕ) : Type 0 where
  pub pages_are : pages ≡ pages_of e.reads.items e.writes.items
  pub placed : ArePlaced e.reads.items e.writes.items places
  pub is_sound : (n : ℕ) → n < 0x8000001 → IsSound e.reads.items (writes_of e n)
  pub may : (n : ℕ) (ws : List ℕ) → n < 0x8000001 → IsHeap ws → HasAll e.reads.items (inside_at ws) → MayWrite ws (writes_of e n)

-- What was read stands, or is final and shown, and is of a page.
pub record AreThere (count : ℕ) (stands : ℕ → ℕ → Type 0) (shown : ℕ → Option ℕ) (reads : WordList) : Type 0 where
  pub opens : (a x : ℕ) → Among reads (a, x) → is_final_word x ≡ false → stands a x
  pub finals : (a x : ℕ) → Among reads (a, x) → is_final_word x ≡ true → shown a ≡ Some x
  pub low : (a x : ℕ) → Among reads (a, x) → a / 1024 < count

-- the top of the address's page stands, and it is not below that
abbrev pub IsAbove : (ℕ → ℕ → Type 0) → ℕ → Type 0
IsAbove stands a = (x t : ℕ) × stands (1024 * (a / 1024)) x × (decoded x ≡ Some (Top t)) × (t ≤ a)

-- what a second look at one word says, and at all of them
abbrev pub LookSays : {S : Type 0} → (S → ℕ → ℕ → Type 0) → (S → S → ℕ → ℕ → Type 0) → S → S → ℕ → ℕ → Option Change → Type 0
LookSays stands gave v w a x None = is_final_word x ≡ false → stands w a x
LookSays stands gave v w a x (Some c) = (c.addr ≡ a) × (c.kept ≡ x) × gave v w a c.found × (x ≡ c.found → ⊥)

abbrev pub LooksSay : {S : Type 0} → (S → ℕ → ℕ → Type 0) → (S → S → ℕ → ℕ → Type 0) → S → S → WordList → Option Change → Type 0
LooksSay stands gave v w reads None = (a x : ℕ) → Among reads (a, x) → is_final_word x ≡ false → stands w a x
LooksSay stands gave v w reads (Some c) = Among reads (c.addr, c.kept) × gave v w c.addr c.found × (c.kept ≡ c.found → ⊥)

module _ {S : Type 0} (page_count : S → ℕ) (due : S → Bool) (purse : S → Quota) (spare : S → ℕ) (takes : S → List (ℕ × Bool))
    (silent : S → S → Type 0) (found : S → S → ℕ → ℕ → Type 0) (added : S → S → WordMove → ℕ → Type 0) (e : WordMove)
    (pages : List ℕ) (old new : S) where
  -- The entry was made, with this number.
  pub record IsMade (n : ℕ) : Type 0 where
    pub is_added : added old new e n
    pub took : TookEach (takes old) (takes new) (λ q. IsIn q pages)
    pub spent : IsSpent (purse old) e (purse new)
    pub same_pages : page_count new ≡ page_count old
    pub less_room : spare new ≡ spare old - 1

  -- so it is, or a page was held, or a word has changed
  abbrev pub MakeSays : Making → Type 0
  MakeSays (making.Made n) = IsMade n
  MakeSays (making.Busy page) = IsQuiet page_count due purse spare silent old new × FoundBusy (takes old) (takes new) page
  MakeSays (making.Changed c) = IsQuiet page_count due purse spare silent old new × Among e.reads.items (c.addr, c.kept)
      × found old new c.addr c.found × (c.kept ≡ c.found → ⊥)

-- the entry was made
abbrev pub is_made : Making → Bool
is_made (making.Made n) = true
is_made _ = false
