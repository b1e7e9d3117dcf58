-- A plain hall: what its fields say.
use Rattle.std.specs.Prelude.{◌≡◌, ℕ, suc, ◌+◌, ◌*◌, ◌<◌, ◌≤◌, Bool, false, [], ◌∷◌, ◌++◌, length, slice_get, unwrap_or, Some}
use Rattle.heap_words.specs.Heaps.{IsHeap, inside_at}
use Rattle.word_states.specs.Words.{HasAll}
use Rattle.word_states.specs.Writing.{applied, MayWrite}
use Rattle.word_moves.specs.declared.word_move.WordMove.{WordMove}
use Rattle.commit_engine.specs.declared.plain_hall.PlainHall.{PlainHall}
use Rattle.commit_engine.specs.Halls.{writes_of}

-- the words are a heap, there is a lock for each page, and the log has room
pub record IsPlain (h : PlainHall) : Type 0 where
  pub heap : IsHeap h.words.items
  pub locks : 1024 * length h.held.items ≡ length h.words.items
  pub room : length h.log.items + h.spare ≤ h.log.cap
  pub few : length h.log.items + h.spare < 134217728

-- nothing changed
pub record IsSame (g h : PlainHall) : Type 0 where
  pub words : h.words.items ≡ g.words.items
  pub log : h.log.items ≡ g.log.items
  pub held : h.held.items ≡ g.held.items
  pub due : h.due ≡ g.due
  pub quota : h.quota ≡ g.quota
  pub spare : h.spare ≡ g.spare
  pub cap : h.log.cap ≡ g.log.cap

-- the page is held
abbrev pub holds_of : PlainHall → ℕ → Bool
holds_of h p = unwrap_or (slice_get h.held.items p) false

-- the words and the log are the same
abbrev pub IsSilent : PlainHall → PlainHall → Type 0
IsSilent g h = (h.words.items ≡ g.words.items) × (h.log.items ≡ g.log.items)

-- and the word stands there
abbrev pub IsFound : PlainHall → PlainHall → ℕ → ℕ → Type 0
IsFound g h a x = IsSilent g h × (inside_at h.words.items a ≡ Some x)

-- the entry is the last of the log, the words had what it read, and they are as it writes
pub record IsAdded (g h : PlainHall) (e : WordMove) (n : ℕ) : Type 0 where
  pub number : n ≡ suc (length g.log.items)
  pub log : h.log.items ≡ g.log.items ++ e.entry ∷ []
  pub reads : HasAll e.reads.items (inside_at g.words.items)
  pub may : MayWrite g.words.items (writes_of e n)
  pub words : h.words.items ≡ applied g.words.items (writes_of e n)
