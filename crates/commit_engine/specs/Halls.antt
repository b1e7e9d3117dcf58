-- What a turn needs of a hall.
use Rattle.std.specs.Prelude.{◌≡◌, ◌⊎◌, ℕ, ◌-◌, ◌*◌, ◌/◌, ◌<◌, ◌≤◌, Bool, true, false, List, Option, Some, length}
use Rattle.heap_words.specs.Cells.{is_final_word}
use Rattle.heap_words.specs.Heaps.{IsHeap, inside_at}
use Rattle.heap_words.specs.Trails.{WordList}
use Rattle.fcp_model.specs.declared.run.Entry.{Entry}
use Rattle.fcp_model.specs.declared.run.Entry.TheVariants.{Commit, Hang, Fail}
use Rattle.word_states.specs.Words.{Among}
use Rattle.word_states.specs.Writing.{MayWrite}
use Rattle.sound_entries.specs.Sound.{IsSound}
use Rattle.page_layout.specs.Writing.{written}
use Rattle.safe_tries.specs.Safe.{StayLow}
use Rattle.word_commit.specs.declared.quota.Quota.{Quota}
use Rattle.word_moves.specs.declared.word_move.WordMove.{WordMove}

-- what the entry writes, by its number
abbrev pub writes_of : WordMove → ℕ → WordList
writes_of e n = written n e.writes.items

-- what an entry costs beside its cells
abbrev pub commits_of : Entry → ℕ
commits_of (Commit p k) = 1
commits_of _ = 0

abbrev pub moves_of : Entry → ℕ
moves_of (Commit p k) = 1
moves_of (Hang p) = 1
moves_of (Fail p) = 1
moves_of _ = 0

-- the quota covers the entry
pub record IsPaid (q : Quota) (e : WordMove) : Type 0 where
  pub commits : commits_of e.entry ≤ q.commits
  pub moves : moves_of e.entry ≤ q.moves
  pub cells : e.cells ≤ q.cells

-- and what it leaves
pub record IsSpent (q : Quota) (e : WordMove) (q' : Quota) : Type 0 where
  pub commits : q'.commits ≡ q.commits - commits_of e.entry
  pub moves : q'.moves ≡ q.moves - moves_of e.entry
  pub cells : q'.cells ≡ q.cells - e.cells

-- what most calls leave
abbrev pub SameRest : {S : Type 0} (page_count : S → ℕ) (due : S → Bool) (purse : S → Quota) (spare : S → ℕ) → S → S → Type 0
SameRest page_count due purse spare v w =
    (page_count w ≡ page_count v) × (due w ≡ due v) × (purse w ≡ purse v) × (spare w ≡ spare v)

-- An entry may be stamped, of which these words stand in held pages, were primed, and are shown.
pub record MayStamp (pages : ℕ) (holds : ℕ → Bool) (stands primed : ℕ → ℕ → Type 0) (shown : ℕ → Option ℕ) (e : WordMove) : Type 0 where
  -- each word that it read stands in a held page, or is a final one that was shown
  pub reads : (a x : ℕ) → Among e.reads.items (a, x) → stands a x ⊎ ((is_final_word x ≡ true) × (shown a ≡ Some x))
  -- the pages of its writes and of its other reads are held
  pub held_reads : (a x : ℕ) → Among e.reads.items (a, x) → is_final_word x ≡ false → holds (a / 1024) ≡ true
  pub held_writes : (n a x : ℕ) → Among (writes_of e n) (a, x) → holds (a / 1024) ≡ true
  -- it is sound, and its writes may follow over any heap that has the words which stand and are shown
  pub sound : (n : ℕ) → n < 0x8000001 → IsSound e.reads.items (writes_of e n)
  pub writes : (n : ℕ) (ws : List ℕ) → n < 0x8000001 → IsHeap ws → length ws ≡ 1024 * pages
      → ((a x : ℕ) → stands a x → inside_at ws a ≡ Some x) → ((a x : ℕ) → shown a ≡ Some x → inside_at ws a ≡ Some x)
      → MayWrite ws (writes_of e n)
  -- each new word was primed: with its value, or as an unbound place
  pub primed_new : (n a x : ℕ) → Among (writes_of e n) (a, x) → ((y : ℕ) × stands a y) ⊎ (primed a x ⊎ primed a 0)

-- The laws of a hall, beside those of its words. `silent` says that no entry lies between two states, and `added` that
-- exactly this one with this number does.
pub record HallLaws {S : Type 0} (addresses : S → ℕ) (sound : S → Type 0) (knows : S → ℕ → Type 0) (had : S → ℕ → ℕ → Type 0)
    (shown : S → ℕ → Option ℕ) (later : S → S → Type 0) (gave once : S → S → ℕ → ℕ → Type 0) (page_count : S → ℕ) (holds : S → ℕ → Bool)
    (due : S → Bool) (purse : S → Quota) (spare : S → ℕ) (takes : S → List (ℕ × Bool)) (alone : S → Type 0)
    (stands primed : S → ℕ → ℕ → Type 0) (silent : S → S → Type 0) (found : S → S → ℕ → ℕ → Type 0)
    (added : S → S → WordMove → ℕ → Type 0) : Type 0 where
  -- stretches without an entry
  pub later_silent : (v w : S) → sound v → later v w → silent v w
  pub silent_twice : (u v w : S) → silent u v → silent v w → silent u w
  pub silent_added : (u v w : S) (e : WordMove) (n : ℕ) → silent u v → added v w e n → added u w e n
  pub added_silent : (u v w : S) (e : WordMove) (n : ℕ) → added u v e n → silent v w → added u w e n
  -- what a load gave, seen over a longer stretch without an entry
  pub gave_found : (v w : S) (a x : ℕ) → sound v → gave v w a x → found v w a x
  pub found_before : (u v w : S) (a x : ℕ) → found u v a x → silent v w → found u w a x
  pub found_after : (u v w : S) (a x : ℕ) → silent u v → found v w a x → found u w a x
  -- what loads leave
  pub later_rest : (v w : S) → later v w → (page_count w ≡ page_count v) × (due w ≡ due v) × (purse w ≡ purse v) × (spare w ≡ spare v)
  pub later_takes : (v w : S) → later v w → takes w ≡ takes v
  pub later_primed : (v w : S) (a x : ℕ) → later v w → primed v a x → primed w a x
  pub later_holds : (v w : S) (p : ℕ) → later v w → holds w p ≡ holds v p
  pub later_stands : (v w : S) (a x : ℕ) → later v w → stands v a x → stands w a x
  -- each top is known; pages are few, and their words are the addresses; final words that are shown refer to addresses of the hall alone
  pub tops_known : (v : S) (p : ℕ) → sound v → p < page_count v → knows v (1024 * p)
  pub few_pages : (v : S) → sound v → page_count v < 3906251
  pub few : (v : S) → sound v → addresses v ≤ 4000000000
  pub pages : (v : S) (a : ℕ) → sound v → knows v a → a / 1024 < page_count v
  pub low : (v : S) → sound v → StayLow (shown v)
  -- what was loaded while its page was held stands there, and a page is held where a word stands
  pub gave_stands : (v w : S) (a x : ℕ) → sound v → gave v w a x → holds v (a / 1024) ≡ true → stands w a x
  -- what is known and shown stays so
  pub silent_knows : (v w : S) (a : ℕ) → silent v w → knows v a → knows w a
  pub silent_had : (v w : S) (a x : ℕ) → silent v w → had v a x → is_final_word x ≡ true → had w a x
  pub silent_shown : (v w : S) (a x : ℕ) → silent v w → shown v a ≡ Some x → shown w a ≡ Some x
  -- alone
  pub silent_alone : (v w : S) → silent v w → alone w → alone v
  pub alone_silent : (v w : S) → silent v w → alone v → alone w
  pub alone_same : (u v w : S) (a x y : ℕ) → alone v → found u v a x → found v w a y → x ≡ y
