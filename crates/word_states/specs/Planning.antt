-- What an entry writes, as one list, and plans of where its words go.
use Rattle.std.specs.Prelude.{◌≡◌, ℕ, ◌+◌, ◌<◌, List, [], ◌∷◌, ◌++◌, length, map, Some, None}
use Rattle.heap_words.specs.Cells.{decoded, encoded}
use Rattle.heap_words.specs.Trails.{WordList, word_at}
use Rattle.heap_words.specs.declared.cell.Cell.TheVariants.{Unbound, Status, Top}
use Rattle.heap_words.specs.declared.cell.Stand.TheVariants.{Ready, Waiting, Done}
use Rattle.word_states.specs.Words.{Words, Has, Among, AreApart, row, IsIn}
use Rattle.word_states.specs.Pieces.{rows}
use Rattle.word_states.specs.Layouts.{moved, laid_piece, next_place, next_process, entry_words}

-- the words of the laid pieces
abbrev pub laid_rows : (ℕ → ℕ) → ℕ → ℕ → ℕ → ℕ → List (List ℕ) → WordList
laid_rows f n k i a [] = []
laid_rows f n k i a (p ∷ ps) = row (f a) (laid_piece f n k i p) ++ laid_rows f n (next_place k p) (next_process i p) (a + length p) ps

-- the bindings, moved
abbrev pub moved_binds : (ℕ → ℕ) → WordList → WordList
moved_binds f bs = map (λ (b : ℕ × ℕ). (b.0, moved f b.1)) bs

-- the statuses of the woken
abbrev pub ready_words : List ℕ → WordList
ready_words qs = map (λ q. (q, encoded (Status Ready))) qs

-- what a commit writes: the status, the bindings, the woken, the tops, and the pieces
abbrev pub commit_writes : (ℕ → ℕ) → ℕ → ℕ → WordList → List (List ℕ) → List ℕ → WordList → WordList
commit_writes f n p binds ps wakes tops = (p, encoded (Status Done))
    ∷ (moved_binds f binds ++ (ready_words wakes ++ (tops ++ laid_rows f n 1 1 4000000000 ps)))

-- each piece is laid as a whole
abbrev pub AreWhole : (ℕ → ℕ) → ℕ → List (List ℕ) → Type 0
AreWhole f a [] = Unit {0}
AreWhole f a (p ∷ ps) = ((d : ℕ) → d < length p → f (a + d) ≡ f a + d) × AreWhole f (a + length p) ps

-- tops are written where tops stand
abbrev pub TopsForTops : WordList → Words → Type 0
TopsForTops tops w = (a x : ℕ) → Among tops (a, x)
    → (y t u : ℕ) × (w a ≡ Some y) × (decoded y ≡ Some (Top t)) × (decoded x ≡ Some (Top u))

-- A plan of where the pieces go, over the words w: free addresses, one for each word of the pieces.
pub record IsPlanned (f : ℕ → ℕ) (n p : ℕ) (binds : WordList) (ps : List (List ℕ)) (wakes : List ℕ) (tops : WordList)
    (w : Words) : Type 0 where
  -- addresses stay in their range, and those of the store stay as they are
  pub small : (a : ℕ) → a < 0x100000000 → f a < 0x100000000
  pub old : (a : ℕ) → a < 4000000000 → f a ≡ a
  -- each word of the pieces goes to a free address of its own, and a piece stays whole
  pub free : (a x : ℕ) → word_at (rows 4000000000 ps) a ≡ Some x → w (f a) ≡ None
  pub one : (a b x y : ℕ) → word_at (rows 4000000000 ps) a ≡ Some x → word_at (rows 4000000000 ps) b ≡ Some y → f a ≡ f b → a ≡ b
  pub whole : AreWhole f 4000000000 ps
  -- no address is written twice
  pub apart : AreApart (commit_writes f n p binds ps wakes tops)
  -- the other words that are written stand in place of others
  pub process : Has w p
  pub bound : (a x : ℕ) → Among binds (a, x) → Has w a
  pub woken : (q : ℕ) → IsIn q wakes → Has w q
  pub tops_rise : TopsForTops tops w

-- the waiting entries of the process at p by entry n, one for each place with the begin of its list; that of the place at a goes to
-- `entry a`
abbrev pub entry_rows : (ℕ → ℕ) → ℕ → ℕ → WordList → WordList
entry_rows entry n p [] = []
entry_rows entry n p (l ∷ ls) = row (entry l.0) (entry_words n p l.1) ++ entry_rows entry n p ls

-- the places with the new heads of their lists
abbrev pub head_words : (ℕ → ℕ) → WordList → WordList
head_words entry ls = map (λ (l : ℕ × ℕ). (l.0, encoded (Unbound (entry l.0)))) ls

-- what a hang writes: the status, the heads, the tops, and the waiting entries
abbrev pub hang_writes : (ℕ → ℕ) → ℕ → ℕ → WordList → WordList → WordList
hang_writes entry n p lists tops =
    (p, encoded (Status (Waiting n))) ∷ (head_words entry lists ++ (tops ++ entry_rows entry n p lists))

-- A plan of where the waiting entries go, over the words w: free addresses.
pub record IsHangPlanned (entry : ℕ → ℕ) (n p : ℕ) (lists tops : WordList) (w : Words) : Type 0 where
  -- addresses and the number are in their ranges
  pub small : (p < 0x100000000) × (n < 0x100000000)
  pub small_entry : (a e : ℕ) → Among lists (a, e) → (0 < entry a) × (entry a < 0x100000000)
  pub free : (a e i : ℕ) → Among lists (a, e) → i < 3 → w (entry a + i) ≡ None
  -- no address is written twice
  pub apart : AreApart (hang_writes entry n p lists tops)
  pub tops_rise : TopsForTops tops w
