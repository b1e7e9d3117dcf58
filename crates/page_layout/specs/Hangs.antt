-- Where the waiting entries of a hang go: entry i of its places, from 0, is a piece of three words.
use Rattle.std.specs.Prelude.{ℕ, zero, suc, ◌+◌, List, [], ◌∷◌, ◌++◌, if◌then◌else◌, nat_eq}
use Rattle.heap_words.specs.Cells.{encoded}
use Rattle.heap_words.specs.declared.cell.Cell.TheVariants.{Unbound}
use Rattle.word_states.specs.Words.{row}
use Rattle.word_states.specs.Layouts.{entry_words}
use Rattle.heap_words.specs.Trails.{WordList}
use Rattle.page_layout.specs.Laying.{moved_to}

-- the sizes of so many entries
abbrev pub threes : ℕ → List ℕ
threes zero = []
threes (suc n) = 3 ∷ threes n

-- the entry of a place, where the entries of these places begin at word i of the pieces; 0 for no place of them
abbrev pub entry_in : List ℕ → ℕ → WordList → ℕ → ℕ
entry_in table i [] a = 0
entry_in table i (l ∷ ls) a = if nat_eq l.0 a then moved_to table (4000000000 + i) else entry_in table (i + 3) ls a

-- of a hang on these places
abbrev pub entry_of : List ℕ → WordList → ℕ → ℕ
entry_of table lists a = entry_in table 0 lists a

-- the places with their new heads, where the first entry begins at word i of the pieces
abbrev pub heads_at : List ℕ → ℕ → WordList → WordList
heads_at table i [] = []
heads_at table i (l ∷ ls) = (l.0, encoded (Unbound (moved_to table (4000000000 + i)))) ∷ heads_at table (i + 3) ls

-- and the waiting entries of the process p by entry n
abbrev pub entries_at : List ℕ → ℕ → ℕ → ℕ → WordList → WordList
entries_at table n p i [] = []
entries_at table n p i (l ∷ ls) = row (moved_to table (4000000000 + i)) (entry_words n p l.1) ++ entries_at table n p (i + 3) ls
