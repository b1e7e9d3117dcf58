-- What a hang lays for the places on which a process waits, before the entry has its number.
use Rattle.std.specs.Prelude.{ℕ, List, [], ◌∷◌, ◌++◌, pos}
use Rattle.heap_words.specs.Cells.{decoded, encoded}
use Rattle.heap_words.specs.Trails.{WordList}
use Rattle.heap_words.specs.declared.cell.Cell.TheVariants.{Small, Raw}
use Rattle.word_states.specs.Layouts.{link_word}
use Rattle.suspension_lists.specs.Cells.{list_of}

-- the waiting entry of the process at p before the list that begins at e: its second word is 0 until it is the number
abbrev pub open_entry : ℕ → ℕ → List ℕ
open_entry p e = encoded (Raw p) ∷ 0 ∷ link_word e ∷ []

-- one for each place, which stands here with its word, in order
abbrev pub open_entries : ℕ → WordList → List ℕ
open_entries p [] = []
open_entries p (l ∷ ls) = open_entry p (list_of (decoded l.1)) ++ open_entries p ls

-- waiting entries with the number of their hang
abbrev pub dated : ℕ → List ℕ → List ℕ
dated n (x ∷ y ∷ z ∷ ws) = x ∷ encoded (Small (pos n)) ∷ z ∷ dated n ws
dated n ws = ws
