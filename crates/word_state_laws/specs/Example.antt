-- A small heap that stands for a state: the goal `p(X?), c(X)` after its first process began to wait.
use Rattle.std.specs.Prelude.{ℕ, pos, List, [], ◌∷◌, map}
use Rattle.fcp_model.specs.Places.{place, proc, placed}
use Rattle.fcp_model.specs.Terms.{var, ro}
use Rattle.fcp_model.specs.Programs.{Goal, user}
use Rattle.fcp_model.specs.States.{State, start}
use Rattle.fcp_model.specs.Events.{after_hang}
use Rattle.heap_words.specs.Cells.{encoded}
use Rattle.heap_words.specs.Trails.{word_at}
use Rattle.heap_words.specs.declared.cell.Cell.{Cell}
use Rattle.heap_words.specs.declared.cell.Cell.TheVariants.{Unbound, Ref, RoRef, Small, Nil, Raw, Status, Top}
use Rattle.heap_words.specs.declared.cell.Stand.TheVariants.{Ready, Waiting}
use Rattle.word_states.specs.Words.{Words, row}
use Rattle.word_states.specs.Standing.{Book, StandsFor}

-- the cells by address, from 0: a top; the place X; the process p(X?), which waits; the process c(X); a waiting entry
abbrev pub drawn_cells : List Cell
drawn_cells =
    Top 16
    ∷ Small (pos 1) ∷ Unbound 13
    ∷ Status (Waiting 1) ∷ Small (pos 1) ∷ Raw 0 ∷ Raw 1 ∷ RoRef 2
    ∷ Status Ready ∷ Small (pos 2) ∷ Raw 1 ∷ Raw 1 ∷ Ref 2
    ∷ Raw 3 ∷ Small (pos 1) ∷ Nil ∷ []

-- the words of these cells
abbrev pub drawn : Words
drawn = word_at (row 0 (map encoded drawn_cells))

-- the goal's items
abbrev pub drawn_goals : List (Goal ℕ)
drawn_goals = user 0 (ro 1 ∷ []) ∷ user 1 (var 1 ∷ []) ∷ []

-- the state after the first process hung on X
abbrev pub drawn_state : State
drawn_state = after_hang (start 1 drawn_goals) (proc 0 1) (place 0 1 ∷ [])

-- where its place and its processes have their words
abbrev pub drawn_book : Book
drawn_book = record { places = (placed 0 1, 2) ∷ []; processes = 3 ∷ 8 ∷ [] }

-- the words stand for the state
abbrev pub AnExampleStands : Type 0
AnExampleStands = StandsFor drawn_book drawn drawn_state
