use Rattle.std.proofs.Common.{◌+◌, ◌∷◌, ◌++◌, [], length, take, pos}
use Rattle.heap_words.specs.Cells.{encoded}
use Rattle.heap_words.specs.declared.cell.Cell.TheVariants.{Small, Raw, Status}
use Rattle.heap_words.specs.declared.cell.Stand.TheVariants.{Ready}
use Rattle.goal_layout.specs.Laying.{Fills}
use Rattle.goal_layout.proofs.processes.lay_process.Given as goal

-- the head and the arguments so far are written
abbrev pub invariant-loop-place : goal.invariant-loop-place
invariant-loop-place l =
    Fills (4 + length l.args) l.at
    ((encoded (Status Ready) ∷ encoded (Small (pos l.number)) ∷ encoded (Raw l.procedure) ∷ encoded (Raw (length l.args)) ∷ [])
    ++ take l.place l.args) l.fn.words l.words
