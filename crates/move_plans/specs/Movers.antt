-- What was read of the process that moves.
use Rattle.std.specs.Prelude.{◌≡◌, ◌<◌, ℕ, pos, Option, Some}
use Rattle.heap_words.specs.Cells.{decoded}
use Rattle.heap_words.specs.Trails.{WordList, word_at}
use Rattle.heap_words.specs.declared.cell.Cell.{Cell}
use Rattle.heap_words.specs.declared.cell.Cell.TheVariants.{Small, Status}
use Rattle.heap_words.specs.declared.cell.Stand.TheVariants.{Ready}
use Rattle.word_moves.specs.Planned.{ReadsProcess}
use Rattle.move_plans.specs.declared.mover.Mover.{Mover}
use Rattle.move_plans.specs.declared.mover.Mover.TheVariants.{Named, Other, Nowhere}

-- what the words of a status and of a name say
abbrev pub MoverSays : Option Cell → Option Cell → Mover → Type 0
MoverSays c d (Named z) = (c ≡ Some (Status Ready)) × (d ≡ Some (Small (pos z))) × (z < 36028797018963968)
MoverSays c d (Other s) = (c ≡ Some (Status s)) × (s ≡ Ready → ⊥)
MoverSays c d Nowhere = Unit {0}

-- what was read of the process at p
abbrev pub MoverRead : WordList → ℕ → Mover → Type 0
MoverRead kept p (Named z) = ReadsProcess kept p z × (z < 36028797018963968)
MoverRead kept p (Other s) = (x : ℕ) × (word_at kept p ≡ Some x) × (decoded x ≡ Some (Status s)) × (s ≡ Ready → ⊥)
MoverRead kept p Nowhere = Unit {0}
