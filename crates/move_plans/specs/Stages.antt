-- What holds between the stages of a plan.
use Rattle.std.specs.Prelude.{◌≡◌, ℕ, List, length, map}
use Rattle.std.specs.List.{concat}
use Rattle.heap_words.specs.Trails.{WordList}
use Rattle.word_states.specs.Words.{addresses_of}
use Rattle.page_layout.specs.Looking.{Rise}
use Rattle.trial_machine.specs.Deciding.{HandedOver}
use Rattle.word_moves.specs.Planned.{ReadsProcess, IsPlannedCommit, IsPlannedHang}
use Rattle.move_plans.specs.declared.planner.Planner.{Planner}

-- what was handed over, with more that was read
abbrev pub rereads : HandedOver → WordList → HandedOver
rereads h kept = record { reads = kept; binds = h.binds; clause = h.clause; pieces = h.pieces; places = h.places }

-- the sizes of pieces
abbrev pub sizes_of : List (List ℕ) → List ℕ
sizes_of ps = map length ps

-- A hang is laid, for the process at p by any name.
pub record LaysHang (kept : WordList) (pl : Planner) (p : ℕ) : Type 0 where
  pub planned : (z : ℕ) → ReadsProcess kept p z
      → IsPlannedHang pl.machine.trail.kept p z pl.lists.items pl.rooms.items pl.table.items
  pub rise : Rise pl.rooms.items
  pub places : addresses_of pl.lists.items ≡ pl.machine.waits

-- the commit of the process at p, by the number of its name
abbrev pub PlansCommit : Planner → ℕ → ℕ → Type 0
PlansCommit pl p z = IsPlannedCommit pl.machine.trail.kept p z pl.machine.binds.items (sizes_of pl.machine.desk.pieces)
    (concat pl.machine.desk.pieces) pl.woken.items pl.rooms.items pl.table.items

-- A commit of the process at p is laid, by any name.
pub record LaysCommit (kept : WordList) (pl : Planner) (p : ℕ) : Type 0 where
  pub planned : (z : ℕ) → ReadsProcess kept p z → PlansCommit pl p z
  pub rise : Rise pl.rooms.items
  pub bound : pl.bound.items ≡ addresses_of pl.machine.binds.items
