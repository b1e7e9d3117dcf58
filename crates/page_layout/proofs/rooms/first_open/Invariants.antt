use Rattle.std.proofs.Common.{◌≡◌, ℕ, ◌<◌, ◌≤◌, slice_get, Some}
use Rattle.page_layout.specs.declared.rooms.Room.{Room}
use Rattle.page_layout.specs.Looking.{Lacks}
use Rattle.page_layout.proofs.rooms.first_open.Given as goal

abbrev pub invariant-loop-at : goal.invariant-loop-at
invariant-loop-at l = record {
  from : l.from ≤ l.first;
  before : (p : ℕ) → l.from ≤ p → p < l.first → (k : ℕ) × (r : Room) × (slice_get l.rooms k ≡ Some r) × (r.page ≡ p) × Lacks r 96;
  roomy : (k : ℕ) (r : Room) → k < l.at → slice_get l.rooms k ≡ Some r → r.page ≡ l.first → Lacks r 96 → ⊥;
}
