use Rattle.std.proofs.Common.{◌≡◌, ℕ, ◌+◌, ◌*◌, ◌<◌, slice_get, Some}
use Rattle.page_layout.specs.declared.rooms.Room.{Room}
use Rattle.page_layout.proofs.rooms.first_fit.Given as goal

-- those before it have too few
abbrev pub invariant-loop-at : goal.invariant-loop-at
invariant-loop-at l = (k : ℕ) (r : Room) → k < l.at → slice_get l.rooms k ≡ Some r → 1024 * r.page + 1024 < r.top + l.need
