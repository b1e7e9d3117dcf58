use Rattle.std.proofs.Common.{◌≡◌, ◌<◌, ℕ}
use Rattle.goal_layout.specs.Pages.{room}
use Rattle.goal_layout.proofs.pages.take.Given as goal

-- no page so far has room, and nothing has changed
abbrev pub invariant-loop-page : goal.invariant-loop-page
invariant-loop-page l = (l.words ≡ l.fn.words) × ((q : ℕ) → q < l.page → room l.words q < l.size)
