-- What a spell with a page does to a seat.
use Rattle.std.specs.Prelude.{◌≡◌, ℕ, ◌+◌, ◌*◌, ◌<◌, Option, Some, None, [], ◌∷◌}
use Rattle.word_commit.specs.declared.view.View.{View}
use Rattle.word_commit.specs.declared.view.Given.{Given}
use Rattle.word_commit.specs.Meanings.{Among}
use Rattle.store_bench.specs.declared.counts.Count.{Count}

-- it holds no page, and has nothing to publish
abbrev pub IsAtRest : View Count → Type 0
IsAtRest v = (v.grip.held ≡ []) × (v.grip.due ≡ [])

-- so many moves less, and as much less room
abbrev pub Spends : View Count → View Count → ℕ → ℕ → ℕ → Type 0
Spends old new room left n =
    (left + n ≡ room) × (new.purse.moves + n ≡ old.purse.moves) × (new.purse.rights ≡ old.purse.rights)

-- how many entries were made
abbrev pub made : Option ℕ → ℕ
made (Some n) = n
made None = 0

-- A page alone is held, whose top t and second word x are known, and that word is in use.
pub record Counter (g : Given) (v : View Count) (page t x : ℕ) : Type 0 where
  pub there : page < g.pages
  pub held : v.grip.held ≡ page ∷ []
  pub idle : v.grip.due ≡ []
  pub top : Among v.grip.known (1024 * page, t)
  pub word : Among v.grip.known (1024 * page + 1, x)
  pub above : 1024 * page + 1 < t
