-- What a transfer does to a seat.
use Rattle.std.specs.Prelude.{◌≡◌, ℕ, ◌+◌, ◌*◌, [], length}
use Rattle.word_commit.specs.declared.view.View.{View}
use Rattle.word_commit.specs.Meanings.{Among}
use Rattle.store_tests.specs.declared.purses.Transfer.{Transfer}
use Rattle.store_tests.specs.declared.moved.Moved.{Moved}
use Rattle.store_tests.specs.declared.moved.Moved.TheVariants.{Done, Busy, Empty}

-- it holds no page, and has nothing to publish
abbrev pub IsAtRest : View Transfer → Type 0
IsAtRest v = (v.grip.held ≡ []) × (v.grip.due ≡ [])

-- it made no entry and spent nothing
pub record IsAsBefore (old new : View Transfer) : Type 0 where
  pub entries : new.entries ≡ old.entries
  pub purse : new.purse ≡ old.purse
  pub due : new.grip.due ≡ old.grip.due

-- It knows the top of a held page and the word of its purse, and all that it knew.
pub record Looks (old new : View Transfer) (page t x : ℕ) : Type 0 where
  pub before : IsAsBefore old new
  pub held : new.grip.held ≡ old.grip.held
  pub top : Among new.grip.known (1024 * page, t)
  pub word : Among new.grip.known (1024 * page + 1, x)
  pub still : (y : ℕ × ℕ) → Among old.grip.known y → Among new.grip.known y

-- how many transfers were made
abbrev pub count_of : Moved → ℕ
count_of (Done n) = 1
count_of Busy = 0
count_of Empty = 0

-- so many entries more, and so much less room and quota
abbrev pub Spends : View Transfer → View Transfer → ℕ → ℕ → ℕ → Type 0
Spends old new room left n =
    (length new.entries ≡ length old.entries + n) × (left + n ≡ room) × (new.purse.moves + n ≡ old.purse.moves)
    × (new.purse.rights ≡ old.purse.rights)
