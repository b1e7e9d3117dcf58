-- How what a seat has in memory stands to its view.
use Rattle.std.specs.Prelude.{◌≡◌, ℕ, List, [], ◌∷◌, Option, Some, None}
use Rattle.word_commit.specs.declared.quota.Quota.{Quota}
use Rattle.word_commit.specs.declared.view.Purse.{Purse}
use Rattle.word_commit.specs.declared.view.Numbered.{Numbered}
use Rattle.word_commit.specs.Meanings.{Meaning}

-- the purse has this quota
abbrev pub Has : Purse → Quota → Type 0
Has p q = (p.commits ≡ q.commits) × (p.moves ≡ q.moves) × (p.cells ≡ q.cells)

module _ {E : Type 0} where
  -- the entry of which writes may still be published
  abbrev pub pending_of : Option (Numbered E) → List (Numbered E)
  pending_of None = []
  pending_of (Some x) = x ∷ []

  -- the words that are to be published of it
  abbrev pub due_of : Meaning E → Option (Numbered E) → List (ℕ × ℕ)
  due_of m None = []
  due_of m (Some x) = m.writes x.entry x.number

module _ {E L : Type 0} where
  -- what the log keeps of entries
  abbrev pub kept_of : (E → L) → List (Numbered E) → List L
  kept_of f [] = []
  kept_of f (x ∷ xs) = f x.entry ∷ kept_of f xs
