-- Texts that a function puts after a text, where the definitions give them from some number of steps on.
use Rattle.std.specs.Prelude.{◌≡◌, ℕ, ◌≤◌, ◌++◌, Option, Some}
use Rattle.fcp_model.specs.Spelling.{Bytes}

-- what a bounded definition gives, from some number of steps on
abbrev pub Gives : {A : Type 0} → (ℕ → Option A) → A → Type 0
Gives f a = (n : ℕ) × ((k : ℕ) → n ≤ k → f k ≡ Some a)

-- the new text is the old one with what the definition gives after it
pub record Adds (old new : Bytes) (f : ℕ → Option Bytes) : Type 0 where
  pub added : Bytes
  pub behind : new ≡ old ++ added
  pub given : Gives f added
