-- What entries and words mean.
use Rattle.std.specs.Prelude.{◌≡◌, ◌⊎◌, ℕ, List, [], ◌∷◌, Bool}
use Rattle.word_commit.specs.declared.quota.Quota.{Quota}

-- it stands in the list
abbrev pub Among : {A : Type 0} → List A → A → Type 0
Among [] x = ⊥
Among (y ∷ ys) x = (y ≡ x) ⊎ Among ys x

-- What words say, whatever the entries are.
pub record Wording : Type 0 where
  -- the address up to which a page is in use, as its first word says it: the page's top
  pub top : ℕ → ℕ
  -- whether no other word may ever replace it
  pub is_final : ℕ → Bool
  -- whether words, each with its own address, refer together to an address
  pub refers : List (ℕ × ℕ) → ℕ → Bool

-- What entries say.
pub record Meaning (E : Type 0) : Type 1 where
  pub words : Wording
  -- the words that the entry read, each with its address
  pub reads : E → List (ℕ × ℕ)
  -- the words that it writes where it has this number
  pub writes : E → ℕ → List (ℕ × ℕ)
  pub cost : E → Quota
  -- what its maker owes beyond what its reads and writes show
  pub sound : E → Type 0
