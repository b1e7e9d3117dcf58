-- Pages of words, and the taking of words in them.
use Rattle.std.specs.Prelude.{◌≡◌, ◌⊎◌, ℕ, zero, suc, ◌+◌, ◌-◌, ◌*◌, ◌/◌, ◌%◌, ◌<◌, ◌≤◌, false, List, [], ◌∷◌, length, slice_get, Some}
use Rattle.heap_words.specs.Heaps.{top_at, is_inside, inside_at}
use Rattle.goal_layout.specs.FirstFit.{fit}

-- how many words of a page are free
abbrev pub room : List ℕ → ℕ → ℕ
room ws p = 1024 * p + 1024 - top_at ws (1024 * p)

-- the same of so many pages from one on
abbrev pub rooms_from : List ℕ → ℕ → ℕ → List ℕ
rooms_from ws p zero = []
rooms_from ws p (suc n) = room ws p ∷ rooms_from ws (suc p) n

-- the same of all pages
abbrev pub rooms : List ℕ → List ℕ
rooms ws = rooms_from ws 0 (length ws / 1024)

-- whole pages, with their tops; the free words are 0
pub record ArePages (ws : List ℕ) : Type 0 where
  pub whole : length ws % 1024 ≡ 0
  pub small : length ws ≤ 4000000000
  pub above : (p : ℕ) → 1024 * p < length ws → 1024 * p < top_at ws (1024 * p)
  pub within : (p : ℕ) → 1024 * p < length ws → top_at ws (1024 * p) ≤ 1024 * p + 1024
  pub clear : (a : ℕ) → a < length ws → is_inside ws a ≡ false → slice_get ws a ≡ Some 0

-- The n free words from a on, in the first page that has so many, came into use, and no other word is changed but for a top.
pub record Takes (ws ws' : List ℕ) (n a : ℕ) : Type 0 where
  pub pages : ArePages ws'
  pub size : length ws' ≡ length ws
  pub fits : fit n (rooms ws) ≡ Some (rooms ws')
  pub first : 0 < a
  pub last : a + n ≤ length ws
  pub free : (b : ℕ) → a ≤ b → b < a + n → is_inside ws b ≡ false
  pub taken : (b : ℕ) → a ≤ b → b < a + n → inside_at ws' b ≡ Some 0
  pub off : (b : ℕ) → a ≤ b → b < a + n → b % 1024 ≡ 0 → ⊥
  pub others : (b : ℕ) → (b < a) ⊎ (a + n ≤ b) → is_inside ws' b ≡ is_inside ws b
  pub kept : (b : ℕ) → (b % 1024 ≡ 0 → ⊥) → slice_get ws' b ≡ slice_get ws b
