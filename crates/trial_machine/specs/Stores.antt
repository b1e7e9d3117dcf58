-- A machine beside a store.
use Rattle.std.specs.Prelude.{◌≡◌, ◌⊎◌, ℕ, Option, Some}
use Rattle.heap_words.specs.Trails.{WordList, word_at}
use Rattle.safe_tries.specs.Stored.{IsStored}

module _ {S : Type 0} (addresses : S → ℕ) (is_sound : S → Type 0) (was_had : S → ℕ → ℕ → Type 0) (shown : S → ℕ → Option ℕ)
    (later : S → S → Type 0) (gave : S → S → ℕ → ℕ → Type 0) where
  -- Loads led from a store to a later one, and more of its words are kept: each was kept before, or loaded.
  pub record Loads (kept : WordList) (w : S) (kept' : WordList) (w' : S) : Type 0 where
    pub stored : IsStored addresses is_sound was_had shown later kept' w'
    pub grows : (a x : ℕ) → word_at kept a ≡ Some x → word_at kept' a ≡ Some x
    pub given : (a x : ℕ) → word_at kept' a ≡ Some x → (word_at kept a ≡ Some x) ⊎ gave w w' a x
