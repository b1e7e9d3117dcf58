-- The store of a trial, by the laws of its words.
use Rattle.std.specs.Prelude.{◌≡◌, ℕ, ◌≤◌, Some, Option}
use Rattle.heap_words.specs.Trails.{WordList, word_at}
use Rattle.safe_tries.specs.Safe.{StayLow}

-- What is asked of a store beside the laws of words: it has no address of a try's own, the final words that are shown refer to its own
-- addresses alone, and the words that were kept were loaded from it.
pub record IsStored {S : Type 0} (addresses : S → ℕ) (is_sound : S → Type 0) (was_had : S → ℕ → ℕ → Type 0) (shown : S → ℕ → Option ℕ)
    (later : S → S → Type 0) (kept : WordList) (w : S) : Type 0 where
  pub sound : is_sound w
  pub few : addresses w ≤ 4000000000
  pub low : (v : S) → later w v → StayLow (shown v)
  pub had : (a x : ℕ) → word_at kept a ≡ Some x → was_had w a x
