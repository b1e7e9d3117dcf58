-- Places with the first entries of their waiting lists, as they were read.
use Rattle.std.specs.Prelude.{◌≡◌, ℕ, List, [], ◌∷◌, ◌++◌, Some}
use Rattle.heap_words.specs.Cells.{decoded}
use Rattle.heap_words.specs.Trails.{WordList, word_at}
use Rattle.word_states.specs.Words.{Among, addresses_of}
use Rattle.suspension_lists.specs.Cells.{list_of}

-- the word of the place was read, and the place stands with its list behind the others
abbrev pub PutsPlace : WordList → ℕ → WordList → WordList → Type 0
PutsPlace kept a old new = (x : ℕ) × (word_at kept a ≡ Some x) × (new ≡ old ++ (a, list_of (decoded x)) ∷ [])

-- Each of these places stands with the first entry of its list, in order.
pub record HasPlaces (kept : WordList) (places : List ℕ) (lists : WordList) : Type 0 where
  pub same : addresses_of lists ≡ places
  pub each : (a e : ℕ) → Among lists (a, e) → (x : ℕ) × (word_at kept a ≡ Some x) × (e ≡ list_of (decoded x))
