-- With what words a store may be made.
use Rattle.std.specs.Prelude.{◌≡◌, ℕ, ◌+◌, ◌*◌, ◌%◌, ◌<◌, ◌≤◌, List, length, slice_index, true}
use Rattle.word_commit.specs.Meanings.{Wording, Among}
use Rattle.word_commit.specs.Histories.{Inside}

module _ (m : Wording) where
  -- it stands at an address inside
  abbrev pub StandsInside : List ℕ → ℕ × ℕ → Type 0
  StandsInside w x = (x.0 < length w) × Inside m w x.0 × (slice_index w x.0 ≡ x.1)

  -- Words with which a store may be made.
  pub record MayOpen (w : List ℕ) : Type 0 where
    -- whole pages, of at most 4,000,000,000 words together
    pub whole : length w % 1024 ≡ 0
    pub small : length w ≤ 4000000000
    -- each top lies above its page's first word, and not past the page's end
    pub above : (p : ℕ) → 1024 * p < length w → 1024 * p < m.top (slice_index w (1024 * p))
    pub within : (p : ℕ) → 1024 * p < length w → m.top (slice_index w (1024 * p)) ≤ 1024 * p + 1024
    -- words inside refer together to nothing but addresses inside
    pub closed : (l : List (ℕ × ℕ)) (a : ℕ) → ((x : ℕ × ℕ) → Among l x → StandsInside w x) → m.refers l a ≡ true → Inside m w a
        × (a < length w)
