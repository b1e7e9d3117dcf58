-- Histories of words: entries that write one after another, each by its rules.
use Rattle.std.specs.Prelude.{◌≡◌, ◌⊎◌, ℕ, zero, suc, ◌+◌, ◌*◌, ◌/◌, ◌^◌, ◌<◌, ◌≤◌, List, [], ◌∷◌, ◌++◌, length, true, false, slice_index}
use Rattle.std.specs.Prelude.{slice_set}
use Rattle.word_commit.specs.Meanings.{Among, Wording, Meaning}

-- the address of the first word of an address's page
abbrev pub start_of : ℕ → ℕ
start_of a = a / 1024 * 1024

-- the words after writes
abbrev pub applied : List ℕ → List (ℕ × ℕ) → List ℕ
applied w [] = w
applied w (x ∷ xs) = applied (slice_set w x.0 x.1) xs

-- no address stands twice
abbrev pub Distinct : List (ℕ × ℕ) → Type 0
Distinct [] = Unit {0}
Distinct (x ∷ xs) = ((y : ℕ) → Among xs (x.0, y) → ⊥) × Distinct xs

module _ (m : Wording) where
  -- the sum of the tops of the first pages
  abbrev pub tops : ℕ → List ℕ → ℕ
  tops zero w = 0
  tops (suc p) w = m.top (slice_index w (1024 * p)) + tops p w

  -- a page's first word, or an address below its page's top
  abbrev pub Inside : List ℕ → ℕ → Type 0
  Inside w a = (a ≡ start_of a) ⊎ (a < m.top (slice_index w (start_of a)))

  -- whatever some of these words refer to together is inside
  abbrev pub Closed : List (ℕ × ℕ) → List ℕ → Type 0
  Closed ever w = (l : List (ℕ × ℕ)) (a : ℕ) → ((x : ℕ × ℕ) → Among l x → Among ever x) → m.refers l a ≡ true → Inside w a
      × (a < length w)

  -- it adds nothing to what any list refers to
  abbrev pub AddsNothing : ℕ × ℕ → Type 0
  AddsNothing x = (l r : List (ℕ × ℕ)) (a : ℕ) → m.refers (l ++ x ∷ r) a ≡ m.refers (l ++ r) a

  -- Writes that may be made over these words.
  pub record MayWrite (w : List ℕ) (ws : List (ℕ × ℕ)) : Type 0 where
    -- no address is written twice, and none that is not there
    pub distinct : Distinct ws
    pub ranges : (x : ℕ × ℕ) → Among ws x → x.0 < length w
    -- no final word inside is overwritten
    pub soft : (x : ℕ × ℕ) → Among ws x → Inside w x.0 → m.is_final (slice_index w x.0) ≡ false
    -- what is written is inside afterwards
    pub below : (x : ℕ × ℕ) → Among ws x → Inside (applied w ws) x.0
    -- no top falls, and none passes its page's end
    pub rises : (a : ℕ) → a ≡ start_of a → m.top (slice_index w a) ≤ m.top (slice_index (applied w ws) a)
    pub ends : (a y : ℕ) → a ≡ start_of a → Among ws (a, y) → m.top y ≤ a + 1024
    -- each address that comes inside is written
    pub fills : (a : ℕ) → Inside (applied w ws) a → Inside w a ⊎ ((y : ℕ) × Among ws (a, y))

  -- The words w, and all words that stand or stood inside, as an entry with these reads may find them.
  pub record Finds (reads ever : List (ℕ × ℕ)) (w : List ℕ) : Type 0 where
    pub read : (x : ℕ × ℕ) → Among reads x → (slice_index w x.0 ≡ x.1) × Among ever x × (x.0 < length w)
    pub within : (x : ℕ × ℕ) → Among ever x → Inside w x.0
    pub stood : (a : ℕ) → a < length w → Inside w a → Among ever (a, slice_index w a)
    pub closed : Closed ever w

-- What each kind of entries keeps.
pub record Laws {E : Type 0} (m : Meaning E) : Type 0 where
  -- a longer list refers to no fewer addresses
  pub more : (l r : List (ℕ × ℕ)) (x : ℕ × ℕ) (a : ℕ) → m.words.refers (l ++ r) a ≡ true → m.words.refers (l ++ x ∷ r) a ≡ true
  -- after a sound entry too, whatever words refer to is inside
  pub keeps : (e : E) (n : ℕ) (ever : List (ℕ × ℕ)) (w : List ℕ) → n < 2 ^ 32 → m.sound e → Finds m.words (m.reads e) ever w
      → MayWrite m.words w (m.writes e n)
      → Closed m.words (ever ++ m.writes e n) (applied w (m.writes e n))

module _ {E : Type 0} (m : Meaning E) where
  -- An entry that may come next, with this number, over these words.
  pub record MayFollow (n : ℕ) (w : List ℕ) (e : E) : Type 0 where
    pub sound : m.sound e
    -- what it read stands there, inside
    pub reads : (x : ℕ × ℕ) → Among (m.reads e) x → (slice_index w x.0 ≡ x.1) × Inside m.words w x.0 × (x.0 < length w)
    pub writes : MayWrite m.words w (m.writes e n)
    -- the tops rise together by no more than its cells
    pub cells : tops m.words (length w / 1024) (applied w (m.writes e n)) ≤ tops m.words (length w / 1024) w + (m.cost e).cells

  -- entries of which the first has the number n, each of which may follow the ones before it
  abbrev pub Lawful : ℕ → List ℕ → List E → Type 0
  Lawful n w [] = Unit {0}
  Lawful n w (e ∷ es) = MayFollow n w e × Lawful (suc n) (applied w (m.writes e n)) es

  -- the words after these entries
  abbrev pub world : ℕ → List ℕ → List E → List ℕ
  world n w [] = w
  world n w (e ∷ es) = world (suc n) (applied w (m.writes e n)) es
