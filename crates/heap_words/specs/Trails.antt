-- Words by address, and what a trail says of them.
use Rattle.std.specs.Prelude.{◌≡◌, ℕ, ◌<◌, ◌⊎◌, List, Option, Some, nat_eq, unwrap_or, slice_get}
use Rattle.std.specs.Map.{lookup}

-- all words of a store at one moment, or as a try saw them
abbrev pub Memory : Type 0
Memory = ℕ → ℕ

-- addresses with their words
abbrev pub WordList : Type 0
WordList = List (ℕ × ℕ)

-- the word that a list has at an address
abbrev pub word_at : WordList → ℕ → Option ℕ
word_at seen a = lookup (nat_eq a) seen

-- no address stands at two positions of a list
abbrev pub AreOnce : WordList → Type 0
AreOnce ws = (i j a x y : ℕ) → slice_get ws i ≡ Some (a, x) → slice_get ws j ≡ Some (a, y) → i ≡ j

-- the memory under private bindings
abbrev pub under : WordList → Memory → Memory
under binds m a = unwrap_or (word_at binds a) (m a)

-- The memory has the kept words and the own words. No moment of a store that others write need have all words that a try
-- kept: what a try says, it says of every memory that agrees with them.
pub record Agrees (own : ℕ → Option ℕ) (kept : WordList) (m : Memory) : Type 0 where
  pub kept_same : (a x : ℕ) → word_at kept a ≡ Some x → m a ≡ x
  pub own_same : (a x : ℕ) → own a ≡ Some x → m a ≡ x

-- so of every memory that agrees with what was kept
abbrev pub Says : (ℕ → Option ℕ) → WordList → (Memory → Type 0) → Type 0
Says own kept P = (m : Memory) → Agrees own kept m → P m

-- the kept words were loaded and are none of a try's own, and the bindings lead to known addresses alone
pub record Holds {S : Type 0} (had : S → ℕ → ℕ → Type 0) (leads : S → ℕ → Type 0) (kept binds : WordList) (w : S) : Type 0 where
  pub kept_had : (a x : ℕ) → word_at kept a ≡ Some x → had w a x
  pub kept_below : (a x : ℕ) → word_at kept a ≡ Some x → a < 4000000000
  pub bound_leads : (a x : ℕ) → word_at binds a ≡ Some x → leads w x

-- only loads lie between, and what the trail kept besides was loaded there and is none of a try's own words
pub record Went {S : Type 0} (later : S → S → Type 0) (gave : S → S → ℕ → ℕ → Type 0) (kept : WordList) (w : S) (kept' : WordList)
    (w' : S) : Type 0 where
  pub between : later w w'
  pub grows : (a x : ℕ) → word_at kept a ≡ Some x → word_at kept' a ≡ Some x
  pub given : (a x : ℕ) → word_at kept' a ≡ Some x → (word_at kept a ≡ Some x) ⊎ (gave w w' a x × (a < 4000000000))

-- only loads lie between, and the trail kept what they gave
pub record KeepsLoads {S : Type 0} (is_sound : S → Type 0) (had : S → ℕ → ℕ → Type 0) (leads : S → ℕ → Type 0) (later : S → S → Type 0)
    (gave : S → S → ℕ → ℕ → Type 0) (kept binds : WordList) (w : S) (kept' binds' : WordList) (w' : S) : Type 0 where
  pub sound : is_sound w'
  pub went : Went later gave kept w kept' w'
  pub holds : Holds had leads kept' binds' w'
