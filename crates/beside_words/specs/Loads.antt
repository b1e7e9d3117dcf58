-- Loads of words with a try's own words beside them.
use Rattle.std.specs.Prelude.{◌≡◌, ◌⊎◌, ℕ, ◌<◌, Some}
use Rattle.beside_words.specs.Besides.{own_at}
use Rattle.beside_words.specs.declared.beside.Beside.{Beside}

-- only loads lie between, and the own words are the same
abbrev pub LaterBeside : {S : Type 0} → (S → S → Type 0) → Beside S → Beside S → Type 0
LaterBeside later x y = (later x.words.now y.words.now) × (y.words.ghost_name ≡ x.words.ghost_name) × (y.own.now ≡ x.own.now)

-- a load between gave the word: one of the store, or one of an own word
abbrev pub GaveBeside : {S : Type 0} → (S → S → Type 0) → (S → S → ℕ → ℕ → Type 0) → Beside S → Beside S → ℕ → ℕ → Type 0
GaveBeside later gave x y a v =
    ((gave x.words.now y.words.now a v) × (a < 4000000000) × (y.words.ghost_name ≡ x.words.ghost_name) × (y.own.now ≡ x.own.now))
    ⊎ ((later x.words.now y.words.now) × (own_at y.own.now a ≡ Some v) × (y.words.ghost_name ≡ x.words.ghost_name)
    × (y.own.now ≡ x.own.now))

-- the one load between gave it
abbrev pub OnceBeside : {S : Type 0} → (S → S → ℕ → ℕ → Type 0) → Beside S → Beside S → ℕ → ℕ → Type 0
OnceBeside once x y a v = ((once x.words.now y.words.now a v) × (a < 4000000000)) ⊎ (own_at y.own.now a ≡ Some v)
