-- Where a safe try ends: what it hands over is sound by what was kept.
use Rattle.std.specs.Prelude.{◌≡◌, ℕ, Option, Some}
use Rattle.heap_words.specs.Trails.{WordList, word_at, AreOnce}
use Rattle.word_states.specs.Trials.{IsReadCommit, IsReadWait}
use Rattle.machine_code.specs.Fresh.{Tops}
use Rattle.trial_laws.specs.AtHand.{AtHand}
use Rattle.trial_laws.specs.Leading.{IsTermWord}
use Rattle.trial_laws.specs.Endings.{settled, of_store}
use Rattle.safe_tries.specs.Safe.{IsSafe, Safely}
use Rattle.safe_tries.specs.Stored.{IsStored}

-- the bindings of the store's places, and the pieces with those of own ones
abbrev pub SafeCommit : {S : Type 0} → (S → ℕ) → (S → Type 0) → (S → ℕ → ℕ → Type 0) → (S → ℕ → Option ℕ) → (S → S → Type 0) → Type 0
SafeCommit addresses is_sound was_had shown later = (kept : WordList) (w : _) (r : AtHand) (τ : Tops) (released : ℕ)
    → IsStored addresses is_sound was_had shown later kept w → IsSafe kept r τ released → AreOnce r.binds → AreOnce kept
    → ((a x : ℕ) → word_at r.binds a ≡ Some x → IsTermWord x)
    → IsReadCommit kept (of_store r.binds) (settled r.binds 4000000000 r.pieces)

-- the places for which it waits
abbrev pub SafeWait : Type 0
SafeWait = Safely (λ kept r τ released. AreOnce kept → IsReadWait kept r.waits)
