-- Where a trial starts.
use Rattle.std.specs.Prelude.{◌≡◌, ℕ, false, List, [], Option}
use Rattle.heap_words.specs.Trails.{WordList}
use Rattle.word_states.specs.Words.{IsIn, AreDistinct}
use Rattle.machine_code.specs.Fresh.{no_tops}
use Rattle.trial_laws.specs.AtHand.{AtHand}
use Rattle.safe_tries.specs.Safe.{IsSafe, KeptOpen}
use Rattle.safe_tries.specs.Stored.{IsStored}
use Rattle.safe_tries.specs.Puts.{AreArguments}

-- nothing is at hand but the words of the arguments, in slots
pub record IsAtRest (words : ℕ → ℕ) (r : AtHand) : Type 0 where
  pub pieces : r.pieces ≡ []
  pub binds : r.binds ≡ []
  pub reads : r.reads ≡ []
  pub slots : (i : ℕ) → r.slots i ≡ words i
  pub operators : (i : ℕ) → r.operators i ≡ false

-- the places for which the tries before wait were read unbound, and each is listed once
pub record AreOpen (kept : WordList) (places : List ℕ) : Type 0 where
  pub read : (a : ℕ) → IsIn a places → KeptOpen kept a
  pub apart : AreDistinct places

-- that is safe beside the store from which the arguments were loaded
abbrev pub SafeStart : {S : Type 0} → (S → ℕ) → (S → Type 0) → (S → ℕ → ℕ → Type 0) → (S → ℕ → Option ℕ) → (S → S → Type 0) → Type 0
SafeStart addresses is_sound was_had shown later = (kept : WordList) (w : _) (words : ℕ → ℕ) (r : AtHand)
    → IsStored addresses is_sound was_had shown later kept w → AreArguments kept words → IsAtRest words r → AreOpen kept r.waits
    → IsSafe kept r no_tops 0
