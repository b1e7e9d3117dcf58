-- The memories of a safe try.
use Rattle.std.specs.Prelude.{ℕ}
use Rattle.fcp_model.specs.Terms.{Bindings}
use Rattle.fcp_model.specs.Programs.{Goal}
use Rattle.fcp_model.specs.Places.{Variable}
use Rattle.heap_words.specs.Trails.{WordList, Agrees}
use Rattle.word_states.specs.Words.{Words}
use Rattle.word_states.specs.Denoting.{Addresses}
use Rattle.word_states.specs.Pieces.{with_own}
use Rattle.word_states.specs.Trials.{IsTried}
use Rattle.unify_terms.specs.WordsOfTries.{memory_of}
use Rattle.machine_code.specs.Fresh.{Tops}
use Rattle.trial_laws.specs.AtHand.{AtHand, IsStore}
use Rattle.safe_tries.specs.Safe.{IsSafe, Safely, own_words, seen}

-- The words of a tried store, with the try's own, have what was kept and is the try's own; and they are a store.
abbrev pub TriedAgrees : Type 0
TriedAgrees = (kept : WordList) (p : ℕ) (w : Words) (vs : Addresses) (bound : Bindings) (g : Goal Variable) (r : AtHand) (τ : Tops)
    (released : ℕ) → IsTried kept p w vs bound g → IsSafe kept r τ released
    → Agrees (own_words r.pieces) kept (memory_of (with_own r.pieces w)) × IsStore w vs bound

-- so has the memory of what was seen
abbrev pub SeenAgrees : Type 0
SeenAgrees = Safely (λ kept r τ released. Agrees (own_words r.pieces) kept (seen kept r))
