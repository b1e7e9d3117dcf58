-- The laws of tests, by what they give.
use Rattle.std.specs.Prelude.{◌≡◌, ℕ, suc, true, false, List, [], ◌++◌, Some, slice_get}
use Rattle.fcp_model.specs.Places.{Variable}
use Rattle.fcp_model.specs.Terms.{Bindings}
use Rattle.fcp_model.specs.Tests.{Tested, holds, fails, pauses, test}
use Rattle.fcp_model.specs.Tests as tests
use Rattle.heap_words.specs.declared.steps.TestKind.{TestKind}
use Rattle.word_states.specs.Pieces.{place_words, with_variables}
use Rattle.machine_code.specs.Slots.{Step, built}
use Rattle.machine_code.specs.Instructions.{Op, Test, Otherwise}
use Rattle.machine_code.specs.Machine.{Trying, test_of_kind}
use Rattle.trial_laws.specs.AtHand.{AtHand, AreCalled, Leads, IsBaseOf}
use Rattle.trial_laws.specs.Laws.{Always, AreArguments, AreNoted, left}

-- an instruction that tests gives this for a try, by some number of steps
abbrev pub TestGives : Bindings → Trying → Op → Tested → Type 0
TestGives bound t (Test k l r) d =
    (n : ℕ) × (test n (bound ++ t.bound) t.behind (test_of_kind k (built t.slots [] l) (built t.slots [] r)) ≡ Some d)
TestGives bound t Otherwise d = (n : ℕ) × (test n (bound ++ t.bound) t.behind tests.otherwise ≡ Some d)
TestGives bound t _ d = ⊥

-- It holds: the try goes on with what was at hand before the test's terms were put, which has the same places, and with the places that
-- the test read.
abbrev pub LawOfHolds : Type 0
LawOfHolds = Always (λ w vs bound ops args at r t. (k : TestKind) (left right : List Step) (b : AtHand) (rs : List ℕ) (qs : List Variable)
    → slice_get ops at ≡ Some (Test k left right) → TestGives bound t (Test k left right) (holds qs) → IsBaseOf w vs bound args b t
    → place_words 4000000000 r.pieces ≡ place_words 4000000000 b.pieces → AreCalled (with_variables r.pieces vs) rs qs
    → Leads w vs bound ops args at t (suc at) (record b { reads = b.reads ++ rs }))

-- it fails: the try is left
abbrev pub LawOfFails : Type 0
LawOfFails = Always (λ w vs bound ops args at r t. (o : Op) (rs waits : List ℕ) (qs : List Variable) (words : ℕ → ℕ)
    → slice_get ops at ≡ Some o → TestGives bound t o (fails qs) → AreCalled (with_variables r.pieces vs) rs qs
    → AreNoted r.waits (r.reads ++ rs) waits → AreArguments w vs args words
    → Leads w vs bound ops args at t r.next (left r r.behind waits words))

-- it waits: the try is left, and not all tries failed
abbrev pub LawOfWaits : Type 0
LawOfWaits = Always (λ w vs bound ops args at r t. (o : Op) (rs waits : List ℕ) (qs : List Variable) (words : ℕ → ℕ)
    → slice_get ops at ≡ Some o → TestGives bound t o (pauses qs) → AreCalled (with_variables r.pieces vs) rs qs
    → AreNoted r.waits (r.reads ++ rs) waits → AreArguments w vs args words
    → Leads w vs bound ops args at t r.next (left r false waits words))

-- `otherwise` holds where all tries before failed, and else it waits for nothing
abbrev pub LawOfOtherwise : Type 0
LawOfOtherwise = Always (λ w vs bound ops args at r t. slice_get ops at ≡ Some Otherwise → r.behind ≡ true
    → Leads w vs bound ops args at t (suc at) r)

abbrev pub LawOfNotOtherwise : Type 0
LawOfNotOtherwise = Always (λ w vs bound ops args at r t. (waits : List ℕ) (words : ℕ → ℕ) → slice_get ops at ≡ Some Otherwise
    → r.behind ≡ false → AreNoted r.waits r.reads waits → AreArguments w vs args words
    → Leads w vs bound ops args at t r.next (left r false waits words))
