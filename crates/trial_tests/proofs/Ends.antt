-- How a test ends, and what it read.
use Rattle.std.proofs.Common.{◌≡◌, ℕ, List, [], ◌∷◌, ◌++◌, Some, refl, ap, ◌∙◌, subst}
use Rattle.fcp_model.specs.Places.{Variable}
use Rattle.fcp_model.specs.Tests.{holds, fails, pauses}
use Rattle.fcp_model.specs.Tests as tests
use Rattle.heap_words.specs.Trails.{Memory}
use Rattle.word_states.specs.Denoting.{Addresses, Listed}
use Rattle.word_states.specs.Pieces.{with_own, with_variables}
use Rattle.unify_terms.specs.WordsOfTries.{memory_of, naming}
use Rattle.unify_terms.proofs.NamesOfPlaces.{place_listed}
use Rattle.guard_tests.specs.declared.equality.Tested.{Tested}
use Rattle.guard_tests.specs.Guards.{ArePlaces, TestsAs, test_answer, tested_reads}
use Rattle.machine_code.specs.Slots.{built}
use Rattle.machine_code.specs.Machine.{test_of_kind}
use Rattle.trial_laws.specs.AtHand.{AreCalled}
use Rattle.trial_laws.proofs.Seen.{sees, stands}
use Rattle.trial_tests.specs.Tested.{ended_as, IsTested, LawOfTested}
use Rattle.trial_tests.proofs.Sides.{sides_test}

own_end : (e : tests.Tested) → e ≡ ended_as (test_answer e) (tested_reads e)
own_end (holds vs) = refl
own_end (fails vs) = refl
own_end (pauses vs) = refl

ends_as : (e : tests.Tested) (d : Tested) → test_answer e ≡ d → e ≡ ended_as d (tested_reads e)
ends_as e d h = subst (λ (z : Tested). e ≡ ended_as z (tested_reads e)) h (own_end e)

-- addresses of places are called as the listed variables
are_called : (m : Memory) (us : Addresses) (as' : List ℕ) (vs : List Variable) → ArePlaces (naming us) m as' vs → AreCalled us as' vs
are_called m us [] [] h = tt
are_called m us (a ∷ as') (v ∷ vs) h =
    (subst (λ (z : Variable). Listed us z a) h.0.1 (place_listed us a h.0.0), are_called m us as' vs h.1)
are_called m us [] (v ∷ vs) h = absurd h
are_called m us (a ∷ as') [] h = absurd h

pub tested_so : LawOfTested
tested_so w vs bound r t store formed s k left right d reads sides tested =
    go (tested (naming (with_variables r.pieces vs)) (sees w vs bound r t store formed s).names _ (stands w vs bound r t store formed s)
    t.behind _ (sides_test w vs bound r t store formed s left right k sides))
  where
    go : TestsAs (naming (with_variables r.pieces vs)) (memory_of (with_own r.pieces w)) r.binds (bound ++ t.bound) t.behind r.reads
        (test_of_kind k (built t.slots [] left) (built t.slots [] right)) d reads
        → IsTested vs bound r t k left right d reads
    go e = record {
      more = e.reads.more;
      read = e.reads.read;
      variables = tested_reads e.end;
      called = are_called (memory_of (with_own r.pieces w)) (with_variables r.pieces vs) e.reads.more (tested_reads e.end) e.reads.places;
      gives = (e.steps, e.by_steps ∙ ap (λ (z : tests.Tested). Some z) (ends_as e.end d e.answer));
    }
