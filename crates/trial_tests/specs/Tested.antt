-- The tests of a try on words: what they give is what the meaning of code asks.
use Rattle.std.specs.Prelude.{◌≡◌, ℕ, List, ◌++◌, map}
use Rattle.fcp_model.specs.Places.{Variable}
use Rattle.fcp_model.specs.Terms.{Bindings}
use Rattle.fcp_model.specs.Tests.{holds, fails, pauses}
use Rattle.fcp_model.specs.Tests as tests
use Rattle.heap_words.specs.declared.steps.ExprStep.{ExprStep}
use Rattle.heap_words.specs.declared.steps.ExprStep.TheVariants.{Push, Apply}
use Rattle.heap_words.specs.declared.steps.TestKind.{TestKind}
use Rattle.word_states.specs.Words.{Words}
use Rattle.word_states.specs.Denoting.{Addresses}
use Rattle.word_states.specs.Pieces.{with_own, with_variables}
use Rattle.unify_terms.specs.WordsOfTries.{memory_of}
use Rattle.guard_tests.specs.declared.equality.Tested.{Tested}
use Rattle.guard_tests.specs.declared.equality.Tested.TheVariants.{Holds, Not, Wait}
use Rattle.guard_tests.specs.Guards.{AreTested}
use Rattle.machine_code.specs.Slots.{Step, push, apply}
use Rattle.machine_code.specs.Instructions.{Test}
use Rattle.machine_code.specs.Machine.{Trying}
use Rattle.machine_code.specs.Sound.{HasSides}
use Rattle.trial_laws.specs.AtHand.{AtHand, term_word, ArePieces, AreCalled, IsStore, StandsForTry}
use Rattle.trial_laws.specs.Testing.{TestGives}

-- a step over slots as one over words: a slot gives the word of its term
abbrev pub word_step : AtHand → Step → ExprStep
word_step r (push i) = Push (term_word r i)
word_step r (apply o) = Apply o

-- so each step of a side
abbrev pub word_steps : AtHand → List Step → List ExprStep
word_steps r ss = map (word_step r) ss

-- what a test of terms gives, by the answer for its words and the variables that it read
abbrev pub ended_as : Tested → List Variable → tests.Tested
ended_as Holds qs = holds qs
ended_as Not qs = fails qs
ended_as Wait qs = pauses qs

-- The test of the code ends as the one on words did, after it read the variables of the places that were read there.
pub record IsTested (vs : Addresses) (bound : Bindings) (r : AtHand) (t : Trying) (k : TestKind) (left right : List Step) (d : Tested)
    (reads : List ℕ) : Type 0 where
  -- the places that the test read, and their variables
  pub more : List ℕ
  pub read : reads ≡ r.reads ++ more
  pub variables : List Variable
  pub called : AreCalled (with_variables r.pieces vs) more variables
  -- how the test of the code ends
  pub gives : TestGives bound t (Test k left right) (ended_as d variables)

-- so for each store and each try, where the sides have the form of the test's kind
abbrev pub LawOfTested : Type 0
LawOfTested = (w : Words) (vs : Addresses) (bound : Bindings) (r : AtHand) (t : Trying) → IsStore w vs bound → ArePieces r.pieces
    → StandsForTry w vs bound r t → (k : TestKind) (left right : List Step) (d : Tested) (reads : List ℕ) → HasSides k left right
    → AreTested (memory_of (with_own r.pieces w)) r.binds r.reads k (word_steps r left) (word_steps r right) d reads
    → IsTested vs bound r t k left right d reads
