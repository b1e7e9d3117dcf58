-- The laws of tests, and of the tries that they leave.
use Rattle.std.specs.Prelude.{◌≡◌, ℕ, suc, ◌<◌, false, List, Some, slice_get}
use Rattle.heap_words.specs.Trails.{WordList}
use Rattle.heap_words.specs.declared.steps.TestKind.{TestKind}
use Rattle.guard_tests.specs.declared.equality.Tested.{Tested}
use Rattle.guard_tests.specs.declared.equality.Tested.TheVariants.{Holds, Not, Wait}
use Rattle.guard_tests.specs.Guards.{AreTested}
use Rattle.guard_tests.specs.Opened.{ReadsOpen}
use Rattle.word_states.specs.Words.{IsIn}
use Rattle.machine_code.specs.Slots.{Step}
use Rattle.machine_code.specs.Instructions.{Test, Otherwise}
use Rattle.machine_code.specs.Sound.{HasSides}
use Rattle.machine_code.specs.Fresh.{no_tops}
use Rattle.trial_laws.specs.AtHand.{AtHand}
use Rattle.trial_laws.specs.Laws.{AreNoted, left}
use Rattle.trial_tests.specs.Tested.{word_steps}
use Rattle.safe_tries.specs.Safe.{IsSafe, SawOpen, own_words}
use Rattle.steady_tries.specs.Steady.{IsSteady, Steadily, base_of, IsBetween}
use Rattle.steady_tries.specs.Opens.{Everywhere}

-- The two sides of a test, on the words of slots, have this answer after these reads; and what the test read was seen unbound.
pub record TestsAt (kept : WordList) (r : AtHand) (k : TestKind) (left right : List Step) (d : Tested) (rs : List ℕ) : Type 0 where
  pub tested : Everywhere kept r (λ m. AreTested m r.binds r.reads k (word_steps r left) (word_steps r right) d rs)
  pub opened : ReadsOpen r.binds kept (own_words r.pieces) r.reads rs

-- The test holds: the slots hold the arguments again, and of the pieces the first n stay.
abbrev pub SteadyHolds : Type 0
SteadyHolds = Steadily (λ c kept at n r. (k : TestKind) (x y : List Step) (rs : List ℕ) → slice_get c.ops at ≡ Some (Test k x y)
    → HasSides k x y → TestsAt kept r k x y Holds rs → IsSteady c kept (suc at) n (record (base_of c n r) { reads = rs }))

-- it fails or waits, and the try is left, once it is safe to hold nothing but the arguments
abbrev pub SteadyFails : Type 0
SteadyFails = Steadily (λ c kept at n r. (k : TestKind) (x y : List Step) (rs waits : List ℕ) → slice_get c.ops at ≡ Some (Test k x y)
    → HasSides k x y → TestsAt kept r k x y Not rs → AreNoted r.waits rs waits
    → IsSafe kept (left r r.behind waits c.words) no_tops 0 → IsBetween c kept r.next (left r r.behind waits c.words))

abbrev pub SteadyWaits : Type 0
SteadyWaits = Steadily (λ c kept at n r. (k : TestKind) (x y : List Step) (rs waits : List ℕ) → slice_get c.ops at ≡ Some (Test k x y)
    → HasSides k x y → TestsAt kept r k x y Wait rs → AreNoted r.waits rs waits
    → IsSafe kept (left r false waits c.words) no_tops 0 → IsBetween c kept r.next (left r false waits c.words))

-- each of the store's places that the test read was seen unbound, and so was what the try read before
abbrev pub TestedReads : Type 0
TestedReads = Steadily (λ c kept at n r. (k : TestKind) (x y : List Step) (d : Tested) (rs : List ℕ) → TestsAt kept r k x y d rs
    → (a : ℕ) → IsIn a rs → a < 4000000000 → SawOpen kept r a)

-- `otherwise` waits for what other tries wait for
abbrev pub SteadyNotOtherwise : Type 0
SteadyNotOtherwise = Steadily (λ c kept at n r. (waits : List ℕ) → slice_get c.ops at ≡ Some Otherwise → r.behind ≡ false
    → AreNoted r.waits r.reads waits → IsSafe kept (left r false waits c.words) no_tops 0
    → IsBetween c kept r.next (left r false waits c.words))
