-- How a trial begins, how a try begins, and how it is left.
use Rattle.std.specs.Prelude.{◌≡◌, ℕ, suc, ◌<◌, true, false, [], Some, slice_get}
use Rattle.heap_words.specs.Trails.{WordList, word_at}
use Rattle.machine_code.specs.Instructions.{Try}
use Rattle.machine_code.specs.Fresh.{no_tops, IsFresh}
use Rattle.trial_laws.specs.AtHand.{AtHand}
use Rattle.trial_laws.specs.Laws.{begun}
use Rattle.safe_tries.specs.Safe.{IsSafe}
use Rattle.safe_tries.specs.Loads.{Kept}
use Rattle.steady_tries.specs.Steady.{Course, IsCourse, IsSteady, Steadily, IsBetween}

-- nothing is at hand but the arguments, and all tries so far failed
abbrev pub at_start : Course → AtHand
at_start c = record {
  clause = 0;
  next = 0;
  behind = true;
  slots = c.words;
  operators = λ i. false;
  pieces = [];
  binds = [];
  reads = [];
  waits = [];
}

-- before the first try
abbrev pub SteadyStart : Type 0
SteadyStart = (c : Course) (kept : WordList) → IsCourse c kept → IsSafe kept (at_start c) no_tops 0 → IsFresh c.ops c.start no_tops 0
    → IsBetween c kept c.start (at_start c)

-- a try of a clause begins, with a place for each of its variables
abbrev pub SteadyTry : Type 0
SteadyTry = (c : Course) (kept : WordList) (at : ℕ) (r : AtHand) (k next : ℕ) → IsCourse c kept → IsBetween c kept at r
    → slice_get c.ops at ≡ Some (Try k next) → c.vars k < 256 → IsSteady c kept (suc at) (c.vars k) (begun r k next (c.vars k) c.words)

-- more was kept
abbrev pub CourseMore : Type 0
CourseMore = (c : Course) (kept kept' : WordList) → ((a x : ℕ) → word_at kept a ≡ Some x → word_at kept' a ≡ Some x) → IsCourse c kept
    → IsCourse c kept'

abbrev pub SteadyMore : Type 0
SteadyMore = Steadily (λ c kept at n r. (kept' : WordList) → Kept kept r kept' → IsSteady c kept' at n r)
