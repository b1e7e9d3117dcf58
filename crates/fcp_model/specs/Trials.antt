-- The try of a clause.
use Rattle.std.specs.Prelude.{ℕ, Bool, List, [], ◌∷◌, ◌++◌, Option, Some, None}
use Rattle.fcp_model.specs.Places.{Variable, own}
use Rattle.fcp_model.specs.Terms.{Term, Bindings}
use Rattle.fcp_model.specs.Unification.{Ended, done, clash, wait, unify}
use Rattle.fcp_model.specs.Tests.{Test, rename_test, Tested, holds, fails, pauses, test}
use Rattle.fcp_model.specs.Programs.{Clause}
use Rattle.fcp_model.specs.HeadPairs.{head_pairs}

-- how a try ends, with the variables that it read unbound
pub data Tried : Type 0 where
  succeeds : Bindings → List Variable → Tried
  try_fails : List Variable → Tried
  try_waits : List Variable → Tried

-- behind one test: the next one, where it holds
abbrev pub test_on : (List Variable → Option Tried) → List Variable → Option Tested → Option Tried
test_on next rs None = None
test_on next rs (Some (holds qs)) = next (rs ++ qs)
test_on next rs (Some (fails qs)) = Some (try_fails (rs ++ qs))
test_on next rs (Some (pauses qs)) = Some (try_waits (rs ++ qs))

-- the tests from the left, under the bindings of the head: the first that does not hold ends the try
abbrev pub tests : ℕ → Bindings → Bindings → Bool → List Variable → List (Test ℕ) → Option Tried
tests n s bs behind rs [] = Some (succeeds bs rs)
tests n s bs behind rs (t ∷ ts) = test_on (λ qs. tests n s bs behind qs ts) rs (test n (s ++ bs) behind (rename_test own t))

-- behind the unification of the head: the guard, where it succeeded
abbrev pub guard_on : (Bindings → List Variable → Option Tried) → Option Ended → Option Tried
guard_on next None = None
guard_on next (Some (done bs rs)) = next bs rs
guard_on next (Some (clash rs)) = Some (try_fails rs)
guard_on next (Some (wait rs)) = Some (try_waits rs)

-- The try of a clause over the map s: its variables are new, the head is unified with the goal's arguments, then come
-- the tests. `behind` says that the tries of all earlier clauses fail.
abbrev pub attempt : ℕ → Bindings → Clause → List (Term Variable) → Bool → Option Tried
attempt n s c args behind = guard_on (λ bs rs. tests n s bs behind rs c.guard) (unify n s [] [] (head_pairs 0 args c.args))
