-- What is decided for a goal.
use Rattle.std.specs.Prelude.{◌≡◌, ℕ, suc, Bool, true, false, List, [], ◌∷◌, ◌++◌, length, Option, Some, None, if◌then◌else◌, ℤ, option_map}
use Rattle.fcp_model.specs.Places.{Variable}
use Rattle.fcp_model.specs.Terms.{Term, number, Bindings}
use Rattle.fcp_model.specs.Unification.{Ended, done, clash, wait, unify}
use Rattle.fcp_model.specs.Expressions.{Evaluated, gives, bad, unready, eval}
use Rattle.fcp_model.specs.Programs.{Goal, user, true', unifies, assigns, Clause, Program, clauses_of}
use Rattle.fcp_model.specs.Trials.{Tried, succeeds, try_fails, try_waits, attempt}

-- A decision, with the variables that any try read unbound, in order: the commit by a clause, from 1, or as a built-in
-- process, 0, with the bindings of that try; the fail; or the wait for the places among those that were read.
pub data Decision : Type 0 where
  commits : ℕ → Bindings → List Variable → Decision
  decides_fail : List Variable → Decision
  waits_on : List Variable → Decision

-- behind the try of clause k: it commits, or the next clause is tried, with the reads of all tries so far
abbrev pub choose_on : (Bool → List Variable → Option Decision) → ℕ → Bool → List Variable → Option Tried → Option Decision
choose_on next k behind rs None = None
choose_on next k behind rs (Some (succeeds bs qs)) = Some (commits k bs (rs ++ qs))
choose_on next k behind rs (Some (try_fails qs)) = next behind (rs ++ qs)
choose_on next k behind rs (Some (try_waits qs)) = next false (rs ++ qs)

-- The clauses from the k-th on: the first whose try succeeds, whatever waited before it. With none the goal fails where
-- all tries fail, and else it waits. `behind` says that all earlier tries failed.
abbrev pub choose : ℕ → Bindings → List (Term Variable) → ℕ → Bool → List Variable → List Clause → Option Decision
choose n s args k behind rs [] = Some (if behind then decides_fail rs else waits_on rs)
choose n s args k behind rs (c ∷ cs) = choose_on (λ b qs. choose n s args (suc k) b qs cs) k behind rs (attempt n s c args behind)

-- the decision of a built-in process that unifies
abbrev pub built_in : List Variable → Ended → Decision
built_in rs (done bs qs) = commits 0 bs (rs ++ qs)
built_in rs (clash qs) = decides_fail (rs ++ qs)
built_in rs (wait qs) = waits_on (rs ++ qs)

-- `A := E` evaluates E, and then unifies A with the number
abbrev pub assign_on : (ℤ → Option Decision) → Option Evaluated → Option Decision
assign_on go None = None
assign_on go (Some (gives z)) = go z
assign_on go (Some bad) = Some (decides_fail [])
assign_on go (Some (unready rs)) = Some (waits_on rs)

-- what is decided for a goal over the map s, or None where n steps are too few
abbrev pub decide : ℕ → Program → Bindings → Goal Variable → Option Decision
decide n m s (user p args) = choose n s args 1 true [] (clauses_of m p (length args))
decide n m s true' = Some (commits 0 [] [])
decide n m s (unifies t u) = option_map (built_in []) (unify n s [] [] ((t, u) ∷ []))
decide n m s (assigns t e) = assign_on (λ z. option_map (built_in []) (unify n s [] [] ((t, number z) ∷ []))) (eval n s e)

-- the decision, by some number of steps
abbrev pub Decides : Program → Bindings → Goal Variable → Decision → Type 0
Decides m s g d = (n : ℕ) × (decide n m s g ≡ Some d)
