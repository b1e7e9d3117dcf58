-- Programs: procedures, clauses and goals.
use Rattle.std.specs.Prelude.{ℕ, List, [], map, Some, None, slice_get, nat_eq, if◌then◌else◌}
use Rattle.fcp_model.specs.Terms.{Term, rename}
use Rattle.fcp_model.specs.Expressions.{Expr, rename_expr}
use Rattle.fcp_model.specs.Tests.{Test}

-- a goal: a call of a procedure, by its number from 0, or a built-in process
pub data Goal (V : Type 0) : Type 0 where
  user : ℕ → List (Term V) → Goal V
  true' : Goal V
  unifies : Term V → Term V → Goal V
  assigns : Term V → Expr V → Goal V

-- a clause of so many variables, which are numbered from 1 in order of first occurrence in its text
pub record Clause : Type 0 where
  pub vars : ℕ
  pub args : List (Term ℕ)
  pub guard : List (Test ℕ)
  pub body : List (Goal ℕ)

-- a name, by its number, with a number of arguments, and its clauses in the order of the text
pub record Procedure : Type 0 where
  pub name : ℕ
  pub arity : ℕ
  pub clauses : List Clause

-- the procedures by number
abbrev pub Program : Type 0
Program = List Procedure

-- the goal with each variable as f gives it
abbrev pub rename_goal : {V W : Type 0} → (V → W) → Goal V → Goal W
rename_goal f (user p ts) = user p (map (rename f) ts)
rename_goal f true' = true'
rename_goal f (unifies t u) = unifies (rename f t) (rename f u)
rename_goal f (assigns t e) = assigns (rename f t) (rename_expr f e)

-- the clauses for a call of a procedure with so many arguments: none where the program lacks the procedure, or where it
-- has another number of arguments
abbrev pub clauses_of : Program → ℕ → ℕ → List Clause
clauses_of m p n = elim (slice_get m p) [ None ↦ [] | Some d ↦ if nat_eq d.arity n then d.clauses else [] ]
