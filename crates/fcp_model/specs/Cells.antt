-- The cells of an entry, in which the size of a run is limited.
use Rattle.std.specs.Prelude.{ℕ, zero, suc, ◌+◌, ◌*◌, length, sum_by, Option, Some, None, slice_get}
use Rattle.fcp_model.specs.Places.{Variable, places_among}
use Rattle.fcp_model.specs.Terms.{Term, number, string, nil, cons, tuple, var, ro, first, Terms, none, more}
use Rattle.fcp_model.specs.Expressions.{Expr, leaf, op}
use Rattle.fcp_model.specs.Programs.{Goal, user, true', unifies, assigns, Clause, Program, clauses_of}
use Rattle.fcp_model.specs.Decisions.{Decision, commits, decides_fail, waits_on}

-- 3 for a pair, one more than its parts for a tuple, 1 for a number, with the cells of the parts
abbrev mutual
  pub term_cells : Term ℕ → ℕ
  term_cells (number z) = 1
  term_cells (cons a b) = 3 + term_cells a + term_cells b
  term_cells (tuple ts) = 1 + terms_cells ts
  term_cells (string s) = 0
  term_cells nil = 0
  term_cells (var k) = 0
  term_cells (ro k) = 0
  term_cells (first k) = 0

  pub terms_cells : Terms ℕ → ℕ
  terms_cells none = 0
  terms_cells (more t ts) = 1 + term_cells t + terms_cells ts

-- 3 for each operator
abbrev pub expr_cells : Expr ℕ → ℕ
expr_cells (leaf t) = term_cells t
expr_cells (op o a b) = 3 + expr_cells a + expr_cells b

-- 4 and the number of arguments for a body item; `=` and `:=` have 2
abbrev pub goal_cells : Goal ℕ → ℕ
goal_cells (user p ts) = 4 + length ts + sum_by term_cells ts
goal_cells true' = 4
goal_cells (unifies t u) = 6 + term_cells t + term_cells u
goal_cells (assigns t e) = 6 + term_cells t + expr_cells e

-- 2 for each variable, and the cells of head and body; a guard has none
abbrev pub clause_cells : Clause → ℕ
clause_cells c = 2 * c.vars + sum_by term_cells c.args + sum_by goal_cells c.body

-- the clause by which a goal commits, numbered from 1; a built-in process has none
abbrev pub clause_used : Program → Goal Variable → ℕ → Option Clause
clause_used m (user p args) (suc k) = slice_get (clauses_of m p (length args)) k
clause_used m (user p args) zero = None
clause_used m true' k = None
clause_used m (unifies t u) k = None
clause_used m (assigns t e) k = None

-- the cells of a commit by a clause, or of a built-in process
abbrev pub commit_cells : Option Clause → ℕ
commit_cells None = 1
commit_cells (Some c) = clause_cells c

-- the cells of the entry that is decided for a goal: 3 for each place on which it waits
abbrev pub cells : Program → Goal Variable → Decision → ℕ
cells m g (commits k bs rs) = commit_cells (clause_used m g k)
cells m g (waits_on rs) = 3 * length (places_among rs)
cells m g (decides_fail rs) = 0
