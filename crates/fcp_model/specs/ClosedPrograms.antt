-- The variables that terms and goals mention, and programs each of whose variables is one of its clause.
use Rattle.std.specs.Prelude.{◌≡◌, ℕ, ◌≤◌, ◌⊎◌, List, [], ◌∷◌}
use Rattle.fcp_model.specs.Terms.{Term, number, string, nil, cons, tuple, var, ro, first, Terms, none, more}
use Rattle.fcp_model.specs.Expressions.{Expr, leaf, op}
use Rattle.fcp_model.specs.Tests.{Test, always, otherwise, kind, same, not_same, ordered}
use Rattle.fcp_model.specs.Programs.{Goal, user, true', unifies, assigns, Clause, Procedure, Program}

-- each variable of a term has the property P, and the term has no mark of a first occurrence
abbrev mutual
  pub Over : {V : Type 0} → (V → Type 0) → Term V → Type 0
  Over P (number z) = Unit {0}
  Over P (string s) = Unit {0}
  Over P nil = Unit {0}
  Over P (cons a b) = Over P a × Over P b
  Over P (tuple ts) = PartsOver P ts
  Over P (var v) = P v
  Over P (ro v) = P v
  Over P (first k) = ⊥

  pub PartsOver : {V : Type 0} → (V → Type 0) → Terms V → Type 0
  PartsOver P none = Unit {0}
  PartsOver P (more t ts) = Over P t × PartsOver P ts

-- the same of each term of a list
abbrev pub AllOver : {V : Type 0} → (V → Type 0) → List (Term V) → Type 0
AllOver P [] = Unit {0}
AllOver P (t ∷ ts) = Over P t × AllOver P ts

-- of each leaf of an expression
abbrev pub ExprOver : {V : Type 0} → (V → Type 0) → Expr V → Type 0
ExprOver P (leaf t) = Over P t
ExprOver P (op o a b) = ExprOver P a × ExprOver P b

-- of each term of a test
abbrev pub TestOver : {V : Type 0} → (V → Type 0) → Test V → Type 0
TestOver P always = Unit {0}
TestOver P otherwise = Unit {0}
TestOver P (kind k t) = Over P t
TestOver P (same t u) = Over P t × Over P u
TestOver P (not_same t u) = Over P t × Over P u
TestOver P (ordered o a b) = ExprOver P a × ExprOver P b

-- of each test of a list
abbrev pub TestsOver : {V : Type 0} → (V → Type 0) → List (Test V) → Type 0
TestsOver P [] = Unit {0}
TestsOver P (t ∷ ts) = TestOver P t × TestsOver P ts

-- of each term of a goal
abbrev pub GoalOver : {V : Type 0} → (V → Type 0) → Goal V → Type 0
GoalOver P (user p ts) = AllOver P ts
GoalOver P true' = Unit {0}
GoalOver P (unifies t u) = Over P t × Over P u
GoalOver P (assigns t e) = Over P t × ExprOver P e

-- of each goal of a list
abbrev pub GoalsOver : {V : Type 0} → (V → Type 0) → List (Goal V) → Type 0
GoalsOver P [] = Unit {0}
GoalsOver P (g ∷ gs) = GoalOver P g × GoalsOver P gs

-- a variable's number, from 1 to vars
abbrev pub IsNumbered : ℕ → ℕ → Type 0
IsNumbered vars k = (1 ≤ k) × (k ≤ vars)

-- each variable of the clause is one of its own
pub record IsClosedClause (c : Clause) : Type 0 where
  pub args : AllOver (IsNumbered c.vars) c.args
  pub guard : TestsOver (IsNumbered c.vars) c.guard
  pub body : GoalsOver (IsNumbered c.vars) c.body

-- each clause of some clauses is closed
abbrev pub AreClosed : List Clause → Type 0
AreClosed [] = Unit {0}
AreClosed (c ∷ cs) = IsClosedClause c × AreClosed cs

-- each clause of the program is closed
abbrev pub IsClosed : Program → Type 0
IsClosed [] = Unit {0}
IsClosed (d ∷ ds) = AreClosed d.clauses × IsClosed ds
