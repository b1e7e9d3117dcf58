-- The compiled program decides as the source clauses do.
use Rattle.std.specs.Prelude.{◌≡◌, ℕ, List, [], map, Option, Some, None}
use Rattle.fcp_model.specs.Places.{Variable, own}
use Rattle.fcp_model.specs.Terms.{Bindings}
use Rattle.fcp_model.specs.Programs.{Goal, rename_goal, Clause, Procedure, Program}
use Rattle.fcp_model.specs.Decisions.{Decision, commits, decides_fail, waits_on, Decides}
use Rattle.fcp_model.specs.Cells.{clause_used, clause_cells}
use Rattle.machine_code.specs.declared.code.ClauseSize.{ClauseSize}
use Rattle.machine_code.specs.Machine.{Meaning, Entrance, Compiled, Means}

-- the body of the clause by which a goal commits, over the clause's own variables
abbrev pub body_used : Option Clause → List (Goal Variable)
body_used None = []
body_used (Some c) = map (rename_goal own) c.body

-- the children of a decision
abbrev pub children_by : Program → Goal Variable → Decision → List (Goal Variable)
children_by m g (commits k bs rs) = body_used (clause_used m g k)
children_by m g (decides_fail rs) = []
children_by m g (waits_on rs) = []

-- a decision with its children, by the source clauses
abbrev pub decision_of : Program → Goal Variable → Decision → Meaning
decision_of m g d = record { decision = d; children = children_by m g d }

-- over every map of bindings, each call means exactly what is decided for it: the clause, its bindings in order, its children,
-- and what the tries read
pub record MeansSource (m : Program) (code : Compiled) : Type 0 where
  pub only : (s : Bindings) (g : Goal Variable) (d : Meaning) → Means code s g d
      → (e : Decision) × Decides m s g e × (d ≡ decision_of m g e)
  pub all : (s : Bindings) (g : Goal Variable) (e : Decision) → Decides m s g e → Means code s g (decision_of m g e)

-- the numbers of a clause's variables and of the cells of a commit by it
abbrev pub clause_size : Clause → ClauseSize
clause_size c = record { vars = c.vars; cells = clause_cells c }

-- what is known of a procedure: its name, its number of arguments, and the sizes of its clauses; in code, and in the source
abbrev pub facts_in_code : Entrance → ℕ × ℕ × List ClauseSize
facts_in_code e = (e.name, e.arity, e.clauses)

abbrev pub facts_in_source : Procedure → ℕ × ℕ × List ClauseSize
facts_in_source d = (d.name, d.arity, map clause_size d.clauses)

-- each procedure by number has the source's name and number of arguments, and of each of its clauses the number of variables
-- and the cells of a commit by it
abbrev pub NamesSource : Program → Compiled → Type 0
NamesSource m code = map facts_in_code code.procedures ≡ map facts_in_source m
