-- Examples: a program, a goal and controls, and the report of their run by one worker.
use Rattle.std.specs.Prelude.{◌≡◌, ℕ, List, [], ◌∷◌, ◌++◌, length, Option, Some, pos, codes}
use Rattle.fcp_model.specs.declared.run.Limits.{Limits}
use Rattle.fcp_model.specs.declared.run.Control.{Control}
use Rattle.fcp_model.specs.declared.run.Outcome.{Outcome}
use Rattle.fcp_model.specs.declared.run.Entry.{Entry}
use Rattle.fcp_model.specs.declared.names.Sym.{Sym}
use Rattle.fcp_model.specs.Places.{placed}
use Rattle.fcp_model.specs.Terms.{Term, number, string, tuple, var, none, more}
use Rattle.fcp_model.specs.Value.{Look, Values}
use Rattle.fcp_model.specs.Tests.{Test}
use Rattle.fcp_model.specs.Programs.{Goal, Clause, Procedure, Program}
use Rattle.fcp_model.specs.States.{start}
use Rattle.fcp_model.specs.Events.{Event}
use Rattle.fcp_model.specs.Runs.{entries_of}
use Rattle.fcp_model.specs.OneWorker.{Schedule, IsOneWorkerRun}
use Rattle.fcp_model.specs.Outcomes.{Ends}
use Rattle.fcp_model.specs.ReportText.{goal_variables}
use Rattle.fcp_model.specs.Reports.{IsOneWorkerReport}
use Rattle.fcp_model.specs.Spelling.{Bytes}

-- a program, a goal with its variables, limits and controls
pub record Example : Type 0 where
  pub program : Program
  pub variables : List (Option Sym)
  pub goal : List (Goal ℕ)
  pub limits : Limits
  pub controls : List Control

-- the strings of all examples, by number
abbrev pub names : List Bytes
names =
    codes "a" ∷ codes "b" ∷ codes "c" ∷ codes "f" ∷ codes "p" ∷ codes "q" ∷ codes "r"
    ∷ codes "X" ∷ codes "Y" ∷ codes "Z" ∷ codes "R" ∷ codes "L" ∷ codes "S" ∷ codes "it's so" ∷ []

-- the string `a`
abbrev pub a : Term ℕ
a = string 0

-- the string `b`
abbrev pub b : Term ℕ
b = string 1

-- the string `c`
abbrev pub c : Term ℕ
c = string 2

-- the string `it's so`
abbrev pub it's_so : Term ℕ
it's_so = string 13

-- `f(T)`
abbrev pub f : Term ℕ → Term ℕ
f t = tuple (more (string 3) (more t none))

-- the name `p`, by its number
abbrev pub p : ℕ
p = 4

-- the name `q`, by its number
abbrev pub q : ℕ
q = 5

-- the name `r`, by its number
abbrev pub r : ℕ
r = 6

-- the name of a variable `X`
abbrev pub X : Option Sym
X = Some (record { 0 = 7 })

-- the name of a variable `Y`
abbrev pub Y : Option Sym
Y = Some (record { 0 = 8 })

-- the name of a variable `Z`
abbrev pub Z : Option Sym
Z = Some (record { 0 = 9 })

-- the name of a variable `R`
abbrev pub R : Option Sym
R = Some (record { 0 = 10 })

-- the name of a variable `L`
abbrev pub L : Option Sym
L = Some (record { 0 = 11 })

-- the name of a variable `S`
abbrev pub S : Option Sym
S = Some (record { 0 = 12 })

-- a whole number in a source term
abbrev pub int : ℕ → Term ℕ
int n = number (pos n)

-- a clause of so many variables without guard and body
abbrev pub fact : ℕ → List (Term ℕ) → Clause
fact vars args = record { vars = vars; args = args; guard = []; body = [] }

-- a clause with a guard and a body
abbrev pub rule : ℕ → List (Term ℕ) → List (Test ℕ) → List (Goal ℕ) → Clause
rule vars args guard body = record { vars = vars; args = args; guard = guard; body = body }

-- a procedure by the number of its name, its number of arguments and its clauses
abbrev pub procedure : ℕ → ℕ → List Clause → Procedure
procedure name arity clauses = record { name = name; arity = arity; clauses = clauses }

-- the limits where none is asked for
abbrev pub wide : Limits
wide = record { commits = 1000000; moves = 1000000; cells = 8000000 }

-- an example with these limits and no controls
abbrev pub example : Program → List (Option Sym) → List (Goal ℕ) → Example
example m vs g = record { program = m; variables = vs; goal = g; limits = wide; controls = [] }

-- the lines of a text, each ended by a line feed
abbrev pub lines : List Bytes → Bytes
lines [] = []
lines (l ∷ ls) = l ++ codes "\n" ++ lines ls

-- the report of the example's run by one worker has these lines, and the run has this outcome
abbrev pub Prints : Example → Outcome → List Bytes → Type 0
Prints e o ls =
    IsOneWorkerReport e.program (start (length e.variables) e.goal) e.limits e.controls names (goal_variables e.variables) o (lines ls)

-- the run of the example by one worker has these entries, it has this outcome, and the goal's first variable comes to this value
pub record Logs (e : Example) (o : Outcome) (entries : List Entry) (look : Look) : Type 0 where
  pub events : List Event
  pub last : Schedule
  pub run : IsOneWorkerRun e.program e.limits (start (length e.variables) e.goal) e.controls events last
  pub entered : entries_of events ≡ entries
  pub outcome : Ends e.program e.limits (start (length e.variables) e.goal) events o
  pub comes_to : Values last.state.bound (var (placed 0 1)) look
