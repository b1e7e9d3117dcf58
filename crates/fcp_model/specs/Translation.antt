-- What a module and a goal, as they were read, are as a program and its goals.
use Rattle.std.specs.Prelude.{ℕ, zero, suc, List, [], ◌∷◌, map, filter, length, Option, Some, None, option_map, slice_get}
use Rattle.std.specs.List.{position_or_len, filter_map}
use Rattle.fcp_model.specs.declared.names.Sym.{Sym}
use Rattle.fcp_model.specs.declared.term.Term as source
use Rattle.fcp_model.specs.declared.term.Term.TheOpen.{Term-F}
use Rattle.fcp_model.specs.declared.term.Expr as source_expr
use Rattle.fcp_model.specs.declared.term.Expr.TheOpen.{Expr-F}
use Rattle.fcp_model.specs.declared.source.Call.{Call}
use Rattle.fcp_model.specs.declared.source.Call.TheVariants.{User, Unify, Assign, Same, NotSame, Compare}
use Rattle.fcp_model.specs.declared.source.Item.{Item}
use Rattle.fcp_model.specs.declared.source.Clause as read
use Rattle.fcp_model.specs.declared.source.Module as read_module
use Rattle.fcp_model.specs.declared.source.GoalText as read_goal
use Rattle.fcp_model.specs.declared.loaded.ProcedureName.{ProcedureName}
use Rattle.fcp_model.specs.ProcedureNames.{procedure_names, procedure_name, same_procedure}
use Rattle.fcp_model.specs.Terms.{Term, number, string, nil, cons, tuple, var, ro, Terms, none, more}
use Rattle.fcp_model.specs.Expressions.{Expr, leaf, op}
use Rattle.fcp_model.specs.Tests.{Kind, is_integer, is_string, is_constant, is_list, is_tuple, is_known, is_unknown, Test, always, otherwise, kind, same, not_same, ordered}
use Rattle.fcp_model.specs.Programs.{Goal, user, true', unifies, assigns, Clause, Procedure, Program}
use Rattle.fcp_model.specs.States.{State, start}

-- the parts of a tuple, from a list of them
abbrev pub terms_of : {V : Type 0} → List (Term V) → Terms V
terms_of [] = none
terms_of (t ∷ ts) = more t (terms_of ts)

-- one level of a term, with the parts already translated
abbrev pub term_step : Term-F (Term ℕ) → Term ℕ
term_step (Term-F.Int z) = number z
term_step (Term-F.Str s) = string s.0
term_step Term-F.Nil = nil
term_step (Term-F.Cons a b) = cons a b
term_step (Term-F.Tuple ts) = tuple (terms_of ts)
term_step (Term-F.Var k) = var k
term_step (Term-F.Ro k) = ro k

-- a term that was read as a term of the definitions
abbrev pub term_of : source.Term → Term ℕ
term_of = source.fold-Term (Term ℕ) term_step

-- one level of an expression, with the operands already translated
abbrev pub expr_step : Expr-F (Expr ℕ) → Expr ℕ
expr_step (Expr-F.Leaf t at) = leaf (term_of t)
expr_step (Expr-F.Op o a b) = op o a b

-- an expression that was read as one of the definitions; places in the text are left out
abbrev pub expr_of : source_expr.Expr → Expr ℕ
expr_of = source_expr.fold-Expr (Expr ℕ) expr_step

-- a procedure by its name and its number of arguments
abbrev pub name_with_arity : Sym → ℕ → ProcedureName
name_with_arity name arity = record { name = name; arity = arity }

-- a call: `true` with no argument is built in; else the number of its procedure, or the one past the last where the
-- module has none, which has no clause
abbrev pub user_goal : List ProcedureName → Sym → ℕ → List (Term ℕ) → Goal ℕ
user_goal hs name zero ts = elim name.0 [ zero ↦ true' | suc k ↦ user (position_or_len (same_procedure (name_with_arity name 0)) hs) ts ]
user_goal hs name (suc n) ts = user (position_or_len (same_procedure (name_with_arity name (suc n))) hs) ts

-- an item of a body or a goal; an item that is only a test calls no procedure
abbrev pub goal_of : List ProcedureName → Call → Goal ℕ
goal_of hs (User name args) = user_goal hs name (length args) (map term_of args)
goal_of hs (Unify a b) = unifies (term_of a) (term_of b)
goal_of hs (Assign a e) = assigns (term_of a) (expr_of e)
goal_of hs (Same a b) = user (length hs) []
goal_of hs (NotSame a b) = user (length hs) []
goal_of hs (Compare o a b) = user (length hs) []

-- the tests of the reserved names number 2 to 8
abbrev pub kinds : List Kind
kinds = is_integer ∷ is_string ∷ is_constant ∷ is_list ∷ is_tuple ∷ is_known ∷ is_unknown ∷ []

-- the test that a reserved name with its arguments is
abbrev pub reserved_test : ℕ → List (Term ℕ) → Option (Test ℕ)
reserved_test zero [] = Some always
reserved_test (suc zero) [] = Some otherwise
reserved_test (suc (suc k)) (t ∷ []) = option_map (λ x. kind x t) (slice_get kinds k)
reserved_test _ _ = None

-- an item of a guard, or None where it is no test
abbrev pub test_of : Call → Option (Test ℕ)
test_of (User name args) = reserved_test name.0 (map term_of args)
test_of (Same a b) = Some (same (term_of a) (term_of b))
test_of (NotSame a b) = Some (not_same (term_of a) (term_of b))
test_of (Compare o a b) = Some (ordered o (expr_of a) (expr_of b))
test_of (Unify a b) = None
test_of (Assign a e) = None

-- the goals of some items, in order
abbrev pub goals_of : List ProcedureName → List Item → List (Goal ℕ)
goals_of hs items = map (λ i. goal_of hs i.call) items

-- a clause; of its guard the tests alone
abbrev pub clause_of : List ProcedureName → read.Clause → Clause
clause_of hs c = record {
  vars = c.vars;
  args = map term_of c.args;
  guard = filter_map (λ i. test_of i.call) c.guard;
  body = goals_of hs c.body;
}

-- the clauses of a procedure, in the order of the text
abbrev pub clauses_called : List ProcedureName → ProcedureName → List read.Clause → List Clause
clauses_called hs h cs = map (clause_of hs) (filter (λ c. same_procedure h (procedure_name c)) cs)

-- a procedure with all its clauses, however scattered
abbrev pub procedure_of : List ProcedureName → List read.Clause → ProcedureName → Procedure
procedure_of hs cs h = record { name = h.name.0; arity = h.arity; clauses = clauses_called hs h cs }

-- the program of a module: its procedures in the order of their first heads
abbrev pub program_of : read_module.Module → Program
program_of m = map (procedure_of (procedure_names m.clauses) m.clauses) (procedure_names m.clauses)

-- the goals of a goal's text, for a module
abbrev pub started_goals : read_module.Module → read_goal.GoalText → List (Goal ℕ)
started_goals m g = goals_of (procedure_names m.clauses) g.items

-- the state before the first entry
abbrev pub start_of : read_module.Module → read_goal.GoalText → State
start_of m g = start (length g.names) (started_goals m g)
