-- The code of clauses, procedures and programs.
use Rattle.std.specs.Prelude.{ℕ, suc, ◌+◌, List, [], ◌∷◌, ◌++◌, length, map, Option, Some, None, slice_get}
use Rattle.fcp_model.specs.Terms.{Term}
use Rattle.fcp_model.specs.declared.term.CompareOp.{CompareOp}
use Rattle.fcp_model.specs.declared.term.CompareOp.TheVariants as compared
use Rattle.heap_words.specs.declared.steps.TestKind.{TestKind}
use Rattle.heap_words.specs.declared.steps.TestKind.TheVariants as kinds
use Rattle.fcp_model.specs.declared.goal.TheConstants.{TRUE_PROCEDURE, UNIFY_PROCEDURE, ASSIGN_PROCEDURE}
use Rattle.fcp_model.specs.Tests.{Kind, is_integer, is_string, is_constant, is_list, is_tuple, is_known, is_unknown, Test, always, otherwise, kind, same, not_same, ordered}
use Rattle.fcp_model.specs.Programs.{Goal, user, true', unifies, assigns, Clause, Program}
use Rattle.fcp_model.specs.declared.names.Sym.{Sym}
use Rattle.fcp_model.specs.declared.term.Term as source
use Rattle.fcp_model.specs.declared.source.Clause as read
use Rattle.fcp_model.specs.declared.source.Module.{Module}
use Rattle.fcp_model.specs.ProcedureNames.{procedure_names}
use Rattle.fcp_model.specs.Translation.{term_of, terms_of, user_goal, clause_of}
use Rattle.machine_code.specs.Slots.{push}
use Rattle.machine_code.specs.Instructions as ins
use Rattle.machine_code.specs.Instructions.{Op, Try, Jump, Otherwise, Spawn, Commit}
use Rattle.machine_code.specs.Machine.{Entrance, Compiled}
use Rattle.machine_code.specs.Correct.{clause_size}
use Rattle.head_code.specs.TermCode.{put, puts}
use Rattle.clause_compiler.specs.ExprCode.{put_expr, leaves, put_leaves, steps}
use Rattle.head_code.specs.HeadCode.{joined, head_code}

-- the test of one operand
abbrev pub kind_test : Kind → TestKind
kind_test is_integer = kinds.Integer
kind_test is_string = kinds.String
kind_test is_constant = kinds.Constant
kind_test is_list = kinds.List
kind_test is_tuple = kinds.Tuple
kind_test is_known = kinds.Known
kind_test is_unknown = kinds.Unknown

-- the test that compares
abbrev pub order_test : CompareOp → TestKind
order_test compared.Less = kinds.Less
order_test compared.AtMost = kinds.AtMost
order_test compared.Greater = kinds.Greater
order_test compared.AtLeast = kinds.AtLeast
order_test compared.Equal = kinds.Equal
order_test compared.NotEqual = kinds.NotEqual

-- two terms in the slots n and n + 1, and a test of them
abbrev pub pair_test : ℕ → TestKind → Term ℕ → Term ℕ → List Op
pair_test n k t u = put n (suc (suc n)) t ++ (put (suc n) (suc (suc n)) u ++ ins.Test k (push n ∷ []) (push (suc n) ∷ []) ∷ [])

-- the code of a test; the slots from n on are free
abbrev pub test_code : ℕ → Test ℕ → List Op
test_code n always = ins.Test kinds.True [] [] ∷ []
test_code n otherwise = Otherwise ∷ []
test_code n (kind k t) = put n (suc n) t ++ ins.Test (kind_test k) (push n ∷ []) [] ∷ []
test_code n (same t u) = pair_test n kinds.Same t u
test_code n (not_same t u) = pair_test n kinds.NotSame t u
test_code n (ordered o a b) =
    put_leaves n (n + leaves a + leaves b) a
    ++ (put_leaves (n + leaves a) (n + leaves a + leaves b) b ++ ins.Test (order_test o) (steps n a) (steps (n + leaves a) b) ∷ [])

-- the code of an item of a guard; one that is no test has none
abbrev pub item_code : ℕ → Option (Test ℕ) → List Op
item_code n None = []
item_code n (Some t) = test_code n t

-- the code of a guard
abbrev pub guard_code : ℕ → List (Test ℕ) → List Op
guard_code n [] = []
guard_code n (t ∷ ts) = test_code n t ++ guard_code n ts

-- the code of a body's item: its arguments, and the child
abbrev pub goal_code : ℕ → Goal ℕ → List Op
goal_code n (user p ts) = puts n (n + length ts) (terms_of ts) ++ Spawn p n (length ts) ∷ []
goal_code n true' = Spawn TRUE_PROCEDURE n 0 ∷ []
goal_code n (unifies t u) = put n (suc (suc n)) t ++ (put (suc n) (suc (suc n)) u ++ Spawn UNIFY_PROCEDURE n 2 ∷ [])
goal_code n (assigns t e) = put n (suc (suc n)) t ++ (put_expr (suc n) (suc (suc n)) e ++ Spawn ASSIGN_PROCEDURE n 2 ∷ [])

-- the code of a call that was read
abbrev pub called_code : ℕ → Module → Sym → List source.Term → List Op
called_code n m name args = goal_code n (user_goal (procedure_names m.clauses) name (length args) (map term_of args))

-- the code of a body
abbrev pub body_code : ℕ → List (Goal ℕ) → List Op
body_code n [] = []
body_code n (g ∷ gs) = goal_code n g ++ body_code n gs

-- a position at which no instruction stands
abbrev pub nowhere : ℕ
nowhere = 4294967295

-- the code of a clause after its first instruction; the goal's arguments keep their slots
abbrev pub inner_code : ℕ → Clause → List Op
inner_code at c =
    joined at (head_code at 0 (length c.args) 0 c.args)
    (λ p. guard_code (length c.args) c.guard ++ (body_code (length c.args) c.body ++ Commit ∷ []))

-- the code of clause k of a procedure; a try that does not succeed goes on after it
abbrev pub clause_code : ℕ → ℕ → Clause → List Op
clause_code at k c = Try k (suc at + length (inner_code (suc at) c)) ∷ inner_code (suc at) c

-- the code of a procedure's clauses from the k-th on; after the last one the trial ends
abbrev pub clauses_code : ℕ → ℕ → List Clause → List Op
clauses_code at k [] = Jump nowhere ∷ []
clauses_code at k (c ∷ cs) = joined at (clause_code at k c) (λ p. clauses_code p (suc k) cs)

-- a clause of a module
abbrev pub clause_in : Module → read.Clause → Clause
clause_in m c = clause_of (procedure_names m.clauses) c

-- the clauses of a procedure by its number; none where the program lacks it
abbrev pub clauses_in : Program → ℕ → List Clause
clauses_in m p = elim (slice_get m p) [ None ↦ [] | Some d ↦ d.clauses ]

-- the code of procedures, from a position on
abbrev pub procedures_code : ℕ → Program → List Op
procedures_code at [] = []
procedures_code at (d ∷ ds) = joined at (clauses_code at 1 d.clauses) (λ p. procedures_code p ds)

-- where each procedure begins, with its name and number of arguments and the sizes of its clauses
abbrev pub entrances : ℕ → Program → List Entrance
entrances at [] = []
entrances at (d ∷ ds) =
    record { name = d.name; arity = d.arity; first = at; clauses = map clause_size d.clauses } ∷ entrances
    (at + length (clauses_code at 1 d.clauses)) ds

-- the code of a program
abbrev pub code_of : Program → Compiled
code_of m = record { ops = procedures_code 0 m; procedures = entrances 0 m }
