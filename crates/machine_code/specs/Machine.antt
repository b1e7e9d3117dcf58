-- What code means: the fourteen instructions as a function over a state.
use Rattle.std.specs.Prelude.{◌≡◌, ℕ, zero, suc, Bool, true, false, List, [], ◌∷◌, ◌++◌, length, Option, Some, None, if◌then◌else◌, nat_eq, slice_get, option_map, map}
use Rattle.heap_words.specs.declared.steps.TestKind.{TestKind}
use Rattle.heap_words.specs.declared.steps.TestKind.TheVariants as kinds
use Rattle.fcp_model.specs.declared.term.ArithOp.{ArithOp}
use Rattle.fcp_model.specs.declared.term.CompareOp.TheVariants as compared
use Rattle.fcp_model.specs.declared.goal.TheConstants.{TRUE_PROCEDURE, UNIFY_PROCEDURE, ASSIGN_PROCEDURE}
use Rattle.fcp_model.specs.Places.{Variable, own}
use Rattle.fcp_model.specs.Terms.{Term, cons, tuple, var, ro, Terms, none, more, Bindings}
use Rattle.fcp_model.specs.Value.{Look, solid, value}
use Rattle.fcp_model.specs.Unification.{Ended, done, clash, wait, unify}
use Rattle.fcp_model.specs.Expressions.{Expr, leaf, op}
use Rattle.fcp_model.specs.Tests as tests
use Rattle.fcp_model.specs.Tests.{Tested, holds, fails, pauses, test}
use Rattle.fcp_model.specs.Programs.{Goal, user, true', unifies, assigns}
use Rattle.fcp_model.specs.Decisions.{Decision, commits, decides_fail, waits_on, decide}
use Rattle.machine_code.specs.declared.code.ClauseSize.{ClauseSize}
use Rattle.machine_code.specs.Slots.{Slots, hold, hold_all, as_term, slots_from, parts_from, arguments, built}
use Rattle.machine_code.specs.Instructions.{Op, Try, GetFirst, GetCons, GetTuple, PutVar, PutWord, PutCons, PutTuple, Unify, Jump, Test, Otherwise, Spawn, Commit}

-- A trial on its way: the clause in hand and where a try that does not succeed goes on, the slots, what the try bound, what
-- it read unbound, its children; and of the tries before it, whether all of them failed, and what they read.
pub record Trying : Type 0 where
  pub clause : ℕ
  pub next : ℕ
  pub slots : Slots
  pub bound : Bindings
  pub read : List Variable
  pub children : List (Goal Variable)
  pub behind : Bool
  pub earlier : List Variable

-- what code gives: the decision, with a commit's children over the clause's own variables
pub record Meaning : Type 0 where
  pub decision : Decision
  pub children : List (Goal Variable)

-- what the code from a position on gives
abbrev pub Go : Type 0
Go = ℕ → Trying → Option Meaning

-- where no instruction stands the trial ends: it fails where all tries failed, and else it waits
abbrev pub ending : Trying → Meaning
ending m = record { decision = if m.behind then decides_fail m.earlier else waits_on m.earlier; children = [] }

-- The try ends without success, with its reads; `behind` says that all tries so far failed. What it held, bound and made goes.
abbrev pub leave : Go → List (Term Variable) → Trying → Bool → List Variable → Option Meaning
leave go args m behind rs =
    go m.next (record m { slots = arguments args; bound = []; read = []; children = []; behind = behind; earlier = m.earlier ++ rs })

-- what is done with an answer, where there is one
abbrev pub given : {A B : Type 0} → Option A → (A → Option B) → Option B
given None f = None
given (Some x) f = f x

-- after a unification
abbrev pub unified : Go → List (Term Variable) → ℕ → Trying → Ended → Option Meaning
unified go args at m (done bs rs) = go (suc at) (record m { bound = bs; read = rs })
unified go args at m (clash rs) = leave go args m m.behind rs
unified go args at m (wait rs) = leave go args m false rs

-- after a test; one that holds goes on with these slots
abbrev pub tested : Go → List (Term Variable) → Slots → ℕ → Trying → Tested → Option Meaning
tested go args σ at m (holds rs) = go (suc at) (record m { slots = σ; read = m.read ++ rs })
tested go args σ at m (fails rs) = leave go args m m.behind (m.read ++ rs)
tested go args σ at m (pauses rs) = leave go args m false (m.read ++ rs)

-- the parts of a pair
abbrev pub pair_in : Look → Option (Term Variable × Term Variable)
pair_in (solid (cons a b)) = Some (a, b)
pair_in l = None

-- how many parts a tuple has
abbrev pub count : {V : Type 0} → Terms V → ℕ
count none = 0
count (more t ts) = suc (count ts)

-- the parts of a tuple of so many parts
abbrev pub tuple_in : ℕ → Look → Option (Terms Variable)
tuple_in parts (solid (tuple ts)) = if nat_eq (count ts) parts then Some ts else None
tuple_in parts l = None

-- a value with such parts goes on with its parts in slots; any other goes to `put`
abbrev pub opened : Go → ℕ → Trying → ℕ → Option Slots → Option Meaning
opened go at m put None = go put m
opened go at m put (Some σ) = go (suc at) (record m { slots = σ })

-- the slot holds x
abbrev pub put_in : Trying → ℕ → Expr Variable → Trying
put_in m i x = record m { slots = hold m.slots i x }

-- a tuple of the slots from `first` on, or an operator with its two operands
abbrev pub tupled : Slots → ℕ → ℕ → Option ArithOp → Expr Variable
tupled σ first parts None = leaf (tuple (parts_from σ first parts))
tupled σ first parts (Some o) = op o (σ first) (σ (suc first))

-- the test of a kind, of two expressions; a test of terms takes the terms that they are
abbrev pub test_of_kind : TestKind → Expr Variable → Expr Variable → tests.Test Variable
test_of_kind kinds.True a b = tests.always
test_of_kind kinds.Integer a b = tests.kind tests.is_integer (as_term a)
test_of_kind kinds.String a b = tests.kind tests.is_string (as_term a)
test_of_kind kinds.Constant a b = tests.kind tests.is_constant (as_term a)
test_of_kind kinds.List a b = tests.kind tests.is_list (as_term a)
test_of_kind kinds.Tuple a b = tests.kind tests.is_tuple (as_term a)
test_of_kind kinds.Known a b = tests.kind tests.is_known (as_term a)
test_of_kind kinds.Unknown a b = tests.kind tests.is_unknown (as_term a)
test_of_kind kinds.Same a b = tests.same (as_term a) (as_term b)
test_of_kind kinds.NotSame a b = tests.not_same (as_term a) (as_term b)
test_of_kind kinds.Less a b = tests.ordered compared.Less a b
test_of_kind kinds.AtMost a b = tests.ordered compared.AtMost a b
test_of_kind kinds.Greater a b = tests.ordered compared.Greater a b
test_of_kind kinds.AtLeast a b = tests.ordered compared.AtLeast a b
test_of_kind kinds.Equal a b = tests.ordered compared.Equal a b
test_of_kind kinds.NotEqual a b = tests.ordered compared.NotEqual a b

-- a child that unifies
abbrev pub pair_goal : List (Expr Variable) → Goal Variable
pair_goal (x ∷ y ∷ xs) = unifies (as_term x) (as_term y)
pair_goal (x ∷ []) = true'
pair_goal [] = true'

-- a child that assigns
abbrev pub assign_goal : List (Expr Variable) → Goal Variable
assign_goal (x ∷ e ∷ xs) = assigns (as_term x) e
assign_goal (x ∷ []) = true'
assign_goal [] = true'

-- the child that calls a procedure with such arguments; three numbers mean `true`, `=` and `:=`
abbrev pub child : ℕ → List (Expr Variable) → Goal Variable
child p xs =
    if nat_eq p TRUE_PROCEDURE then true' else
    (if nat_eq p UNIFY_PROCEDURE then pair_goal xs else (if nat_eq p ASSIGN_PROCEDURE then assign_goal xs else user p (map as_term xs)))

-- One instruction at a position, or None where n steps are too few. `args` are the arguments of the goal. After a test that holds the
-- slots hold them again, so that nothing which was put for the test is at hand any more.
abbrev pub obey : Go → ℕ → Bindings → List (Term Variable) → ℕ → Trying → Option Op → Option Meaning
obey go n s args at m None = Some (ending m)
obey go n s args at m (Some (Try k next)) =
    go (suc at) (record m { clause = k; next = next; slots = arguments args; bound = []; read = []; children = [] })
obey go n s args at m (Some (GetFirst i k)) = go (suc at) (record m { bound = m.bound ++ (own k, as_term (m.slots i)) ∷ [] })
obey go n s args at m (Some (GetCons i left right put)) =
    given (value n (s ++ m.bound) (as_term (m.slots i)))
    (λ l. opened go at m put (option_map (λ ab. hold (hold m.slots left (leaf ab.0)) right (leaf ab.1)) (pair_in l)))
obey go n s args at m (Some (GetTuple i first parts put)) =
    given (value n (s ++ m.bound) (as_term (m.slots i))) (λ l. opened go at m put (option_map (hold_all m.slots first) (tuple_in parts l)))
obey go n s args at m (Some (PutVar i k false)) = go (suc at) (put_in m i (leaf (var (own k))))
obey go n s args at m (Some (PutVar i k true)) = go (suc at) (put_in m i (leaf (ro (own k))))
obey go n s args at m (Some (PutWord i t)) = go (suc at) (put_in m i (leaf t))
obey go n s args at m (Some (PutCons i left right)) =
    go (suc at) (put_in m i (leaf (cons (as_term (m.slots left)) (as_term (m.slots right)))))
obey go n s args at m (Some (PutTuple i first parts o)) = go (suc at) (put_in m i (tupled m.slots first parts o))
obey go n s args at m (Some (Unify left right)) =
    given (unify n s m.bound m.read ((as_term (m.slots left), as_term (m.slots right)) ∷ [])) (unified go args at m)
obey go n s args at m (Some (Jump to)) = go to m
obey go n s args at m (Some (Test k left right)) =
    given (test n (s ++ m.bound) m.behind (test_of_kind k (built m.slots [] left) (built m.slots [] right)))
    (tested go args (arguments args) at m)
obey go n s args at m (Some Otherwise) = given (test n (s ++ m.bound) m.behind tests.otherwise) (tested go args m.slots at m)
obey go n s args at m (Some (Spawn p first parts)) =
    go (suc at) (record m { children = m.children ++ child p (slots_from m.slots first parts) ∷ [] })
obey go n s args at m (Some Commit) = Some (record { decision = commits m.clause m.bound (m.earlier ++ m.read); children = m.children })

-- the instructions from a position on
abbrev pub follow : ℕ → Bindings → List Op → List (Term Variable) → Go
follow zero s code args at m = None
follow (suc n) s code args at m = obey (follow n s code args) n s args at m (slice_get code at)

-- a procedure in code: its name and number of arguments, the position of its first instruction, and the sizes of its clauses
pub record Entrance : Type 0 where
  pub name : ℕ
  pub arity : ℕ
  pub first : ℕ
  pub clauses : List ClauseSize

-- the code of a program: its instructions and its procedures by number
pub record Compiled : Type 0 where
  pub ops : List Op
  pub procedures : List Entrance

-- a trial before its first try
abbrev pub untried : Trying
untried = record { clause = 0; next = 0; slots = arguments []; bound = []; read = []; children = []; behind = true; earlier = [] }

-- a fail for which nothing was read
abbrev pub plain_fail : Meaning
plain_fail = record { decision = decides_fail []; children = [] }

-- from a procedure's first instruction on; another number of arguments fails
abbrev pub enter : ℕ → Bindings → List Op → List (Term Variable) → Option Entrance → Option Meaning
enter n s code args None = Some plain_fail
enter n s code args (Some p) =
    elim (nat_eq (length args) p.arity) [ true ↦ follow n s code args p.first untried | false ↦ Some plain_fail ]

-- a decision without children
abbrev pub childless : Decision → Meaning
childless d = record { decision = d; children = [] }

-- What the code gives for a goal over the map s, or None where n steps are too few. A built-in process has no code, and no
-- procedure counts for it.
abbrev pub means : ℕ → Compiled → Bindings → Goal Variable → Option Meaning
means n code s (user p args) = enter n s code.ops args (slice_get code.procedures p)
means n code s true' = option_map childless (decide n [] s true')
means n code s (unifies t u) = option_map childless (decide n [] s (unifies t u))
means n code s (assigns t e) = option_map childless (decide n [] s (assigns t e))

-- the meaning, by some number of steps
abbrev pub Means : Compiled → Bindings → Goal Variable → Meaning → Type 0
Means code s g d = (n : ℕ) × (means n code s g ≡ Some d)
