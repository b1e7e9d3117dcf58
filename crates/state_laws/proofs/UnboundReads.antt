-- What is read for a decision is unbound.
use Rattle.std.proofs.Common.{List, [], ◌∷◌}
use Rattle.fcp_model.specs.Places.{Variable}
use Rattle.fcp_model.specs.Terms.{Term, number, string, nil, cons, tuple, var, ro, first, Terms, none, more, Bindings}
use Rattle.fcp_model.specs.Expressions.{Expr, leaf, op}
use Rattle.fcp_model.specs.Programs.{Goal, user, true', unifies, assigns}
use Rattle.fcp_model.specs.Reads.{reads_of, AreUnbound}
use Rattle.state_laws.specs.Laws.{ReadsAreUnbound}
use Rattle.state_laws.proofs.ReadVariables.{Every}
use Rattle.state_laws.proofs.ReadPairs.{Within, PartsWithin, MayRead}
use Rattle.state_laws.proofs.ReadDecisions.{ExprWithin, AllWithin, GoalWithin, reads_within}

-- the property that every variable has
abbrev Any : Variable → Type 0
Any v = Unit {0}

mutual
  term_any : (t : Term Variable) → Within Any t
  term_any (number z) = tt
  term_any (string z) = tt
  term_any nil = tt
  term_any (cons a b) = (term_any a, term_any b)
  term_any (tuple ts) = parts_any ts
  term_any (var v) = tt
  term_any (ro v) = tt
  term_any (first k) = tt

  parts_any : (ts : Terms Variable) → PartsWithin Any ts
  parts_any none = tt
  parts_any (more t ts) = (term_any t, parts_any ts)

expr_any : (e : Expr Variable) → ExprWithin Any e
expr_any (leaf t) = term_any t
expr_any (op o a b) = (expr_any a, expr_any b)

all_any : (ts : List (Term Variable)) → AllWithin Any ts
all_any [] = tt
all_any (t ∷ ts) = (term_any t, all_any ts)

goal_any : (g : Goal Variable) → GoalWithin Any g
goal_any (user p ts) = all_any ts
goal_any true' = tt
goal_any (unifies t u) = (term_any t, term_any u)
goal_any (assigns t e) = (term_any t, expr_any e)

unbound : (s : Bindings) (P : Variable → Type 0) (vs : List Variable) → Every (MayRead P s) vs → AreUnbound s vs
unbound s P [] h = tt
unbound s P (v ∷ vs) h = (h.0.0, unbound s P vs h.1)

pub reads_are_unbound : ReadsAreUnbound
reads_are_unbound m s g d h = unbound s Any (reads_of d) (reads_within Any (λ k. tt) s (λ v t e. term_any t) m g d (goal_any g) h)
