-- Goals over places, as what a decision reads asks of them.
use Rattle.std.proofs.Common.{List, [], ◌∷◌}
use Rattle.fcp_model.specs.Places.{Variable}
use Rattle.fcp_model.specs.Terms.{Term, number, string, nil, cons, tuple, var, ro, first, Terms, none, more}
use Rattle.fcp_model.specs.Expressions.{Expr, leaf, op}
use Rattle.fcp_model.specs.Programs.{Goal, user, true', unifies, assigns}
use Rattle.fcp_model.specs.ClosedPrograms.{Over, PartsOver, AllOver, ExprOver, GoalOver}
use Rattle.state_laws.proofs.ReadPairs.{Within, PartsWithin}
use Rattle.state_laws.proofs.ReadDecisions.{ExprWithin, AllWithin, GoalWithin}

-- over P, and so within Q, which the variables of clauses that are tried may have too
module _ (P Q : Variable → Type 0) (so : (v : Variable) → P v → Q v) where
  mutual
    pub within_over : (t : Term Variable) → Over P t → Within Q t
    within_over (number z) h = tt
    within_over (string z) h = tt
    within_over nil h = tt
    within_over (cons a b) h = (within_over a h.0, within_over b h.1)
    within_over (tuple ts) h = parts_within ts h
    within_over (var v) h = so v h
    within_over (ro v) h = so v h
    within_over (first k) h = absurd h

    parts_within : (ts : Terms Variable) → PartsOver P ts → PartsWithin Q ts
    parts_within none h = tt
    parts_within (more t ts) h = (within_over t h.0, parts_within ts h.1)

  all_within : (ts : List (Term Variable)) → AllOver P ts → AllWithin Q ts
  all_within [] h = tt
  all_within (t ∷ ts) h = (within_over t h.0, all_within ts h.1)

  expr_within : (e : Expr Variable) → ExprOver P e → ExprWithin Q e
  expr_within (leaf t) h = within_over t h
  expr_within (op o a b) h = (expr_within a h.0, expr_within b h.1)

  pub goal_within : (g : Goal Variable) → GoalOver P g → GoalWithin Q g
  goal_within (user p ts) h = all_within ts h
  goal_within true' h = tt
  goal_within (unifies t u) h = (within_over t h.0, within_over u h.1)
  goal_within (assigns t e) h = (within_over t h.0, expr_within e h.1)
