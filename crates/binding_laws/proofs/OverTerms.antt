-- Terms and goals over variables: over more variables, and after renaming.
use Rattle.std.proofs.Common.{◌≡◌, List, [], ◌∷◌, map, refl, ap, ◌∙◌}
use Rattle.fcp_model.specs.Places.{Variable}
use Rattle.fcp_model.specs.Terms.{Term, number, string, nil, cons, tuple, var, ro, first, Terms, none, more, plain, plains, rename, renames}
use Rattle.fcp_model.specs.Expressions.{Expr, leaf, op, rename_expr}
use Rattle.fcp_model.specs.Programs.{Goal, user, true', unifies, assigns, rename_goal}
use Rattle.fcp_model.specs.ClosedPrograms.{Over, PartsOver, AllOver, ExprOver, GoalOver, GoalsOver}

-- over P, and so over Q
module _ {V : Type 0} (P Q : V → Type 0) (h : (v : V) → P v → Q v) where
  mutual
    pub Over-more : (t : Term V) → Over P t → Over Q t
    Over-more (number z) o = tt
    Over-more (string z) o = tt
    Over-more nil o = tt
    Over-more (cons a b) o = (Over-more a o.0, Over-more b o.1)
    Over-more (tuple ts) o = PartsOver-more ts o
    Over-more (var v) o = h v o
    Over-more (ro v) o = h v o
    Over-more (first k) o = o

    pub PartsOver-more : (ts : Terms V) → PartsOver P ts → PartsOver Q ts
    PartsOver-more none o = tt
    PartsOver-more (more t ts) o = (Over-more t o.0, PartsOver-more ts o.1)

  pub AllOver-more : (ts : List (Term V)) → AllOver P ts → AllOver Q ts
  AllOver-more [] o = tt
  AllOver-more (t ∷ ts) o = (Over-more t o.0, AllOver-more ts o.1)

  pub ExprOver-more : (e : Expr V) → ExprOver P e → ExprOver Q e
  ExprOver-more (leaf t) o = Over-more t o
  ExprOver-more (op x a b) o = (ExprOver-more a o.0, ExprOver-more b o.1)

  pub GoalOver-more : (g : Goal V) → GoalOver P g → GoalOver Q g
  GoalOver-more (user p ts) o = AllOver-more ts o
  GoalOver-more true' o = tt
  GoalOver-more (unifies t u) o = (Over-more t o.0, Over-more u o.1)
  GoalOver-more (assigns t e) o = (Over-more t o.0, ExprOver-more e o.1)

  pub GoalsOver-more : (gs : List (Goal V)) → GoalsOver P gs → GoalsOver Q gs
  GoalsOver-more [] o = tt
  GoalsOver-more (g ∷ gs) o = (GoalOver-more g o.0, GoalsOver-more gs o.1)

-- over P, and so over Q once each variable is renamed
module _ {V W : Type 0} (f : V → W) (P : V → Type 0) (Q : W → Type 0) (h : (v : V) → P v → Q (f v)) where
  mutual
    pub Over-rename : (t : Term V) → Over P t → Over Q (rename f t)
    Over-rename (number z) o = tt
    Over-rename (string z) o = tt
    Over-rename nil o = tt
    Over-rename (cons a b) o = (Over-rename a o.0, Over-rename b o.1)
    Over-rename (tuple ts) o = PartsOver-rename ts o
    Over-rename (var v) o = h v o
    Over-rename (ro v) o = h v o
    Over-rename (first k) o = o

    pub PartsOver-rename : (ts : Terms V) → PartsOver P ts → PartsOver Q (renames f ts)
    PartsOver-rename none o = tt
    PartsOver-rename (more t ts) o = (Over-rename t o.0, PartsOver-rename ts o.1)

  pub AllOver-rename : (ts : List (Term V)) → AllOver P ts → AllOver Q (map (rename f) ts)
  AllOver-rename [] o = tt
  AllOver-rename (t ∷ ts) o = (Over-rename t o.0, AllOver-rename ts o.1)

  pub ExprOver-rename : (e : Expr V) → ExprOver P e → ExprOver Q (rename_expr f e)
  ExprOver-rename (leaf t) o = Over-rename t o
  ExprOver-rename (op x a b) o = (ExprOver-rename a o.0, ExprOver-rename b o.1)

  pub GoalOver-rename : (g : Goal V) → GoalOver P g → GoalOver Q (rename_goal f g)
  GoalOver-rename (user p ts) o = AllOver-rename ts o
  GoalOver-rename true' o = tt
  GoalOver-rename (unifies t u) o = (Over-rename t o.0, Over-rename u o.1)
  GoalOver-rename (assigns t e) o = (Over-rename t o.0, ExprOver-rename e o.1)

  pub GoalsOver-rename : (gs : List (Goal V)) → GoalsOver P gs → GoalsOver Q (map (rename_goal f) gs)
  GoalsOver-rename [] o = tt
  GoalsOver-rename (g ∷ gs) o = (GoalOver-rename g o.0, GoalsOver-rename gs o.1)

-- a term over variables has no mark to leave out
mutual
  pub plain_same : (P : Variable → Type 0) (t : Term Variable) → Over P t → plain t ≡ t
  plain_same P (number z) o = refl
  plain_same P (string z) o = refl
  plain_same P nil o = refl
  plain_same P (cons a b) o = ap (λ x. cons x (plain b)) (plain_same P a o.0) ∙ ap (cons a) (plain_same P b o.1)
  plain_same P (tuple ts) o = ap tuple (plains_same P ts o)
  plain_same P (var v) o = refl
  plain_same P (ro v) o = refl
  plain_same P (first k) o = absurd o

  plains_same : (P : Variable → Type 0) (ts : Terms Variable) → PartsOver P ts → plains ts ≡ ts
  plains_same P none o = refl
  plains_same P (more t ts) o = ap (λ x. more x (plains ts)) (plain_same P t o.0) ∙ ap (more t) (plains_same P ts o.1)
