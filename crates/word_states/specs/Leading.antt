-- When a term leads to another one, so that words may say the second where the definitions have the first.
use Rattle.std.specs.Prelude.{◌≡◌, ℕ, zero, suc, Bool, true, false, List, [], ◌∷◌, Option, Some, None, option_and_then}
use Rattle.fcp_model.specs.Places.{Variable}
use Rattle.fcp_model.specs.Terms.{Term, var, ro, first, Bindings, find}
use Rattle.fcp_model.specs.Expressions.{Expr, leaf, op}
use Rattle.fcp_model.specs.Programs.{Goal, user, true', unifies, assigns}
use Rattle.word_states.specs.Words.{Words}
use Rattle.word_states.specs.Denoting.{Addresses, GoalSays}

-- The term behind a variable, by what it is bound to. `only` says that the occurrence is read-only, and then so is a variable behind
-- it. A mark of a first occurrence is no end of a way.
abbrev pub onward : Bool → Term Variable → Option (Term Variable)
onward only (first k) = None
onward true (var v) = Some (ro v)
onward only t = Some t

-- the term to which a term leads by one step: behind a variable that is bound
abbrev pub step : Bindings → Term Variable → Option (Term Variable)
step s (var v) = option_and_then (onward false) (find s v)
step s (ro v) = option_and_then (onward true) (find s v)
step s t = None

-- the term to which it leads by n steps
abbrev pub led : ℕ → Bindings → Term Variable → Option (Term Variable)
led zero s t = Some t
led (suc n) s t = option_and_then (led n s) (step s t)

-- it leads to u by some number of steps
abbrev pub LeadsTo : Bindings → Term Variable → Term Variable → Type 0
LeadsTo s t u = (n : ℕ) × (led n s t ≡ Some u)

-- each of the terms leads to the other one in its place
abbrev pub AllLead : Bindings → List (Term Variable) → List (Term Variable) → Type 0
AllLead s [] [] = Unit {0}
AllLead s (t ∷ ts) (u ∷ us) = LeadsTo s t u × AllLead s ts us
AllLead s _ _ = ⊥

-- each leaf of an expression leads to the other's
abbrev pub ExprLeads : Bindings → Expr Variable → Expr Variable → Type 0
ExprLeads s (leaf t) (leaf u) = LeadsTo s t u
ExprLeads s (op o a b) (op q c d) = (o ≡ q) × ExprLeads s a c × ExprLeads s b d
ExprLeads s _ _ = ⊥

-- the same goal but for arguments, each of which leads to the other's
abbrev pub GoalLeads : Bindings → Goal Variable → Goal Variable → Type 0
GoalLeads s (user f ts) (user g us) = (f ≡ g) × AllLead s ts us
GoalLeads s true' true' = Unit {0}
GoalLeads s (unifies t u) (unifies v x) = LeadsTo s t v × LeadsTo s u x
GoalLeads s (assigns t e) (assigns v x) = LeadsTo s t v × ExprLeads s e x
GoalLeads s _ _ = ⊥

-- the process at p has a goal to which this one leads
pub record GoalStands (w : Words) (vs : Addresses) (s : Bindings) (p : ℕ) (g : Goal Variable) : Type 0 where
  pub goal : Goal Variable
  pub leads : GoalLeads s g goal
  pub says : GoalSays w vs p goal

-- the same variables are bound, in the same order, each to a term to which the first one's leads in s
abbrev pub BindingsLead : Bindings → Bindings → Bindings → Type 0
BindingsLead s [] [] = Unit {0}
BindingsLead s (b ∷ bs) (c ∷ cs) = (b.0 ≡ c.0) × LeadsTo s b.1 c.1 × BindingsLead s bs cs
BindingsLead s _ _ = ⊥

-- the second bindings are those of s with shorter ways: each variable of s is bound there to a term to which its own leads in s
abbrev pub AreShortened : Bindings → Bindings → Type 0
AreShortened s short = BindingsLead s s short
