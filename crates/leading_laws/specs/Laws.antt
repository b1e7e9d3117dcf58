-- What is decided over bindings with shorter ways.
use Rattle.std.specs.Prelude.{◌≡◌, ℕ, ◌++◌}
use Rattle.fcp_model.specs.Places.{Variable}
use Rattle.fcp_model.specs.Terms.{Bindings}
use Rattle.fcp_model.specs.Programs.{Goal, Program}
use Rattle.fcp_model.specs.Decisions.{Decision, commits, decides_fail, waits_on, Decides}
use Rattle.fcp_model.specs.Cells.{clause_used, cells}
use Rattle.word_states.specs.Leading.{GoalLeads, BindingsLead, AreShortened}

-- A decision of that kind is made for the goal, by the same clause and with the same reads. What is bound leads to what the given
-- decision binds.
abbrev pub AlikeDecision : Program → Bindings → Goal Variable → Decision → Type 0
AlikeDecision m s g (commits k cs rs) = (bs : Bindings) × Decides m s g (commits k bs rs) × BindingsLead (s ++ bs) bs cs
AlikeDecision m s g (waits_on rs) = Decides m s g (waits_on rs)
AlikeDecision m s g (decides_fail rs) = Decides m s g (decides_fail rs)

-- what is decided over bindings with shorter ways, for a goal to which g leads, is decided alike for g
abbrev pub GoalsDecideAlike : Type 0
GoalsDecideAlike = (m : Program) (s short : Bindings) (g h : Goal Variable) (d : Decision) → AreShortened s short → GoalLeads s g h
    → Decides m short h d → AlikeDecision m s g d

-- the two goals have the same clauses
abbrev pub ClausesAreAlike : Type 0
ClausesAreAlike = (m : Program) (s : Bindings) (g h : Goal Variable) (k : ℕ) → GoalLeads s g h → clause_used m g k ≡ clause_used m h k

-- one decision has as many cells for both, whatever it binds
abbrev pub CellsAreAlike : Type 0
CellsAreAlike = (m : Program) (s : Bindings) (g h : Goal Variable) (d : Decision) → GoalLeads s g h → cells m g d ≡ cells m h d
