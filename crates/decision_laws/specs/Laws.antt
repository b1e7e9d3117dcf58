-- Laws of decisions: where bindings have no cycle, each goal has one.
use Rattle.std.specs.Prelude.{◌≡◌, Some}
use Rattle.fcp_model.specs.Places.{Variable}
use Rattle.fcp_model.specs.Terms.{Bindings}
use Rattle.fcp_model.specs.Programs.{Goal, Program}
use Rattle.fcp_model.specs.Decisions.{Decision, Decides}
use Rattle.fcp_model.specs.States.{Process, State, process_named}
use Rattle.fcp_model.specs.Ranks.{Ranked}
use Rattle.fcp_model.specs.ClosedPrograms.{GoalOver, IsClosed}
use Rattle.fcp_model.specs.LawfulStates.{IsLawfulState}
use Rattle.decision_laws.specs.PlaceBindings.{IsPlace, BindsOver}

-- for a closed program a goal over places has a decision, where bindings have no cycle, and are of places to terms over places
abbrev pub AGoalHasADecision : Type 0
AGoalHasADecision =
    (m : Program) (s : Bindings) (g : Goal Variable) → IsClosed m → Ranked s → BindsOver IsPlace s → GoalOver IsPlace g
    → (d : Decision) × Decides m s g d

-- for a closed program each process of a lawful state has a decision
abbrev pub LawfulStatesDecide : Type 0
LawfulStatesDecide =
    (m : Program) (s : State) (p : Process) → IsClosed m → IsLawfulState m s → process_named s.processes p.name ≡ Some p
    → (d : Decision) × Decides m s.bound p.goal d
