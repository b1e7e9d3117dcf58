-- The law of commits and bindings.
use Rattle.std.specs.Prelude.{ℕ, suc, List}
use Rattle.fcp_model.specs.Places.{Variable}
use Rattle.fcp_model.specs.Terms.{Bindings}
use Rattle.fcp_model.specs.Programs.{Program}
use Rattle.fcp_model.specs.Decisions.{commits, Decides}
use Rattle.fcp_model.specs.States.{Process, State}
use Rattle.fcp_model.specs.Cells.{clause_used}
use Rattle.fcp_model.specs.Events.{after_commit, children_of}
use Rattle.fcp_model.specs.ClosedPrograms.{GoalOver, IsClosed}
use Rattle.fcp_model.specs.LawfulStates.{Each, IsPlaceIn}
use Rattle.binding_laws.specs.LawfulBindings.{IsLawfulBindings}

-- the goals of the processes mention places of the state alone
abbrev pub AreGoalsOver : State → List Process → Type 0
AreGoalsOver s ps = Each (λ p. GoalOver (IsPlaceIn s.places) p.goal) ps

-- the state after a process commits by clause k, or as a built-in process, with these bindings
abbrev pub committed : Program → State → Process → ℕ → Bindings → State
committed m s p k bs = after_commit s p.name (clause_used m p.goal k) bs

-- the processes that the commit makes
abbrev pub children : Program → State → Process → ℕ → List Process
children m s p k = children_of (suc s.entries) (clause_used m p.goal k)

-- Where a process whose goal mentions places of the state commits in a closed program, the bindings after the commit are
-- lawful again, and the goals of the commit's children mention places of the new state alone.
abbrev pub ACommitKeepsBindings : Type 0
ACommitKeepsBindings = (m : Program) (s : State) (p : Process) (k : ℕ) (bs : Bindings) (rs : List Variable) → IsClosed m
    → IsLawfulBindings s → GoalOver (IsPlaceIn s.places) p.goal → Decides m s.bound p.goal (commits k bs rs)
    → IsLawfulBindings (committed m s p k bs) × AreGoalsOver (committed m s p k bs) (children m s p k)
