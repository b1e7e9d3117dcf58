-- Laws of states and decisions.
use Rattle.std.specs.Prelude.{◌≡◌, ℕ, List, Some}
use Rattle.fcp_model.specs.declared.run.Entry.{Entry}
use Rattle.fcp_model.specs.declared.run.Place.{Place}
use Rattle.fcp_model.specs.Places.{Variable}
use Rattle.fcp_model.specs.Terms.{Bindings}
use Rattle.fcp_model.specs.Programs.{Goal, Program}
use Rattle.fcp_model.specs.Decisions.{Decision, Decides}
use Rattle.fcp_model.specs.States.{waiting, State, start}
use Rattle.fcp_model.specs.Events.{Event}
use Rattle.fcp_model.specs.Runs.{next, IsRun, last_state}
use Rattle.fcp_model.specs.ClosedPrograms.{GoalsOver, IsNumbered, IsClosed}
use Rattle.fcp_model.specs.LawfulStates.{Each, WaitsOn, IsLawfulState}
use Rattle.fcp_model.specs.Reads.{reads_of, AreUnbound, IsPart, BindsPlaces}

-- what is read for a decision is unbound
abbrev pub ReadsAreUnbound : Type 0
ReadsAreUnbound = (m : Program) (s : Bindings) (g : Goal Variable) (d : Decision) → Decides m s g d → AreUnbound s (reads_of d)

-- What is decided over a map is decided over each map that binds the same and more places, as long as what was read is
-- unbound in it.
abbrev pub ADecisionStays : Type 0
ADecisionStays = (m : Program) (s s' : Bindings) (g : Goal Variable) (d : Decision) → Decides m s g d → IsPart s s' → BindsPlaces s'
    → AreUnbound s' (reads_of d) → Decides m s' g d

-- the first state of a goal is lawful, where the goal mentions no variable but its own
abbrev pub AStartIsLawful : Type 0
AStartIsLawful = (m : Program) (vars : ℕ) (gs : List (Goal ℕ)) → GoalsOver (IsNumbered vars) gs → IsLawfulState m (start vars gs)

-- an entry of a closed program leads from a lawful state to a lawful one
abbrev pub AnEntryKeepsStatesLawful : Type 0
AnEntryKeepsStatesLawful = (n : ℕ) (m : Program) (s : State) (e : Entry) (ev : Event) → IsClosed m → IsLawfulState m s
    → next n m s e ≡ Some ev → IsLawfulState m ev.after

-- every state that a run of a closed program comes to from a goal's first state is lawful
abbrev pub EveryStateIsLawful : Type 0
EveryStateIsLawful = (m : Program) (vars : ℕ) (gs : List (Goal ℕ)) (log : List Entry) (evs : List Event) → IsClosed m
    → GoalsOver (IsNumbered vars) gs → IsRun m (start vars gs) log evs → IsLawfulState m (last_state (start vars gs) evs)

-- each process that waits has the decision to wait on exactly the places on which it waits
abbrev pub AllWaitRightly : Program → State → Type 0
AllWaitRightly m s = Each (λ p. (ps : List Place) → p.status ≡ waiting ps → WaitsOn m s.bound p.goal ps) s.processes

-- no wake is lost: all processes that wait do so rightly in every state to which such a run comes
abbrev pub NoWakeIsLost : Type 0
NoWakeIsLost = (m : Program) (vars : ℕ) (gs : List (Goal ℕ)) (log : List Entry) (evs : List Event) → IsClosed m
    → GoalsOver (IsNumbered vars) gs → IsRun m (start vars gs) log evs → AllWaitRightly m (last_state (start vars gs) evs)
