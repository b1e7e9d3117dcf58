-- Laws of programs and goals that were read from texts, whatever strings were numbered before.
use Rattle.std.specs.Prelude.{List, length}
use Rattle.fcp_model.specs.declared.source.Module.{Module}
use Rattle.fcp_model.specs.declared.source.GoalText.{GoalText}
use Rattle.fcp_model.specs.declared.run.Limits.{Limits}
use Rattle.fcp_model.specs.declared.run.Entry.{Entry}
use Rattle.fcp_model.specs.declared.run.Outcome.TheVariants.{Suspended}
use Rattle.fcp_model.specs.Programs.{Program}
use Rattle.fcp_model.specs.Decisions.{Decision, Decides}
use Rattle.fcp_model.specs.States.{State}
use Rattle.fcp_model.specs.Events.{Event}
use Rattle.fcp_model.specs.Runs.{IsRun, last_state}
use Rattle.fcp_model.specs.Outcomes.{Ends}
use Rattle.fcp_model.specs.ClosedPrograms.{GoalsOver, IsNumbered, IsClosed}
use Rattle.fcp_model.specs.LawfulStates.{Each, IsLawfulState}
use Rattle.fcp_model.specs.Translation.{program_of, started_goals, start_of}
use Rattle.fcp_text.specs.Bytes.{Text}
use Rattle.fcp_reader.specs.Sources.{IsModule, IsGoal}
use Rattle.state_laws.specs.Laws.{AllWaitRightly}
use Rattle.transition_laws.specs.Transitions.{configuration, IsDeadlock}

-- the program of a module that was read from a text is closed
abbrev pub AProgramOfATextIsClosed : Type 0
AProgramOfATextIsClosed = (before : List Text) (file : Text) (m : Module) → IsModule before file m → IsClosed (program_of m)

-- a goal that was read from a text mentions no variable but its own, whatever the module
abbrev pub AGoalOfATextIsClosed : Type 0
AGoalOfATextIsClosed = (names : List Text) (goal : Text) (m : Module) (g : GoalText) → IsGoal names goal g
    → GoalsOver (IsNumbered (length g.names)) (started_goals m g)

-- what holds of the program, the first state and the events of each run whose program and goal were read from texts
abbrev pub OfEachRunOfTexts : (Program → State → List Event → Type 0) → Type 0
OfEachRunOfTexts P = (before : List Text) (file : Text) (m : Module) (names : List Text) (goal : Text) (g : GoalText) (log : List Entry)
    (evs : List Event) → IsModule before file m → IsGoal names goal g → IsRun (program_of m) (start_of m g) log evs
    → P (program_of m) (start_of m g) evs

-- every state that such a run comes to is lawful
abbrev pub EachStateOfTextsIsLawful : Type 0
EachStateOfTextsIsLawful = OfEachRunOfTexts (λ m s evs. IsLawfulState m (last_state s evs))

-- no wake is lost: each process that waits there has the decision to wait on exactly the places on which it waits
abbrev pub NoWakeOfTextsIsLost : Type 0
NoWakeOfTextsIsLost = OfEachRunOfTexts (λ m s evs. AllWaitRightly m (last_state s evs))

-- each process of a state has a decision there
abbrev pub AllDecide : Program → State → Type 0
AllDecide m s = Each (λ p. (d : Decision) × Decides m s.bound p.goal d) s.processes

-- each process of every state that such a run comes to has a decision
abbrev pub EachProcessOfTextsDecides : Type 0
EachProcessOfTextsDecides = OfEachRunOfTexts (λ m s evs. AllDecide m (last_state s evs))

-- where such a run is suspended, its last configuration is a deadlock: there are goals left, and none of them reduces or fails
abbrev pub ASuspendedRunOfTextsIsDeadlocked : Type 0
ASuspendedRunOfTextsIsDeadlocked = OfEachRunOfTexts (λ m s evs. (limits : Limits) → Ends m limits s evs Suspended
    → IsDeadlock m (configuration (last_state s evs)))
