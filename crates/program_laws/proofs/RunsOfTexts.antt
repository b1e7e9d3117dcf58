-- Every state of a run is lawful, where the program and the goal were read from texts.
use Rattle.std.proofs.Common.{List, [], ◌∷◌, length}
use Rattle.fcp_model.specs.declared.run.Place.{Place}
use Rattle.fcp_model.specs.Places.{Variable, made, own}
use Rattle.fcp_model.specs.Programs.{Program}
use Rattle.fcp_model.specs.Decisions.{Decision, Decides}
use Rattle.fcp_model.specs.States.{Process, State}
use Rattle.fcp_model.specs.Runs.{last_state}
use Rattle.fcp_model.specs.ClosedPrograms.{GoalOver, IsClosed}
use Rattle.fcp_model.specs.LawfulStates.{Each, IsPlaceIn, IsLawfulState}
use Rattle.fcp_model.specs.Translation.{program_of, started_goals, start_of}
use Rattle.state_laws.proofs.StatesOfRuns.{every_state_is_lawful, no_wake_is_lost}
use Rattle.binding_laws.proofs.OverTerms.{Over-more, GoalOver-more}
use Rattle.decision_laws.specs.PlaceBindings.{IsPlace, BindsOver}
use Rattle.decision_laws.proofs.AllDecide.{goal_decides}
use Rattle.transition_laws.proofs.LastGoals.{suspended_deadlock}
use Rattle.program_laws.specs.Laws.{EachStateOfTextsIsLawful, NoWakeOfTextsIsLost, AllDecide, EachProcessOfTextsDecides, ASuspendedRunOfTextsIsDeadlocked}
use Rattle.program_laws.proofs.ProgramsOfTexts.{a_program_is_closed, a_goal_is_closed}

pub states_are_lawful : EachStateOfTextsIsLawful
states_are_lawful before file m names goal g log evs is has run =
    every_state_is_lawful (program_of m) (length g.names) (started_goals m g) log evs (a_program_is_closed before file m is)
    (a_goal_is_closed names goal m g has) run

pub wakes_are_kept : NoWakeOfTextsIsLost
wakes_are_kept before file m names goal g log evs is has run =
    no_wake_is_lost (program_of m) (length g.names) (started_goals m g) log evs (a_program_is_closed before file m is)
    (a_goal_is_closed names goal m g has) run

-- a variable that is one of some places is a place
is_place : (ps : List Place) (v : Variable) → IsPlaceIn ps v → IsPlace v
is_place ps (made p) h = tt
is_place ps (own k) h = h

all_decide : (m : Program) (s : State) → IsClosed m → IsLawfulState m s → AllDecide m s
all_decide m s closed h = go s.processes h.goals
  where
    bound : BindsOver IsPlace s.bound
    bound v t e =
        let over = h.bound v t e in
        (is_place s.places v over.0, Over-more (IsPlaceIn s.places) IsPlace (is_place s.places) t over.1)

    go : (ps : List Process) → Each (λ p. GoalOver (IsPlaceIn s.places) p.goal) ps
        → Each (λ p. (d : Decision) × Decides m s.bound p.goal d) ps
    go [] f = tt
    go (p ∷ ps) f =
        let goal = GoalOver-more (IsPlaceIn s.places) IsPlace (is_place s.places) p.goal f.0 in
        (goal_decides m s.bound p.goal closed h.ranked bound goal, go ps f.1)

pub processes_decide : EachProcessOfTextsDecides
processes_decide before file m names goal g log evs is has run =
    all_decide (program_of m) (last_state (start_of m g) evs) (a_program_is_closed before file m is)
    (states_are_lawful before file m names goal g log evs is has run)

pub suspended_runs_are_deadlocked : ASuspendedRunOfTextsIsDeadlocked
suspended_runs_are_deadlocked before file m names goal g log evs is has run limits ends =
    suspended_deadlock (program_of m) limits (start_of m g) evs (states_are_lawful before file m names goal g log evs is has run) ends
