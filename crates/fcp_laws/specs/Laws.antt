-- Laws of decisions, logs, runs of one worker and reports.
use Rattle.std.specs.Prelude.{◌≡◌, ℕ, ◌-◌, false, List, [], length, Option}
use Rattle.std.specs.List.{list_any}
use Rattle.fcp_model.specs.declared.run.Limits.{Limits}
use Rattle.fcp_model.specs.declared.run.Control.{Control}
use Rattle.fcp_model.specs.declared.run.Entry.{Entry}
use Rattle.fcp_model.specs.declared.run.Outcome.{Outcome}
use Rattle.fcp_model.specs.declared.names.Sym.{Sym}
use Rattle.fcp_model.specs.Places.{Variable}
use Rattle.fcp_model.specs.Terms.{Bindings}
use Rattle.fcp_model.specs.Programs.{Goal, Program}
use Rattle.fcp_model.specs.Decisions.{Decision, Decides}
use Rattle.fcp_model.specs.States.{State, is_ready, is_open, start}
use Rattle.fcp_model.specs.Events.{Event}
use Rattle.fcp_model.specs.Runs.{IsRun, last_state, entries_of, cells_of}
use Rattle.fcp_model.specs.Bounds.{IsWithin, KeepsControls, commits_in, moves_in}
use Rattle.fcp_model.specs.OneWorker.{Schedule, is_over, begin, Leads, IsOneWorkerRun}
use Rattle.fcp_model.specs.Outcomes.{Ends}
use Rattle.fcp_laws.specs.Endings.{outcome_at}
use Rattle.fcp_model.specs.LawfulStates.{IsOrdered}
use Rattle.fcp_laws.specs.Schedules.{IsSoundSchedule}
use Rattle.fcp_model.specs.Spelling.{Bytes}
use Rattle.fcp_model.specs.ReportText.{NamedTerm}
use Rattle.fcp_model.specs.Reports.{IsRunReport, IsOneWorkerReport}
use Rattle.fcp_model.specs.LawfulControls.{AreLawful}

-- one decision is made for a goal over a map
abbrev pub AGoalHasOneDecision : Type 0
AGoalHasOneDecision = (m : Program) (s : Bindings) (g : Goal Variable) (d d' : Decision) → Decides m s g d → Decides m s g d' → d ≡ d'

-- a log has one list of events from a state, and so one last state
abbrev pub ALogHasOneHistory : Type 0
ALogHasOneHistory =
    (m : Program) (s : State) (log : List Entry) (evs evs' : List Event) → IsRun m s log evs → IsRun m s log evs' → evs ≡ evs'

-- one worker makes one run under limits and controls
abbrev pub OneWorkerMakesOneRun : Type 0
OneWorkerMakesOneRun =
    (m : Program) (limits : Limits) (s : State) (controls : List Control) (evs evs' : List Event) (at at' : Schedule)
    → IsOneWorkerRun m limits s controls evs at → IsOneWorkerRun m limits s controls evs' at' → (evs ≡ evs') × (at ≡ at')

-- a goal's first state is ordered
abbrev pub AStartIsOrdered : Type 0
AStartIsOrdered = (vars : ℕ) (gs : List (Goal ℕ)) → IsOrdered (start vars gs)

-- each schedule to which a run from an ordered state comes is sound
abbrev pub SchedulesAreSound : Type 0
SchedulesAreSound =
    (m : Program) (limits : Limits) (s : State) (controls : List Control) (evs : List Event) (at : Schedule)
    → IsOrdered s → Leads m limits (begin s controls) evs at → IsSoundSchedule at

-- where a run that is not over has an empty queue, no process is Ready
abbrev pub AnEmptyQueueLeavesNoneReady : Type 0
AnEmptyQueueLeavesNoneReady =
    (at : Schedule) → IsSoundSchedule at → is_over at.state.mode ≡ false → at.queue ≡ []
    → list_any (λ p. is_ready p.status) at.state.processes ≡ false

-- What the run of one worker is by the definitions of runs: its log is a run within the limits in which the controls are
-- kept, and its last schedule has the last state, with the log's counts.
pub record IsLawfulRun (m : Program) (limits : Limits) (s : State) (controls : List Control) (evs : List Event)
    (at : Schedule) : Type 0 where
  pub legal : IsRun m s (entries_of evs) evs
  pub last : last_state s evs ≡ at.state
  pub within : IsWithin limits evs
  pub kept : KeepsControls controls (length controls - length at.controls) (entries_of evs)
  pub commits : at.commits ≡ commits_in (entries_of evs)
  pub moves : at.moves ≡ moves_in (entries_of evs)
  pub cells : at.cells ≡ cells_of evs

-- a run of one worker is a run by the definitions
abbrev pub OneWorkerRunsAreRuns : Type 0
OneWorkerRunsAreRuns =
    (m : Program) (limits : Limits) (s : State) (controls : List Control) (evs : List Event) (at : Schedule)
    → IsOrdered s → s.mode ≡ is_open → AreLawful controls → IsOneWorkerRun m limits s controls evs at
    → IsLawfulRun m limits s controls evs at

-- a run of one worker ends with the outcome that is read off its last schedule
abbrev pub OneWorkerRunsEnd : Type 0
OneWorkerRunsEnd =
    (m : Program) (limits : Limits) (s : State) (controls : List Control) (evs : List Event) (at : Schedule)
    → IsOrdered s → s.mode ≡ is_open → IsOneWorkerRun m limits s controls evs at → Ends m limits s evs (outcome_at limits at)

-- at most one report, with one outcome, is made from a state under limits and controls
abbrev pub ARunHasOneReport : Type 0
ARunHasOneReport =
    (m : Program) (s : State) (limits : Limits) (controls : List Control) (names : List Bytes) (variables : List NamedTerm)
    (o o' : Outcome) (bytes bytes' : Bytes)
    → IsOneWorkerReport m s limits controls names variables o bytes → IsOneWorkerReport m s limits controls names variables o' bytes'
    → (o ≡ o') × (bytes ≡ bytes')

-- the report of a run of one worker is the report of a lawful run
abbrev pub OneWorkerReportsAreRunReports : Type 0
OneWorkerReportsAreRunReports =
    (m : Program) (s : State) (limits : Limits) (controls : List Control) (names : List Bytes) (variables : List NamedTerm) (o : Outcome)
    (bytes : Bytes)
    → IsOrdered s → s.mode ≡ is_open → AreLawful controls → IsOneWorkerReport m s limits controls names variables o bytes
    → IsRunReport m s limits controls names variables o bytes
