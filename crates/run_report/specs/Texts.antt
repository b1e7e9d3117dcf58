-- What is written of a run of a task.
use Rattle.std.specs.Prelude.{List}
use Rattle.fcp_model.specs.States.{State}
use Rattle.fcp_model.specs.Events.{Event}
use Rattle.fcp_model.specs.Spelling.{Bytes}
use Rattle.fcp_model.specs.ReportText.{NamedTerm, goal_variables, variable_lines, snapshot_text, report_text}
use Rattle.entry_lines.specs.Additions.{Gives}
use Rattle.worker_crew.specs.declared.task.Task.{Task}
use Rattle.worker_crew.specs.declared.task.Run.{Run}
use Rattle.worker_crew.specs.Tasks.{program, first_state}

-- the variables of the task's goal
abbrev pub variables : Task → List NamedTerm
variables t = goal_variables t.goal.now.0.names

-- the bytes are the report of the run with these events
abbrev pub IsReportText : List Bytes → Task → Run → List Event → Bytes → Type 0
IsReportText names t r evs bytes =
    Gives (λ n. report_text n names (variables t) (program t) (first_state t) evs r.outcome t.controls.now r.reached) bytes

-- the bytes are the snapshot of the state
abbrev pub IsSnapshotText : List Bytes → Task → State → Bytes → Type 0
IsSnapshotText names t s bytes = Gives (λ n. snapshot_text n names (variables t) (program t) s) bytes

-- the bytes are the lines of the goal's variables, by their values in the state
abbrev pub IsBindingsText : List Bytes → Task → State → Bytes → Type 0
IsBindingsText names t s bytes = Gives (λ n. variable_lines n names s.bound (variables t)) bytes
