-- The report of a run is that of the run of one worker, with the controls that were asked for.
use Rattle.std.proofs.Common.{◌≡◌, List, length, Option, Some, sym, subst, refl, arith}
use Rattle.fcp_laws.proofs.LawfulReports.{is_run_report}
use Rattle.fcp_laws.proofs.LawfulRuns.{is_lawful_run}
use Rattle.fcp_laws.proofs.SoundSchedules.{start_ordered}
use Rattle.fcp_model.specs.declared.run.Control.{Control}
use Rattle.fcp_model.specs.declared.run.Limits.{Limits}
use Rattle.fcp_model.specs.declared.run.Outcome.{Outcome}
use Rattle.fcp_model.specs.declared.source.Module.{Module}
use Rattle.fcp_model.specs.declared.source.GoalText.{GoalText}
use Rattle.fcp_model.specs.Events.{Event}
use Rattle.fcp_model.specs.LawfulControls.{AreLawful}
use Rattle.fcp_model.specs.ReportText.{goal_variables, report_text}
use Rattle.fcp_model.specs.Reports.{IsOneWorkerReport}
use Rattle.fcp_model.specs.Runs.{IsRun}
use Rattle.fcp_model.specs.Spelling.{Bytes}
use Rattle.fcp_model.specs.Translation.{program_of, start_of, started_goals}
use Rattle.run_report.specs.Texts.{IsReportText}
use Rattle.worker_crew.specs.declared.task.Task.{Task}
use Rattle.worker_crew.specs.declared.task.Run.{Run}
use Rattle.worker_crew.specs.Tasks.{IsAlone, program, first_state}
use Rattle.logix_app.specs.Answers.{IsRunOf}
use Rattle.logix_app.specs.Controls.{AreAsked}
use Rattle.logix_app.specs.Loading.{AreLoaded}

-- the bytes are the report of the task's run of one worker
abbrev pub IsReportOf : List Bytes → Task → Outcome → Bytes → Type 0
IsReportOf names t o bytes =
    IsOneWorkerReport (program t) (first_state t) t.limits t.controls.now names (goal_variables t.goal.now.0.names) o bytes

module _ (names : List Bytes) (t : Task) (r : Run) (bytes : Bytes) where
  -- the events of the run of one worker are those of its log
  of-log : AreLawful t.controls.now → (a : IsAlone t r) → IsRun (program t) (first_state t) r.log.items a.events
  of-log lawful a =
      let run =
      is_lawful_run (program t) t.limits (first_state t) t.controls.now a.events a.last
      (start_ordered (length t.goal.now.0.names) (started_goals t.loaded.now t.goal.now.0)) refl lawful a.run in
      subst (λ log. IsRun (program t) (first_state t) log a.events) (sym a.log) run.legal

  -- the text of its log's events is its report
  pub reported : AreLawful t.controls.now → IsAlone t r
      → ((evs : List Event) → IsRun (program t) (first_state t) r.log.items evs → IsReportText names t r evs bytes)
      → IsReportOf names t r.outcome bytes
  reported lawful a text =
      let given = text a.events (of-log lawful a) in
      record {
        events = a.events;
        last = a.last;
        run = a.run;
        outcome = a.outcome;
        steps = given.0;
        text =
            subst
            (λ reached. report_text given.0 names (goal_variables t.goal.now.0.names) (program t) (first_state t) a.events r.outcome
            t.controls.now reached ≡ Some bytes)
            (omega (arith, a.reached)) (given.1 given.0 (omega arith));
      }

-- the report is the answer
pub ran : (limits : Limits) (control : Option Bytes) (file goal : Bytes) (m : Module) (g : GoalText) (names : List Bytes)
    (controls : List Control) (o : Outcome) (text : Bytes)
    → AreLoaded file goal m g names → AreAsked control controls → AreLawful controls
    → IsOneWorkerReport (program_of m) (start_of m g) limits controls names (goal_variables g.names) o text
    → IsRunOf limits control file goal o text
ran limits control file goal m g names controls o text l asked lawful r = record {
  m = m;
  g = g;
  names = names;
  loaded = l;
  controls = controls;
  asked = asked;
  is_run = is_run_report (program_of m) (start_of m g) limits controls names (goal_variables g.names) o text
      (start_ordered (length g.names) (started_goals m g)) refl lawful r;
  by_one_worker = r;
}
