-- The report of a run of one worker is the report of a lawful run.
use Rattle.std.proofs.Common.{◌≡◌, ◌-◌, List, length}
use Rattle.fcp_model.specs.declared.run.Limits.{Limits}
use Rattle.fcp_model.specs.declared.run.Control.{Control}
use Rattle.fcp_model.specs.declared.run.Outcome.{Outcome}
use Rattle.fcp_model.specs.Programs.{Program}
use Rattle.fcp_model.specs.States.{State, is_open}
use Rattle.fcp_model.specs.LawfulStates.{IsOrdered}
use Rattle.fcp_model.specs.LawfulControls.{AreLawful}
use Rattle.fcp_model.specs.Spelling.{Bytes}
use Rattle.fcp_model.specs.ReportText.{NamedTerm}
use Rattle.fcp_model.specs.Reports.{IsRunReport, IsOneWorkerReport}
use Rattle.fcp_laws.proofs.LawfulRuns.{is_lawful_run}

-- the run is lawful, and of the controls those were made that are not left
pub is_run_report : (m : Program) (s : State) (limits : Limits) (controls : List Control)
    (names : List Bytes) (variables : List NamedTerm) (o : Outcome) (bytes : Bytes)
    → IsOrdered s → s.mode ≡ is_open → AreLawful controls → IsOneWorkerReport m s limits controls names variables o bytes
    → IsRunReport m s limits controls names variables o bytes
is_run_report m s limits controls names variables o bytes ordered opened lawful report =
    let run = is_lawful_run m limits s controls report.events report.last ordered opened lawful report.run in
    record {
      events = report.events;
      run = run.legal;
      within = run.within;
      reached = length controls - length report.last.controls;
      kept = run.kept;
      outcome = report.outcome;
      steps = report.steps;
      text = report.text;
    }
