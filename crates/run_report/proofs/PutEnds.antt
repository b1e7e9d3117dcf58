-- The end of a report.
use Rattle.std.proofs.Common.{◌≡◌, List, ◌++◌, drop, sym, ap, ◌∙◌, subst}
use Rattle.fcp_model.specs.declared.run.Control.{Control}
use Rattle.fcp_model.specs.Events.{Event}
use Rattle.fcp_model.specs.Runs.{last_state}
use Rattle.fcp_model.specs.Spelling.{Bytes}
use Rattle.fcp_model.specs.LogLines.{end_line, outcome_line}
use Rattle.fcp_model.specs.ReportText.{variable_lines, not_reached_lines}
use Rattle.entry_lines.specs.Additions.{Adds}
use Rattle.report_laws.specs.Laws.{AReportIsWritten}
use Rattle.worker_crew.specs.declared.task.Task.{Task}
use Rattle.worker_crew.specs.declared.task.Run.{Run}
use Rattle.worker_crew.specs.Tasks.{program, first_state}
use Rattle.run_report.specs.declared.draft.Draft.{Draft}
use Rattle.run_report.specs.Texts.{variables, IsReportText}
use Rattle.run_report.specs.Parts.{IsDraft}

module _ (names : List Bytes) (t : Task) (r : Run) (evs : List Event) (d : Draft) where
  pub closed : (ended told shown left text snapshots : Bytes) (controls : List Control) → IsDraft names t evs d → AReportIsWritten
      → ended ≡ d.log.items ++ end_line d.entries → told ≡ ended ++ outcome_line r.outcome
      → Adds told shown (λ n. variable_lines n names (last_state (first_state t) evs).bound (variables t))
      → controls ≡ drop r.reached t.controls.now → left ≡ shown ++ not_reached_lines controls → snapshots ≡ d.snapshots.items
      → text ≡ left ++ snapshots → IsReportText names t r evs text
  closed ended told shown left text snapshots controls h law end outcome values not_made leaves kept whole =
      let count = h.count ∙ sym h.made.entries in
      let head : told ≡ d.log.items ++ end_line (last_state (first_state t) evs).entries ++ outcome_line r.outcome =
      outcome ∙ ap (λ x. x ++ outcome_line r.outcome) (end ∙ ap (λ k. d.log.items ++ end_line k) count) in
      let text_is : text ≡ shown ++ not_reached_lines (drop r.reached t.controls.now) ++ d.snapshots.items =
      whole ∙ (ap (λ x. x ++ snapshots) (leaves ∙ ap (λ x. shown ++ not_reached_lines x) not_made)
      ∙ ap (λ x. shown ++ not_reached_lines (drop r.reached t.controls.now) ++ x) kept) in
      subst (IsReportText names t r evs) (sym text_is)
      (law names (variables t) (program t) (first_state t) evs r.outcome t.controls.now r.reached d.log.items shown d.snapshots.items h.log
      (subst (λ (x : Bytes). Adds x shown (λ n. variable_lines n names (last_state (first_state t) evs).bound (variables t))) head values)
      h.snapshots)
