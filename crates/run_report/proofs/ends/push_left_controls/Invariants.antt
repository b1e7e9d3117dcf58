use Rattle.std.proofs.Common.{◌≡◌, ◌++◌, drop}
use Rattle.fcp_model.specs.ReportText.{not_reached_lines}
use Rattle.run_report.proofs.ends.push_left_controls.Given as goal

abbrev pub invariant-loop-control : goal.invariant-loop-control
invariant-loop-control l =
    l.out.items ++ not_reached_lines (drop l.control-index l.controls) ≡ l.initial.out.items ++ not_reached_lines l.controls
