-- The reports, by computing; that of the longer run line by line.
use Rattle.std.proofs.Common.{◌≡◌, List, [], ◌++◌, take, drop, Option, Some, refl, ap, ◌∙◌, lit<}
use Rattle.std.specs.Prelude.{codes}
use Rattle.fcp_model.specs.declared.run.Outcome.TheVariants as outcome
use Rattle.fcp_model.specs.Programs.{Program}
use Rattle.fcp_model.specs.States.{State, start}
use Rattle.fcp_model.specs.Events.{Event}
use Rattle.fcp_model.specs.Runs.{last_state}
use Rattle.fcp_model.specs.OneWorker.{Schedule, rulings, begin}
use Rattle.fcp_model.specs.ReportText.{outcome_word, goal_variables, variable_lines, report_text}
use Rattle.fcp_rows.specs.Examples.{names, lines}
use Rattle.fcp_rows.specs.Limits.{hundred_cells, hundred_cells_report}
use Rattle.fcp_rows.proofs.Digits.{digits, decimal10}
use Rattle.fcp_rows.proofs.LongReports.{events_of, stand_of, came_to, AreLines, event_lines_are, log_is, report_is}
use Rattle.fcp_rows.proofs.limits.Goals as goal

pub returns-clause-commits : goal.returns-clause-commits
returns-clause-commits c = record {
  events = _;
  last = _;
  run = record { leads = record { count = 9; steps = 12; followed = refl }; steps = 12; ended = refl };
  outcome = refl;
  steps = 12;
  text = simp digits refl;
}

pub returns-clause-no_commit : goal.returns-clause-no_commit
returns-clause-no_commit c = record {
  events = _;
  last = _;
  run = record { leads = record { count = 9; steps = 12; followed = refl }; steps = 12; ended = refl };
  outcome = refl;
  steps = 12;
  text = simp digits refl;
}

pub returns-clause-no_move : goal.returns-clause-no_move
returns-clause-no_move c = record {
  events = _;
  last = _;
  run = record { leads = record { count = 9; steps = 12; followed = refl }; steps = 12; ended = refl };
  outcome = refl;
  steps = 12;
  text = simp digits refl;
}

abbrev m : Program
m = hundred_cells.program

abbrev from : State
from = start 1 hundred_cells.goal

-- where the run comes to
abbrev came : Option (List Event × Schedule)
came = rulings 12 30 m hundred_cells.limits (begin from [])

abbrev evs : List Event
evs = events_of came

abbrev last : Schedule
last = stand_of (begin from []) came

log_lines : AreLines 30 names evs (take 10 (drop 1 hundred_cells_report))
log_lines =
    let last_five : AreLines 30 names (drop 5 evs) (take 5 (drop 6 hundred_cells_report)) =
    (simp digits refl, (simp digits refl, (simp digits refl, (simp digits refl, (simp digits refl, tt))))) in
    (simp digits refl, (simp digits refl, (simp digits refl, (simp digits refl, (simp digits refl, last_five)))))

vars : variable_lines 30 names (last_state from evs).bound (goal_variables hundred_cells.variables)
    ≡ Some (lines (drop 13 hundred_cells_report))
vars = simp digits refl

text : report_text 30 names (goal_variables hundred_cells.variables) m from evs outcome.Full [] 0 ≡ Some (lines hundred_cells_report)
text =
    report_is 30 names (goal_variables hundred_cells.variables) m from evs outcome.Full [] 0 _ _ _ (record {
      log_is = log_is 30 names 10 evs _ (event_lines_are 30 names evs (take 10 (drop 1 hundred_cells_report)) log_lines);
      vars_are = vars;
      snapshots_are = refl;
    })
    ∙ ap (λ ds. Some (codes "logix log 1\n" ++ lines (take 10 (drop 1 hundred_cells_report)) ++ codes "end " ++ ds ++ codes "\n"
    ++ ((codes "outcome " ++ outcome_word outcome.Full ++ codes "\n") ++ (lines (drop 13 hundred_cells_report) ++ [])))) decimal10

pub returns-clause-cells : goal.returns-clause-cells
returns-clause-cells c = record {
  events = evs;
  last = last;
  run = record { leads = record { count = 12; steps = 30; followed = came_to (begin from []) came refl }; steps = 30; ended = refl };
  outcome = (refl, (tt, (tt, (tt, (tt, (tt, (tt, (tt, (tt, (tt, (tt, ((_, (20, refl), lit< tt), tt))))))))))));
  steps = 30;
  text = text;
}

pub returns-clause-smaller : goal.returns-clause-smaller
returns-clause-smaller c = record {
  events = _;
  last = _;
  run = record { leads = record { count = 9; steps = 12; followed = refl }; steps = 12; ended = refl };
  outcome = (refl, ((_, (20, refl), lit< tt), (tt, (tt, ((_, (20, refl), lit< tt), tt)))));
  steps = 12;
  text = simp digits refl;
}

pub returns-clause-hang : goal.returns-clause-hang
returns-clause-hang c = record {
  events = _;
  last = _;
  run = record { leads = record { count = 9; steps = 12; followed = refl }; steps = 12; ended = refl };
  outcome = (refl, ((_, (20, refl), lit< tt), tt));
  steps = 12;
  text = simp digits refl;
}
