use Rattle.std.proofs.Common.{subst, sym}
use Rattle.fcp_model.specs.Runs.{IsRun, last_state}
use Rattle.fcp_model.specs.ReportText.{variable_lines}
use Rattle.worker_crew.specs.Tasks.{program, first_state}
use Rattle.run_report.specs.Texts.{variables}
use Rattle.run_report.proofs.PutTexts.{alone}
use Rattle.run_report.proofs.run_texts.bindings_text.Goals as goal

pub goal_lines-requires : goal.goal_lines-requires
goal_lines-requires c =
    let t = c.args.task.now in
    let log = c.requires.log in
    record {
      standing = record {
        m = t.loaded.now;
        cells = t.limits.cells;
        events = log.events;
        laid = c.requires.task.laid;
        replayed = c.in_ok-replay.ensures log.events
            (subst (λ es. IsRun (program t) (first_state t) es log.events) (sym c.as_slice.ensures.value) log.run);
      };
    }

pub returns : goal.returns
returns c = λ evs run.
    let t = c.args.task.now in
    let made =
    c.in_ok-replay.ensures evs (subst (λ es. IsRun (program t) (first_state t) es evs) (sym c.as_slice.ensures.value) run) in
    alone (λ n. variable_lines n c.args.names.now (last_state (first_state t) evs).bound (variables t)) c.new-text.result.items
    c.goal_lines.new.out.items c.new-text.ensures.items (c.in_ok-goal_lines.ensures.lines t.loaded.now t.limits.cells evs made)
