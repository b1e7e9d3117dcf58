use Rattle.run_report.proofs.PutEnds.{closed}
use Rattle.run_report.proofs.draft.Draft.close.Goals as goal

pub returns : goal.returns
returns c = λ evs draft.
    let t = c.args.task.now in
    closed c.args.names.now t c.args.run.now evs c.args.self c.push_end_line.new.text.items c.push_outcome_line.new.text.items
    c.goal_lines.new.out.items c.push_left_controls.new.out.items c.push_bytes.new.text.items c.as_slice.result.now
    c.left_controls.result.now draft c.texts.ensures.report c.in_ok-push_end_line.ensures c.in_ok-push_outcome_line.ensures
    (c.in_ok-goal_lines.ensures.lines t.loaded.now t.limits.cells evs draft.made) c.left_controls.ensures
    c.in_ok-push_left_controls.ensures c.as_slice.ensures.value c.in_ok-push_bytes.ensures.ok
