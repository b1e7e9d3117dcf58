use Rattle.worker_crew.specs.Tasks.{program, first_state}
use Rattle.run_report.proofs.MadeAgain.{lawful_behind}
use Rattle.run_report.proofs.PutTexts.{where_ok, snapshot_put}
use Rattle.run_report.proofs.snapshots.push_snapshot.Goals as goal

pub returns-in_err-goal_lines-clause-made : goal.returns-in_err-goal_lines-clause-made
returns-in_err-goal_lines-clause-made c = λ evs made.
    let t = c.args.task.now in c.goal_lines.ensures.replayed (program t) (first_state t) t.limits.cells evs made

pub process_lines-requires : goal.process_lines-requires
process_lines-requires c =
    let t = c.args.task.now in
    let had = c.requires.made in
    record {
      standing = record {
        program = program t;
        from = first_state t;
        cells = t.limits.cells;
        events = had.events;
        replayed = c.goal_lines.ensures.replayed (program t) (first_state t) t.limits.cells had.events had.made;
      };
    }

pub returns-in_err-process_lines-clause-made : goal.returns-in_err-process_lines-clause-made
returns-in_err-process_lines-clause-made c = λ evs made.
    let t = c.args.task.now in
    let shown = c.goal_lines.ensures.replayed (program t) (first_state t) t.limits.cells evs made in
    c.process_lines.ensures.replayed (program t) (first_state t) t.limits.cells evs shown

pub returns-clause-made : goal.returns-clause-made
returns-clause-made c = λ evs made.
    let t = c.args.task.now in
    let shown = c.goal_lines.ensures.replayed (program t) (first_state t) t.limits.cells evs made in
    c.process_lines.ensures.replayed (program t) (first_state t) t.limits.cells evs shown

pub returns-clause-snapshot : goal.returns-clause-snapshot
returns-clause-snapshot c = λ evs made count.
    let t = c.args.task.now in
    let shown = c.goal_lines.ensures.replayed (program t) (first_state t) t.limits.cells evs made in
    where_ok c.push_bytes.result
    (λ done. snapshot_put c.args.names.now t evs c.args.replay.now c.args.entries c.args.out.now.items c.push_snapshot_line.new.out.items
    c.goal_lines.new.out.items c.process_lines.new.out.items c.push_bytes.new.text.items made count c.snapshots.ensures.written
    c.in_ok-push_snapshot_line.ensures (c.in_ok-goal_lines.ensures.lines t.loaded.now t.limits.cells evs made)
    (c.in_ok-process_lines.ensures.lines (first_state t) t.limits.cells evs c.requires.task.code shown
    (lawful_behind t evs c.requires.task c.lawful_runs.ensures.states c.args.replay.now made)) done)
    c.push_bytes.ensures.ok
