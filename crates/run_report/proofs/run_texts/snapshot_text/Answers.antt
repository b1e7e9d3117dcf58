use Rattle.std.proofs.Common.{take}
use Rattle.fcp_model.specs.Runs.{last_state}
use Rattle.fcp_model.specs.ReportText.{snapshot_text}
use Rattle.worker_crew.specs.Tasks.{program, first_state}
use Rattle.run_report.specs.Texts.{variables}
use Rattle.run_report.proofs.LoggedEvents.{has_events, has_first_events, run_of_slice, length_of_first, has_made}
use Rattle.run_report.proofs.PutTexts.{alone}
use Rattle.run_report.proofs.run_texts.snapshot_text.Goals as goal

pub replay_of-requires-clause-log : goal.replay_of-requires-clause-log
replay_of-requires-clause-log c =
    has_first_events c.args.task.now c.as_slice-log.result.now c.args.entries
    (has_events c.args.task.now c.args.run.now c.as_slice-log.result.now c.requires.log c.as_slice-log.ensures.value)

pub push_snapshot-requires-clause-made : goal.push_snapshot-requires-clause-made
push_snapshot-requires-clause-made c =
    let t = c.args.task.now in
    let log = c.args.run.now.log.items in
    let had = c.requires.log in
    has_made t log had.events c.args.entries c.in_ok-replay.replay had.run c.requires.entries
    (c.in_ok-replay.ensures (take c.args.entries had.events)
    (run_of_slice t log c.as_slice-log.result.now had.events c.args.entries c.as_slice-log.ensures.value had.run))

pub returns : goal.returns
returns c = λ evs run.
    let t = c.args.task.now in
    let log = c.args.run.now.log.items in
    let first = take c.args.entries evs in
    let made =
    c.in_ok-replay.ensures first
    (run_of_slice t log c.as_slice-log.result.now evs c.args.entries c.as_slice-log.ensures.value run) in
    alone (λ n. snapshot_text n c.args.names.now (variables t) (program t) (last_state (first_state t) first)) c.new-text.result.items
    c.push_snapshot.new.out.items c.new-text.ensures.items
    (c.in_ok-push_snapshot.ensures.snapshot first made (length_of_first t log evs c.args.entries run c.requires.entries))
