use Rattle.std.proofs.Common.{subst, sym}
use Rattle.fcp_model.specs.Runs.{IsRun}
use Rattle.worker_crew.specs.Tasks.{program, first_state}
use Rattle.run_report.proofs.run_texts.report.Goals as goal

pub close-requires-clause-draft : goal.close-requires-clause-draft
close-requires-clause-draft c =
    let t = c.args.task.now in
    let log = c.requires.log in
    record {
      events = log.events;
      draft = c.in_ok-draft.ensures log.events
          (subst (λ es. IsRun (program t) (first_state t) es log.events) (sym c.as_slice.ensures.value) log.run);
    }

pub returns : goal.returns
returns c = λ evs run.
    let t = c.args.task.now in
    c.close.ensures evs
    (c.in_ok-draft.ensures evs (subst (λ es. IsRun (program t) (first_state t) es evs) (sym c.as_slice.ensures.value) run))
