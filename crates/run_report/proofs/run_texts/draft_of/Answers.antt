use Rattle.std.proofs.Common.{[], ◌∷◌, ◌++◌, ◌∙◌, subst, arith}
use Rattle.worker_crew.specs.Tasks.{program, first_state}
use Rattle.run_report.specs.Parts.{IsDraft}
use Rattle.run_report.proofs.OnTheWay.{begins, goes_on, ends}
use Rattle.run_report.proofs.run_texts.draft_of.Goals as goal

pub loop-entry-init : goal.loop-entry-init
loop-entry-init c = record {
  before = [];
  way = begins c.args.task.now c.args.log.now c.requires.log;
  draft = c.in_ok-draft.ensures.draft c.args.names.now;
  room = c.in_ok-draft.ensures.room;
}

pub note-requires-clause-next : goal.note-requires-clause-next
note-requires-clause-next c =
    let held = c.loop-entry.invariant in
    let on = goes_on c.args.task.now c.args.log.now c.loop-entry.entry-index held.before held.way c.loop-entry-test.true in
    record {
      events = held.before;
      draft = held.draft;
      event = on.event;
      follows = on.follows;
      room = omega (arith, held.room, held.way.count, c.loop-entry-test.true);
      few = omega (arith, c.requires.log.few, held.way.count, c.loop-entry-test.true);
    }

pub loop-entry-preserved : goal.loop-entry-preserved
loop-entry-preserved c =
    let held = c.loop-entry.invariant in
    let on = goes_on c.args.task.now c.args.log.now c.loop-entry.entry-index held.before held.way c.loop-entry-test.true in
    record {
      before = held.before ++ on.event ∷ [];
      way = on.way;
      draft = c.in_ok-note.ensures.draft held.before on.event held.draft on.follows;
      room = c.note.ensures.room ∙ held.room;
    }

pub returns : goal.returns
returns c = λ evs run.
    let t = c.args.task.now in
    let held = c.loop-entry.invariant in
    let same =
    c.determined_runs.ensures.history (program t) (first_state t) c.args.log.now held.before evs
    (ends t c.args.log.now c.loop-entry.entry-index held.before held.way c.loop-entry-test.false) run in
    subst (λ xs. IsDraft c.args.names.now t xs c.loop-entry.draft) same held.draft
