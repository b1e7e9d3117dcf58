use Rattle.std.proofs.Common.{[], ◌∷◌, ◌++◌, ◌∙◌, subst, arith}
use Rattle.worker_crew.specs.Tasks.{program, first_state}
use Rattle.run_report.specs.Parts.{IsMade}
use Rattle.run_report.proofs.OnTheWay.{goes_on, ends}
use Rattle.run_report.proofs.run_texts.replay_of.Goals as goal

pub make_next-requires-clause-next : goal.make_next-requires-clause-next
make_next-requires-clause-next c =
    let held = c.loop-entry.invariant in
    let on = goes_on c.args.task.now c.args.log.now c.loop-entry.entry-index held.before held.way c.loop-entry-test.true in
    record {
      events = held.before;
      made = held.made;
      event = on.event;
      follows = on.follows;
      room = omega (arith, held.room, held.way.count, c.loop-entry-test.true);
    }

pub loop-entry-preserved : goal.loop-entry-preserved
loop-entry-preserved c =
    let held = c.loop-entry.invariant in
    let on = goes_on c.args.task.now c.args.log.now c.loop-entry.entry-index held.before held.way c.loop-entry-test.true in
    record {
      before = held.before ++ on.event ∷ [];
      way = on.way;
      made = (c.in_ok-make_next.ensures.made held.before on.event held.made on.follows).0;
      room = c.make_next.ensures.room ∙ held.room;
    }

pub returns : goal.returns
returns c = λ evs run.
    let t = c.args.task.now in
    let held = c.loop-entry.invariant in
    let same =
    c.determined_runs.ensures.history (program t) (first_state t) c.args.log.now held.before evs
    (ends t c.args.log.now c.loop-entry.entry-index held.before held.way c.loop-entry-test.false) run in
    subst (λ xs. IsMade t xs c.loop-entry.replay) same held.made
