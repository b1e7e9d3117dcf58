use Rattle.worker_crew.specs.Tasks.{program, first_state}
use Rattle.run_report.proofs.MadeAgain.{stands_by, never_wrong, never_spent, made_again}
use Rattle.run_report.proofs.making.make_next.Goals as goal

pub step-requires-clause-standing : goal.step-requires-clause-standing
step-requires-clause-standing c = stands_by c.args.task.now c.requires.next.events c.args.replay.now c.requires.task c.requires.next.made

pub unreachable-requires : goal.unreachable-requires
unreachable-requires c =
    let t = c.args.task.now in
    let next = c.requires.next in
    never_wrong t next.events c.args.entry next.event next.follows c.next_entries.ensures.allowed c.in-Wrong.field-0 c.step.new.self
    (c.in-Wrong.ensures.says (program t) (first_state t) t.limits.cells next.events c.requires.task.code next.made)

pub unreachable-requires-in-Spent : goal.unreachable-requires-in-Spent
unreachable-requires-in-Spent c =
    let t = c.args.task.now in
    let next = c.requires.next in
    never_spent t next.events c.args.entry next.event next.follows c.determined_runs.ensures.history c.in-Spent.needed c.in-Spent.left
    c.step.new.self
    (c.in-Spent.ensures.says (program t) (first_state t) t.limits.cells next.events c.requires.task.code next.made)

pub returns-in-Done-clause-made : goal.returns-in-Done-clause-made
returns-in-Done-clause-made c = λ evs ev made follows.
    let t = c.args.task.now in
    made_again t evs c.args.entry ev follows c.determined_runs.ensures.history c.step.new.self
    (c.in-Done.ensures.says (program t) (first_state t) t.limits.cells evs c.requires.task.code made)
