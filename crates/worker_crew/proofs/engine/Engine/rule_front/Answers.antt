use Rattle.std.proofs.Common.{ap, ◌∙◌, ◌<◌, subst, sym, arith}
use Rattle.commit_engine.specs.declared.answer.Turn.TheVariants as answer
use Rattle.commit_engine.specs.Turns.{has_made}
use Rattle.worker_crew.specs.Reached.{entries_left}
use Rattle.worker_crew.proofs.Found.{committed, hung, failed, passes, still_left, not_gone}
use Rattle.worker_crew.proofs.Noting.{woken_few, asleep_few}
use Rattle.worker_crew.proofs.engine.Engine.rule_front.Goals as goal

pub note_commit-requires : goal.note_commit-requires
note_commit-requires c =
    let m = committed c.args.task.now c.args.process c.args.self.now c.requires.task c.requires.reached c.requires.room
    c.front_moves.ensures.goes c.turn.new.hall c.turn.new.planner c.turn.result c.turn.ensures.says c.turn.ensures.purse
    c.turn.ensures.spare c.turn.ensures.sound c.turn.ensures.free c.turn.ensures.idle c.in-Committed.number c.in-Committed.is in
    woken_few c.args.task.now _ m.moved c.leading_moves.ensures.commit m.kind

pub note_hang-requires : goal.note_hang-requires
note_hang-requires c =
    let m = hung c.args.task.now c.args.process c.args.self.now c.requires.task c.requires.reached c.requires.room
    c.front_moves.ensures.goes c.turn.new.hall c.turn.new.planner c.turn.result c.turn.ensures.says c.turn.ensures.purse
    c.turn.ensures.spare c.turn.ensures.sound c.turn.ensures.free c.turn.ensures.idle c.in-Hung.number c.in-Hung.is in
    asleep_few c.args.task.now _ m.moved

pub make_fail-requires : goal.make_fail-requires
make_fail-requires c = (
  c.args.task.now,
  failed c.args.task.now c.args.process c.args.self.now c.requires.task c.requires.reached c.requires.room c.front_moves.ensures.goes
      c.turn.new.hall c.turn.new.planner c.turn.result c.turn.ensures.says c.turn.ensures.purse c.turn.ensures.spare
      c.turn.ensures.sound c.turn.ensures.free c.turn.ensures.idle c.in-Fails.is,
)

pub returns-in_ok-note_commit-in-Committed : goal.returns-in_ok-note_commit-in-Committed
returns-in_ok-note_commit-in-Committed c =
    let t = c.args.task.now in
    let m = committed t c.args.process c.args.self.now c.requires.task c.requires.reached c.requires.room
    c.front_moves.ensures.goes c.turn.new.hall c.turn.new.planner c.turn.result c.turn.ensures.says c.turn.ensures.purse
    c.turn.ensures.spare c.turn.ensures.sound c.turn.ensures.free c.turn.ensures.idle c.in-Committed.number c.in-Committed.is in (
      c.in_ok-note_commit-in-Committed.ensures.reached t m.moved m.kind,
      subst (λ n. n < entries_left t c.args.self.now) (sym (c.in_ok-note_commit-in-Committed.ensures.left t)) m.less,
    )

pub returns-in-Hung : goal.returns-in-Hung
returns-in-Hung c =
    let t = c.args.task.now in
    let m = hung t c.args.process c.args.self.now c.requires.task c.requires.reached c.requires.room
    c.front_moves.ensures.goes c.turn.new.hall c.turn.new.planner c.turn.result c.turn.ensures.says c.turn.ensures.purse
    c.turn.ensures.spare c.turn.ensures.sound c.turn.ensures.free c.turn.ensures.idle c.in-Hung.number c.in-Hung.is in (
      c.note_hang.ensures.reached t m.moved m.kind,
      subst (λ n. n < entries_left t c.args.self.now) (sym (c.note_hang.ensures.left t)) m.less,
    )

pub returns-in-Fails : goal.returns-in-Fails
returns-in-Fails c =
    c.make_fail.ensures c.args.task.now c.requires.task
    (failed c.args.task.now c.args.process c.args.self.now c.requires.task c.requires.reached c.requires.room c.front_moves.ensures.goes
    c.turn.new.hall c.turn.new.planner c.turn.result c.turn.ensures.says c.turn.ensures.purse c.turn.ensures.spare c.turn.ensures.sound
    c.turn.ensures.free c.turn.ensures.idle c.in-Fails.is)

pub returns-in_ok-pass-in-Spent-Cells : goal.returns-in_ok-pass-in-Spent-Cells
returns-in_ok-pass-in-Spent-Cells c =
    let t = c.args.task.now in
    let is = c.in-Spent-Cells.is ∙ ap answer.Spent c.in-Spent-Cells.field-0-is in
    let m = passes t c.args.process c.args.self.now c.requires.task c.requires.reached c.requires.room c.front_moves.ensures.goes
    c.turn.new.hall c.turn.new.planner c.turn.result c.turn.ensures.says c.turn.ensures.purse c.turn.ensures.spare c.turn.ensures.sound
    c.turn.ensures.free c.turn.ensures.idle c.front_moves.ensures.costs c.in-Spent-Cells.field-0-0 c.in-Spent-Cells.field-0-1 is in
    let left = still_left t c.args.process c.args.self.now c.requires.task c.requires.reached c.requires.room
    c.front_moves.ensures.goes c.turn.new.hall c.turn.new.planner c.turn.result c.turn.ensures.says c.turn.ensures.purse
    c.turn.ensures.spare c.turn.ensures.sound c.turn.ensures.free c.turn.ensures.idle (ap has_made is) in (
      c.in_ok-pass-in-Spent-Cells.ensures.reached t m,
      c.in_ok-pass-in-Spent-Cells.ensures.left t ∙ left,
      c.in_ok-pass-in-Spent-Cells.ensures.queued,
      c.in_ok-pass-in-Spent-Cells.ensures.passed,
      (let h = c.requires.room.passed in omega arith),
    )

pub unreachable-requires-in-Gone : goal.unreachable-requires-in-Gone
unreachable-requires-in-Gone c =
    not_gone c.args.task.now c.args.process c.args.self.now c.requires.task c.requires.reached c.requires.room c.front_moves.ensures.goes
    c.turn.new.hall c.turn.new.planner c.turn.result c.turn.ensures.says c.turn.ensures.purse c.turn.ensures.spare c.turn.ensures.sound
    c.turn.ensures.free c.turn.ensures.idle c.words_in_use.ensures.front c.in-Gone.field-0 c.in-Gone.is
