use Rattle.std.proofs.Common.{List, ℕ, ◌<◌, sym, ap, ◌∙◌, subst, inl, inr}
use Rattle.std.proofs.lemmas.Option.{same_Some}
use Rattle.heap_words.specs.Heaps.{inside_at}
use Rattle.word_states.proofs.Lists.{apart_word}
use Rattle.word_commit.specs.declared.quota.Quota.{Quota}
use Rattle.log_replay.specs.declared.answer.Stepped.TheVariants as answer
use Rattle.log_replay.specs.Replays.{StepSays}
use Rattle.log_replay.proofs.StepAnswers.{in_use, noted_says, noted_shown, spent_says, planned_allowed}
use Rattle.log_replay.proofs.replay.Replay.make_move.Goals as goal

pub make_planned-requires-clause-had : goal.make_planned-requires-clause-had
make_planned-requires-clause-had c = λ a x i.
    c.requires.moving.read a x (apart_word c.args.self.now.planner.machine.trail.kept a x c.requires.moving.safe.reads.apart i)

pub make_planned-requires-clause-same : goal.make_planned-requires-clause-same
make_planned-requires-clause-same c = λ al w a x y i f.
    same_Some x y (sym (c.requires.moving.read a x
    (apart_word c.args.self.now.planner.machine.trail.kept a x c.requires.moving.safe.reads.apart i))
    ∙ (ap (λ (ws : List ℕ). inside_at ws a) (sym f.0.0) ∙ f.1))

pub note_move-requires-clause-children : goal.note_move-requires-clause-children
note_move-requires-clause-children c =
    (in_use c.args.self.now c.args.mover c.args.address c.requires.moving c.make_planned.new.hall c.make_planned.new.planner
    c.make_planned.result c.in-Committed.number (inl c.in-Committed.is) c.make_planned.ensures.says c.requires.some
    c.make_planned.ensures.sound).0

pub note_move-requires-clause-woken : goal.note_move-requires-clause-woken
note_move-requires-clause-woken c =
    (in_use c.args.self.now c.args.mover c.args.address c.requires.moving c.make_planned.new.hall c.make_planned.new.planner
    c.make_planned.result c.in-Committed.number (inl c.in-Committed.is) c.make_planned.ensures.says c.requires.some
    c.make_planned.ensures.sound).1

pub note_move-requires-in-Hung-clause-children : goal.note_move-requires-in-Hung-clause-children
note_move-requires-in-Hung-clause-children c =
    (in_use c.args.self.now c.args.mover c.args.address c.requires.moving c.make_planned.new.hall c.make_planned.new.planner
    c.make_planned.result c.in-Hung.number (inr c.in-Hung.is) c.make_planned.ensures.says c.requires.some
    c.make_planned.ensures.sound).0

pub note_move-requires-in-Hung-clause-woken : goal.note_move-requires-in-Hung-clause-woken
note_move-requires-in-Hung-clause-woken c =
    (in_use c.args.self.now c.args.mover c.args.address c.requires.moving c.make_planned.new.hall c.make_planned.new.planner
    c.make_planned.result c.in-Hung.number (inr c.in-Hung.is) c.make_planned.ensures.says c.requires.some
    c.make_planned.ensures.sound).1

pub returns-in-Committed-clause-says : goal.returns-in-Committed-clause-says
returns-in-Committed-clause-says c = λ m from cells evs may.
    noted_says c.args.self.now c.args.mover c.args.address c.requires.moving c.make_planned.new.hall c.make_planned.new.planner m from cells
    evs may c.make_planned.result c.in-Committed.number (inl c.in-Committed.is) c.make_planned.ensures.says
    c.make_planned.ensures.rest.room c.note_move.new.self c.note_move.result c.note_move.ensures.says

pub returns-in-Hung-clause-says : goal.returns-in-Hung-clause-says
returns-in-Hung-clause-says c = λ m from cells evs may.
    noted_says c.args.self.now c.args.mover c.args.address c.requires.moving c.make_planned.new.hall c.make_planned.new.planner m from cells
    evs may c.make_planned.result c.in-Hung.number (inr c.in-Hung.is) c.make_planned.ensures.says
    c.make_planned.ensures.rest.room c.note_move-in-Hung.new.self c.note_move-in-Hung.result c.note_move-in-Hung.ensures.says

pub returns-then-needed-left-clause-says : goal.returns-then-needed-left-clause-says
returns-then-needed-left-clause-says c = λ m from cells evs may.
    let said = spent_says m from cells evs c.args.self.now c.args.mover c.args.address c.requires.moving may
    (subst (λ (q : Quota). q.cells < c.args.self.now.planner.cells) c.quota-left.ensures c.if-needed-left.true) in
    subst (λ (q : Quota). StepSays m from cells evs c.args.self.now.planner.entry c.args.self.now
    (answer.Spent c.args.self.now.planner.cells q.cells)) (sym c.quota-left.ensures) said

pub returns-in-Committed-clause-shows : goal.returns-in-Committed-clause-shows
returns-in-Committed-clause-shows c =
    noted_shown c.args.mover c.args.self.now _ c.note_move.new.self c.note_move.result c.note_move.ensures.says

pub returns-in-Hung-clause-shows : goal.returns-in-Hung-clause-shows
returns-in-Hung-clause-shows c =
    noted_shown c.args.mover c.args.self.now _ c.note_move-in-Hung.new.self c.note_move-in-Hung.result c.note_move-in-Hung.ensures.says

pub returns-in-NoMemory-clause-says : goal.returns-in-NoMemory-clause-says
returns-in-NoMemory-clause-says c = λ m from cells evs may.
    planned_allowed m from cells evs c.args.self.now c.args.mover c.args.address c.requires.moving may
