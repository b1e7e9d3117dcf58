use Rattle.std.proofs.Common.{◌∙◌, sym, subst, true≢false}
use Rattle.heap_words.specs.Heaps.{inside_at}
use Rattle.log_replay.specs.Replays.{StepSays}
use Rattle.log_replay.proofs.PlannedMoves.{IsPlanned, allowed_there, ready_there, same_room, still_shown, moving, some_run, may, plan_is, wrong}
use Rattle.log_replay.proofs.StepAnswers.{shown_from}
use Rattle.log_replay.proofs.WrongMoves.{not_ready}
use Rattle.log_replay.proofs.replay.Replay.step_move.Goals as goal

pub returns-in_default-clause-says : goal.returns-in_default-clause-says
returns-in_default-clause-says c = λ m from cells evs code h. (
  not_ready h.state.book (inside_at c.args.self.now.hall.words.items) _ c.args.self.now.ready.addresses.entries c.args.entry c.args.mover
      h.state.stands h.state.ready c.requires.move_of (sym c.find.ensures ∙ c.in_default.is),
  h,
)

pub plan-requires-clause-process : goal.plan-requires-clause-process
plan-requires-clause-process c =
    let s = c.requires.standing.standing in
    let r = ready_there s.program s.from s.cells s.events c.args.self.now c.args.mover c.in-Some.address s.replayed
    (sym c.find.ensures ∙ c.in-Some.is) in
    (r.0, _, r.1, r.2)

pub returns-in_default-plan-clause-says : goal.returns-in_default-plan-clause-says
returns-in_default-plan-clause-says c = λ m from cells evs code h.
    allowed_there m from cells evs c.args.self.now c.args.entry c.args.mover c.in-Some.address h c.requires.move_of
    (sym c.is_open.ensures ∙ c.if-not-is_open.false) (sym c.find.ensures ∙ c.in-Some.is)

pub returns-in-Full-clause-says : goal.returns-in-Full-clause-says
returns-in-Full-clause-says c = λ m from cells evs code h.
    allowed_there m from cells evs c.args.self.now c.args.entry c.args.mover c.in-Some.address h c.requires.move_of
    (sym c.is_open.ensures ∙ c.if-not-is_open.false) (sym c.find.ensures ∙ c.in-Some.is)

pub returns-in-Large-clause-says : goal.returns-in-Large-clause-says
returns-in-Large-clause-says c = λ m from cells evs code h.
    allowed_there m from cells evs c.args.self.now c.args.entry c.args.mover c.in-Some.address h c.requires.move_of
    (sym c.is_open.ensures ∙ c.if-not-is_open.false) (sym c.find.ensures ∙ c.in-Some.is)

pub returns-then-not-is_entry : goal.returns-then-not-is_entry
returns-then-not-is_entry c =
    let old = c.args.self.now in
    let hall = c.plan.new.hall in
    let planner = c.plan.new.planner in
    let pl : IsPlanned old c.args.mover c.in-Some.address hall planner = record {
      opened = sym c.is_open.ensures ∙ c.if-not-is_open.false;
      at = sym c.find.ensures ∙ c.in-Some.is;
      room = c.requires.room;
      same = c.plan.ensures.same;
      rest = c.plan.ensures.rest;
      read = c.in-Ok.ensures.read;
    } in
    record {
      says = λ m from cells evs code h.
          let is = plan_is c.args.code.now old c.args.mover c.in-Some.address hall planner pl m from cells evs h 4294967295 c.in-Ok.planned
          c.in-Ok.ensures.says c.in_default-planned.not-Full c.in_default-planned-2.not-Large in
          wrong c.args.code.now old c.args.mover c.in-Some.address hall planner pl m from cells evs h is.0 c.args.entry
          c.requires.move_of (λ e. true≢false (sym (c.is_entry.ensures.1 e) ∙ c.if-not-is_entry.true)) code;
      shows = still_shown c.args.code.now old c.args.mover c.in-Some.address hall planner pl;
      room = same_room c.args.code.now old c.args.mover c.in-Some.address hall planner pl;
    }

pub make_entry-requires : goal.make_entry-requires
make_entry-requires c =
    let old = c.args.self.now in
    let hall = c.plan.new.hall in
    let planner = c.plan.new.planner in
    let pl : IsPlanned old c.args.mover c.in-Some.address hall planner = record {
      opened = sym c.is_open.ensures ∙ c.if-not-is_open.false;
      at = sym c.find.ensures ∙ c.in-Some.is;
      room = c.requires.room;
      same = c.plan.ensures.same;
      rest = c.plan.ensures.rest;
      read = c.in-Ok.ensures.read;
    } in
    let s = c.requires.standing.standing in
    let is = plan_is c.args.code.now old c.args.mover c.in-Some.address hall planner pl s.program s.from s.cells s.events s.replayed
    4294967295 c.in-Ok.planned c.in-Ok.ensures.says c.in_default-planned.not-Full c.in_default-planned-2.not-Large in
    record {
      moving = moving c.args.code.now old c.args.mover c.in-Some.address hall planner pl is.0;
      some = some_run c.args.code.now old c.args.mover c.in-Some.address hall planner pl c.requires.standing is.0;
      kind = is.1;
    }

pub returns : goal.returns
returns c =
    let old = c.args.self.now in
    let hall = c.plan.new.hall in
    let planner = c.plan.new.planner in
    let pl : IsPlanned old c.args.mover c.in-Some.address hall planner = record {
      opened = sym c.is_open.ensures ∙ c.if-not-is_open.false;
      at = sym c.find.ensures ∙ c.in-Some.is;
      room = c.requires.room;
      same = c.plan.ensures.same;
      rest = c.plan.ensures.rest;
      read = c.in-Ok.ensures.read;
    } in
    record {
      says = λ m from cells evs code h.
          let is = plan_is c.args.code.now old c.args.mover c.in-Some.address hall planner pl m from cells evs h 4294967295 c.in-Ok.planned
          c.in-Ok.ensures.says c.in_default-planned.not-Full c.in_default-planned-2.not-Large in
          subst (λ e. StepSays m from cells evs e c.make_entry.new.self c.make_entry.result)
          (c.is_entry.ensures.0 c.if-not-is_entry.false)
          (c.make_entry.ensures.says m from cells evs
          (may c.args.code.now old c.args.mover c.in-Some.address hall planner pl m from cells evs h is.0 code));
      shows = shown_from old (record old { hall = hall; planner = planner }) c.make_entry.new.self c.make_entry.result
          (still_shown c.args.code.now old c.args.mover c.in-Some.address hall planner pl) c.make_entry.ensures.shows;
      room = c.make_entry.ensures.room ∙ same_room c.args.code.now old c.args.mover c.in-Some.address hall planner pl;
    }
