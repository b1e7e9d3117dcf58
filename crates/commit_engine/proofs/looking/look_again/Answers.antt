use Rattle.std.proofs.Common.{◌∙◌, ◌/◌, ℕ, get_or, refl, inr, arith}
use Rattle.commit_engine.proofs.SecondLooks.{among_at, seen_more, seen_all, changed_one}
use Rattle.commit_engine.proofs.looking.look_again.Goals as goal

pub loop-at-init : goal.loop-at-init
loop-at-init g c = record {
  is_later = g.met.H.Words.laws.still c.args.hall.now c.requires.sound;
  seen = λ a x h. inr h;
}

pub look-requires-clause-sound : goal.look-requires-clause-sound
look-requires-clause-sound g c =
    g.met.H.Words.laws.stays_sound c.args.hall.now c.loop-at.hall c.requires.sound c.loop-at.invariant.is_later

pub look-requires-clause-known : goal.look-requires-clause-known
look-requires-clause-known g c =
    let r : ℕ × ℕ = get_or c.args.reads.now c.loop-at.at (0, 0) in
    g.met.H.Words.laws.stays_known c.args.hall.now c.loop-at.hall r.0 c.loop-at.invariant.is_later
    (c.requires.known r.0 r.1 (among_at c.args.reads.now c.loop-at.at (0, 0) c.loop-at-test.true))

pub look-requires-clause-held : goal.look-requires-clause-held
look-requires-clause-held g c = λ f.
    let r : ℕ × ℕ = get_or c.args.reads.now c.loop-at.at (0, 0) in
    g.met.H.Hall.hall_laws.later_holds c.args.hall.now c.loop-at.hall (r.0 / 1024) c.loop-at.invariant.is_later
    ∙ c.requires.held r.0 r.1 (among_at c.args.reads.now c.loop-at.at (0, 0) c.loop-at-test.true) f

pub returns-in-Some-clause-later : goal.returns-in-Some-clause-later
returns-in-Some-clause-later g c =
    g.met.H.Words.laws.twice c.args.hall.now c.loop-at.hall c.look.new.hall c.loop-at.invariant.is_later c.look.ensures.later

pub returns-in-Some-clause-says : goal.returns-in-Some-clause-says
returns-in-Some-clause-says g c =
    let r : ℕ × ℕ = get_or c.args.reads.now c.loop-at.at (0, 0) in
    changed_one g.H.Hall.stands g.H.Words.gave c.args.hall.now c.loop-at.hall c.look.new.hall c.args.reads.now r c.in-Some.change
    (λ a x k. g.met.H.Words.laws.gave_after c.args.hall.now c.loop-at.hall c.look.new.hall a x c.loop-at.invariant.is_later k)
    (among_at c.args.reads.now c.loop-at.at (0, 0) c.loop-at-test.true) c.in-Some.ensures.says

pub loop-at-preserved : goal.loop-at-preserved
loop-at-preserved g c = record {
  is_later = g.met.H.Words.laws.twice c.args.hall.now c.loop-at.hall c.look.new.hall c.loop-at.invariant.is_later c.look.ensures.later;
  seen =
      seen_more g.H.Hall.stands g.H.Words.gave c.loop-at.hall c.look.new.hall c.args.reads.now c.loop-at.at
      (get_or c.args.reads.now c.loop-at.at (0, 0)) (0, 0) refl
      (λ a x k. g.met.H.Hall.hall_laws.later_stands c.loop-at.hall c.look.new.hall a x c.look.ensures.later k) c.loop-at.invariant.seen
      c.loop-at-test.true c.in-None.ensures.says;
}

pub returns-clause-later : goal.returns-clause-later
returns-clause-later g c = c.loop-at.invariant.is_later

pub returns-clause-says : goal.returns-clause-says
returns-clause-says g c =
    seen_all g.H.Hall.stands g.H.Words.gave c.args.hall.now c.loop-at.hall c.args.reads.now c.loop-at.at (omega arith)
    c.loop-at.invariant.seen
