use Rattle.std.proofs.Common.{◌∙◌, ◌/◌, get_or, refl, inr, arith}
use Rattle.commit_engine.proofs.SecondLooks.{in_at}
use Rattle.commit_engine.proofs.Entering.{primed_more, primed_all}
use Rattle.commit_engine.proofs.Quiet.{quiet_none, quiet_then}
use Rattle.commit_engine.proofs.making.prime_all.Goals as goal

pub loop-at-init : goal.loop-at-init
loop-at-init g c = record {
  is_sound = c.requires.sound;
  quiet = quiet_none g.met.H.Words.laws g.met.H.Hall.hall_laws c.args.hall.now c.requires.sound;
  same = λ p. refl;
  still = λ a x k. k;
  looks = refl;
  done = λ a h. inr h;
}

pub prime-requires-clause-held : goal.prime-requires-clause-held
prime-requires-clause-held g c =
    let a = get_or c.args.places.now c.loop-at.at 0 in
    c.loop-at.invariant.same (a / 1024) ∙ c.requires.held a (in_at c.args.places.now c.loop-at.at c.loop-at-test.true)

pub prime-requires-clause-free : goal.prime-requires-clause-free
prime-requires-clause-free g c =
    let a = get_or c.args.places.now c.loop-at.at 0 in
    let k = c.requires.above a (in_at c.args.places.now c.loop-at.at c.loop-at-test.true) in
    (k.0, k.1, c.loop-at.invariant.still _ k.0 k.2, k.3, k.4)

pub prime-requires-clause-idle : goal.prime-requires-clause-idle
prime-requires-clause-idle g c = c.loop-at.invariant.quiet.rest.1 ∙ c.requires.idle

pub loop-at-preserved : goal.loop-at-preserved
loop-at-preserved g c = record {
  is_sound = c.prime.ensures.sound;
  quiet =
      quiet_then g.met.H.Words.laws g.met.H.Hall.hall_laws c.args.hall.now c.loop-at.hall c.prime.new.self c.loop-at.invariant.quiet
      (record { no_entry = c.prime.ensures.silent; rest = c.prime.ensures.rest });
  same = λ p. c.prime.ensures.holds p ∙ c.loop-at.invariant.same p;
  still = λ a x k. c.prime.ensures.stands a x (c.loop-at.invariant.still a x k);
  looks = c.prime.ensures.takes ∙ c.loop-at.invariant.looks;
  done =
      primed_more (g.H.Hall.primed c.loop-at.hall) (g.H.Hall.primed c.prime.new.self) c.args.places.now c.loop-at.at c.loop-at-test.true
      c.loop-at.invariant.done c.prime.ensures.primed c.prime.ensures.others;
}

pub returns-clause-sound : goal.returns-clause-sound
returns-clause-sound g c = c.loop-at.invariant.is_sound

pub returns-clause-quiet : goal.returns-clause-quiet
returns-clause-quiet g c = c.loop-at.invariant.quiet

pub returns-clause-holds : goal.returns-clause-holds
returns-clause-holds g c = c.loop-at.invariant.same

pub returns-clause-stands : goal.returns-clause-stands
returns-clause-stands g c = c.loop-at.invariant.still

pub returns-clause-takes : goal.returns-clause-takes
returns-clause-takes g c = c.loop-at.invariant.looks

pub returns-clause-primed : goal.returns-clause-primed
returns-clause-primed g c =
    primed_all (g.H.Hall.primed c.loop-at.hall) c.args.places.now c.loop-at.at (omega arith) c.loop-at.invariant.done
