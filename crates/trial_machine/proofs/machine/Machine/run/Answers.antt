use Rattle.std.proofs.Common.{◌<◌, ◌∙◌, sym, ap, subst, Some, arith}
use Rattle.std.specs.Prelude.{unwrap_or}
use Rattle.machine_code.proofs.SoundCode.{leads_at}
use Rattle.trial_machine.specs.Stores.{Loads}
use Rattle.trial_machine.proofs.Stretches.{twice_loaded}
use Rattle.trial_machine.proofs.Trying.{tries_at, leaves_try, commits_try, nowhere_try, ends_as, none_there, ready_at, rest_jumps}
use Rattle.trial_machine.proofs.machine.Machine.run.Goals as goal

pub follow-requires-clause-on_way : goal.follow-requires-clause-on_way
follow-requires-clause-on_way g c = tries_at c.args.code.now c.sound.ensures c.loop-clause.self c.begin_try.new.self c.loop-clause.at
    c.in-Some-checked_add.inner c.in-Some-Try.clause c.in-Some-Try.next
    c.unwrap_or-vars.result c.args.procedure (sym c.in-Some-Try.ensures ∙ ap Some c.in-Some-Try.field-0-is) c.in-Some-checked_add.ensures.1
    (c.unwrap_or-vars.ensures ∙ ap (λ o. unwrap_or o 0) c.vars.ensures) c.in_ok-begin_try-in-Some-Try.ensures.begins
    c.loop-clause.invariant.ready

pub loop-clause-smaller-in-Leaves : goal.loop-clause-smaller-in-Leaves
loop-clause-smaller-in-Leaves g c =
    let l : c.loop-clause.at < c.in-Some-Try.next = leads_at c.args.code.now c.sound.ensures c.loop-clause.at _
    (sym c.in-Some-Try.ensures ∙ ap Some c.in-Some-Try.field-0-is) in
    omega (arith, l, c.in-Some-checked_add.ensures.0)

pub loop-clause-preserved-in-Leaves : goal.loop-clause-preserved-in-Leaves
loop-clause-preserved-in-Leaves g c = record {
  between = g.met.W.Words.laws.twice _ _ _ c.loop-clause.invariant.between c.follow.ensures.between;
  loaded = twice_loaded g.met.W.Words.laws c.loop-clause.invariant.between c.follow.ensures.between c.loop-clause.invariant.loaded
      (subst (λ kept. Loads g.W.Words.addresses g.W.Words.sound g.W.Words.had g.W.Words.shown g.W.Words.later g.W.Words.gave kept
      c.loop-clause.words c.follow.new.self.trail.kept c.follow.new.words) c.begin_try.ensures.kept
      c.in_ok-follow-in-Some-Try.ensures.loaded);
  ready = ready_at c.args.code.now c.args.procedure c.loop-clause.at c.in-Some-Try.next c.loop-clause.self c.follow.new.self
      c.loop-clause.invariant.ready (leaves_try c.args.code.now c.sound.ensures c.loop-clause.self c.begin_try.new.self
      c.loop-clause.at c.in-Some-checked_add.inner c.in-Some-Try.clause c.in-Some-Try.next
      c.unwrap_or-vars.result c.args.procedure (sym c.in-Some-Try.ensures ∙ ap Some c.in-Some-Try.field-0-is)
      c.in-Some-checked_add.ensures.1
      (c.unwrap_or-vars.ensures ∙ ap (λ o. unwrap_or o 0) c.vars.ensures) c.in_ok-begin_try-in-Some-Try.ensures.begins
      c.follow.new.self c.in_ok-begin_try-in-Some-Try.ensures.next (ends_as c.args.code.now c.begin_try.new.self c.follow.new.self
      c.in-Some-checked_add.inner _ _ c.in-Leaves.is c.in_ok-follow-in-Some-Try.ensures.ends));
  rests = λ f code r. leaves_try c.args.code.now c.sound.ensures c.loop-clause.self c.begin_try.new.self c.loop-clause.at
      c.in-Some-checked_add.inner c.in-Some-Try.clause c.in-Some-Try.next
      c.unwrap_or-vars.result c.args.procedure (sym c.in-Some-Try.ensures ∙ ap Some c.in-Some-Try.field-0-is)
      c.in-Some-checked_add.ensures.1
      (c.unwrap_or-vars.ensures ∙ ap (λ o. unwrap_or o 0) c.vars.ensures) c.in_ok-begin_try-in-Some-Try.ensures.begins
      c.follow.new.self c.in_ok-begin_try-in-Some-Try.ensures.next (ends_as c.args.code.now c.begin_try.new.self c.follow.new.self
      c.in-Some-checked_add.inner _ _ c.in-Leaves.is c.in_ok-follow-in-Some-Try.ensures.ends) f code
      (c.loop-clause.invariant.rests f code r);
  args = c.follow.ensures.keeps.args ∙ (c.begin_try.ensures.args ∙ c.loop-clause.invariant.args);
  count = c.follow.ensures.keeps.count ∙ (c.begin_try.ensures.count ∙ c.loop-clause.invariant.count);
}

pub returns-in-Commits-clause-loaded : goal.returns-in-Commits-clause-loaded
returns-in-Commits-clause-loaded g c = twice_loaded g.met.W.Words.laws c.loop-clause.invariant.between c.follow.ensures.between
    c.loop-clause.invariant.loaded
    (subst (λ kept. Loads g.W.Words.addresses g.W.Words.sound g.W.Words.had g.W.Words.shown g.W.Words.later g.W.Words.gave kept
    c.loop-clause.words c.follow.new.self.trail.kept c.follow.new.words) c.begin_try.ensures.kept c.in_ok-follow-in-Some-Try.ensures.loaded)

pub returns-in-Commits-clause-ends : goal.returns-in-Commits-clause-ends
returns-in-Commits-clause-ends g c f code r =
    commits_try c.args.code.now c.sound.ensures c.loop-clause.self c.begin_try.new.self c.loop-clause.at c.in-Some-checked_add.inner
    c.in-Some-Try.clause c.in-Some-Try.next
    c.unwrap_or-vars.result c.args.procedure (sym c.in-Some-Try.ensures ∙ ap Some c.in-Some-Try.field-0-is) c.in-Some-checked_add.ensures.1
    (c.unwrap_or-vars.ensures ∙ ap (λ o. unwrap_or o 0) c.vars.ensures) c.in_ok-begin_try-in-Some-Try.ensures.begins c.follow.new.self
    (ends_as c.args.code.now c.begin_try.new.self c.follow.new.self c.in-Some-checked_add.inner _ _ c.in-Commits.is
    c.in_ok-follow-in-Some-Try.ensures.ends) f code (c.loop-clause.invariant.rests f code r)

pub returns-in-Nowhere-clause-loaded : goal.returns-in-Nowhere-clause-loaded
returns-in-Nowhere-clause-loaded g c = twice_loaded g.met.W.Words.laws c.loop-clause.invariant.between c.follow.ensures.between
    c.loop-clause.invariant.loaded
    (subst (λ kept. Loads g.W.Words.addresses g.W.Words.sound g.W.Words.had g.W.Words.shown g.W.Words.later g.W.Words.gave kept
    c.loop-clause.words c.follow.new.self.trail.kept c.follow.new.words) c.begin_try.ensures.kept c.in_ok-follow-in-Some-Try.ensures.loaded)

pub returns-in-Nowhere-clause-ends : goal.returns-in-Nowhere-clause-ends
returns-in-Nowhere-clause-ends g c f code r =
    nowhere_try c.args.code.now c.sound.ensures c.loop-clause.self c.begin_try.new.self c.loop-clause.at c.in-Some-checked_add.inner
    c.in-Some-Try.clause c.in-Some-Try.next
    c.unwrap_or-vars.result c.args.procedure (sym c.in-Some-Try.ensures ∙ ap Some c.in-Some-Try.field-0-is) c.in-Some-checked_add.ensures.1
    (c.unwrap_or-vars.ensures ∙ ap (λ o. unwrap_or o 0) c.vars.ensures) c.in_ok-begin_try-in-Some-Try.ensures.begins c.follow.new.self
    (ends_as c.args.code.now c.begin_try.new.self c.follow.new.self c.in-Some-checked_add.inner _ _ c.in-Nowhere.is
    c.in_ok-follow-in-Some-Try.ensures.ends) f code (c.loop-clause.invariant.rests f code r)

pub loop-clause-smaller : goal.loop-clause-smaller
loop-clause-smaller g c =
    let l : c.loop-clause.at < c.in-Some-Jump.to = leads_at c.args.code.now c.sound.ensures c.loop-clause.at _
    (sym c.in-Some-Jump.ensures ∙ ap Some c.in-Some-Jump.field-0-is) in omega (arith, l)

pub loop-clause-preserved : goal.loop-clause-preserved
loop-clause-preserved g c = record {
  between = c.loop-clause.invariant.between;
  loaded = c.loop-clause.invariant.loaded;
  ready = ready_at c.args.code.now c.args.procedure c.loop-clause.at c.in-Some-Jump.to c.loop-clause.self c.loop-clause.self
      c.loop-clause.invariant.ready (rest_jumps c.args.code.now c.sound.ensures c.loop-clause.at c.in-Some-Jump.to c.loop-clause.self
      (sym c.in-Some-Jump.ensures ∙ ap Some c.in-Some-Jump.field-0-is) c.args.procedure);
  rests = λ f code r. rest_jumps c.args.code.now c.sound.ensures c.loop-clause.at c.in-Some-Jump.to c.loop-clause.self
      (sym c.in-Some-Jump.ensures ∙ ap Some c.in-Some-Jump.field-0-is) c.args.procedure f code
      (c.loop-clause.invariant.rests f code r);
  args = c.loop-clause.invariant.args;
  count = c.loop-clause.invariant.count;
}

pub returns-in-None-clause-ends : goal.returns-in-None-clause-ends
returns-in-None-clause-ends g c f code r = (
  c.loop-clause.at,
  c.loop-clause.invariant.rests f code r,
  none_there c.args.code.now f c.loop-clause.at code.ops (sym c.in-None.ensures),
)
