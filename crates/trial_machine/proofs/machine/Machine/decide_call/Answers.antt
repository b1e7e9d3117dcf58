use Rattle.std.proofs.Common.{◌≡◌, ℕ, true, false, refl, sym, ◌∙◌, subst, ap}
use Rattle.heap_words.specs.Trails.{WordList}
use Rattle.trial_machine.specs.Goals.{ArgumentsRead}
use Rattle.trial_machine.specs.Stores.{Loads}
use Rattle.trial_machine.proofs.Calling.{entrance, other_count, calls_on, frame, decided}
use Rattle.trial_machine.proofs.Loading.{loads_on}
use Rattle.trial_machine.proofs.Readiness.{call_ready}
use Rattle.trial_machine.proofs.machine.Machine.decide_call.Goals as goal

pub returns-then-count-arity-clause-decides : goal.returns-then-count-arity-clause-decides
returns-then-count-arity-clause-decides g c =
    let e = entrance c.args.code.now.procedures c.args.procedure c.in-Some.arity _ c.in-Some-first.first c.in-Some.ensures
    c.in-Some-first.ensures in
    other_count c.args.code.now c.args.self.now.trail.kept c.args.process c.args.procedure c.args.count e.0 c.requires.call
    c.requires.user e.1 (λ k. c.if-count-arity.true (k ∙ e.2)) c.args.self.now refl

pub run-requires-clause-ready : goal.run-requires-clause-ready
run-requires-clause-ready g c = record {
  frame = frame c.args.code.now c.args.procedure c.in-Some-first.first c.args.process;
  of_code = record { ops = refl; vars = λ k. refl };
  rests = call_ready g.met.W.Words.laws c.args.code.now c.args.self.now c.load_arguments.new.self c.load_arguments.new.words
      c.args.process c.args.procedure c.args.count c.in-Some.arity _ c.in-Some-first.first c.sound.ensures
      c.in_ok-load_arguments.ensures.loaded.stored c.requires.call c.requires.user c.in_ok-load_arguments.ensures.loaded.grows
      (subst (ArgumentsRead c.load_arguments.new.self c.args.process c.args.count) c.if-not-branch.false
      c.in_ok-load_arguments.ensures.arguments) c.in-Some.ensures c.in-Some-first.ensures;
}

pub conclude-requires-clause-ended : goal.conclude-requires-clause-ended
conclude-requires-clause-ended g c = (
  frame c.args.code.now c.args.procedure c.in-Some-first.first c.args.process,
  c.in_ok-outcome.ensures.ends (frame c.args.code.now c.args.procedure c.in-Some-first.first c.args.process)
      (record { ops = refl; vars = λ k. refl })
      (call_ready g.met.W.Words.laws c.args.code.now c.args.self.now c.load_arguments.new.self c.load_arguments.new.words
      c.args.process c.args.procedure c.args.count c.in-Some.arity _ c.in-Some-first.first c.sound.ensures
      c.in_ok-load_arguments.ensures.loaded.stored c.requires.call c.requires.user c.in_ok-load_arguments.ensures.loaded.grows
      (subst (ArgumentsRead c.load_arguments.new.self c.args.process c.args.count) c.if-not-branch.false
      c.in_ok-load_arguments.ensures.arguments) c.in-Some.ensures c.in-Some-first.ensures),
)

pub returns-clause-loaded : goal.returns-clause-loaded
returns-clause-loaded g c =
    subst (λ (k : WordList). Loads g.W.Words.addresses g.W.Words.sound g.W.Words.had g.W.Words.shown g.W.Words.later g.W.Words.gave
    c.args.self.now.trail.kept c.args.words.now k c.run.new.words) (sym c.conclude.ensures.kept)
    (loads_on g.met.W.Words.laws c.args.self.now.trail.kept c.load_arguments.new.self.trail.kept c.run.new.self.trail.kept c.args.words.now
    c.load_arguments.new.words c.run.new.words c.load_arguments.ensures.between c.run.ensures.between
    c.in_ok-load_arguments.ensures.loaded c.in_ok-outcome.ensures.loaded)

pub returns-clause-decides : goal.returns-clause-decides
returns-clause-decides g c =
    let e = entrance c.args.code.now.procedures c.args.procedure c.in-Some.arity _ c.in-Some-first.first c.in-Some.ensures
    c.in-Some-first.ensures in
    decided c.args.code.now c.args.process c.args.procedure c.args.count c.in-Some-first.first e.0 c.run.new.self c.conclude.new.self
    c.conclude.result
    (calls_on c.args.self.now.trail.kept c.run.new.self.trail.kept c.args.process c.args.procedure c.args.count
    (λ a x k. c.in_ok-outcome.ensures.loaded.grows a x (c.in_ok-load_arguments.ensures.loaded.grows a x k)) c.requires.call)
    c.requires.user e.1 (c.if-count-arity.false ∙ sym e.2) e.3
    (c.conclude.ensures.concludes (frame c.args.code.now c.args.procedure c.in-Some-first.first c.args.process)
    (c.in_ok-outcome.ensures.ends (frame c.args.code.now c.args.procedure c.in-Some-first.first c.args.process)
    (record { ops = refl; vars = λ k. refl })
    (call_ready g.met.W.Words.laws c.args.code.now c.args.self.now c.load_arguments.new.self c.load_arguments.new.words
    c.args.process c.args.procedure c.args.count c.in-Some.arity _ c.in-Some-first.first c.sound.ensures
    c.in_ok-load_arguments.ensures.loaded.stored c.requires.call c.requires.user c.in_ok-load_arguments.ensures.loaded.grows
    (subst (ArgumentsRead c.load_arguments.new.self c.args.process c.args.count) c.if-not-branch.false
    c.in_ok-load_arguments.ensures.arguments) c.in-Some.ensures c.in-Some-first.ensures)))
