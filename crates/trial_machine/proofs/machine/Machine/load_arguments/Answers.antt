use Rattle.std.proofs.Common.{◌≡◌, ◌+◌, ◌<◌, rules, arith, ◌∙◌, sym, true≢false, subst, refl}
use Rattle.trial_machine.specs.Goals.{AreKept}
use Rattle.trial_machine.proofs.Loading.{loads_on}
use Rattle.trial_machine.proofs.Arguments.{argument_known, one_kept, arguments_held, has_on}
use Rattle.trial_machine.proofs.GoalWords.{no_argument}
use Rattle.trial_machine.proofs.machine.Machine.load_arguments.Goals as goal

pub overflow_add-process-in-loop-i : goal.overflow_add-process-in-loop-i
overflow_add-process-in-loop-i g c =
    let low : c.args.process + 4 + c.loop-i.i < 4000000000 = (argument_known g.met.W.Words.laws c.args.self.now.trail.kept
    c.loop-i.self.trail.kept c.args.words.now c.loop-i.words c.args.process c.loop-i.i c.args.count c.requires.process
    c.loop-i.invariant.between c.requires.counted c.loop-i.invariant.loads c.loop-i-test.true).1 in
    search (rules, low)

pub load_word-requires-clause-known : goal.load_word-requires-clause-known
load_word-requires-clause-known g c =
    (argument_known g.met.W.Words.laws c.args.self.now.trail.kept
    c.loop-i.self.trail.kept c.args.words.now c.loop-i.words c.args.process c.loop-i.i c.args.count c.requires.process
    c.loop-i.invariant.between c.requires.counted c.loop-i.invariant.loads c.loop-i-test.true).0

pub returns-then-not-is_term-clause-loaded : goal.returns-then-not-is_term-clause-loaded
returns-then-not-is_term-clause-loaded g c =
    loads_on g.met.W.Words.laws c.args.self.now.trail.kept c.loop-i.self.trail.kept c.load_word.new.trail.kept c.args.words.now
    c.loop-i.words c.load_word.new.words c.loop-i.invariant.between c.load_word.ensures.between c.loop-i.invariant.loads
    c.in_ok-word.ensures.loaded

pub returns-then-not-is_term-clause-arguments : goal.returns-then-not-is_term-clause-arguments
returns-then-not-is_term-clause-arguments g c =
    no_argument c.load_word.new.trail.kept c.args.process c.loop-i.i c.args.count c.in_ok-word.word
    (has_on c.args.self.now.trail.kept c.load_word.new.trail.kept c.args.process c.args.count
    (λ a x e. c.in_ok-word.ensures.loaded.grows a x (c.loop-i.invariant.loads.grows a x e)) c.requires.counted)
    c.loop-i-test.true c.in_ok-word.ensures.word (λ t. true≢false (sym (c.is_term.ensures.1 t) ∙ c.if-not-is_term.true))

pub loop-i-preserved : goal.loop-i-preserved
loop-i-preserved g c = record {
  between = g.met.W.Words.laws.twice c.args.words.now c.loop-i.words c.load_word.new.words c.loop-i.invariant.between
      c.load_word.ensures.between;
  loads = loads_on g.met.W.Words.laws c.args.self.now.trail.kept c.loop-i.self.trail.kept c.load_word.new.trail.kept c.args.words.now
      c.loop-i.words c.load_word.new.words c.loop-i.invariant.between c.load_word.ensures.between c.loop-i.invariant.loads
      c.in_ok-word.ensures.loaded;
  kept = one_kept c.loop-i.self.trail.kept c.load_word.new.trail.kept c.args.process c.loop-i.i c.in_ok-word.word
      c.loop-i.self.desk.slots.args c.take.new.self.args c.loop-i.invariant.kept c.in_ok-word.ensures.loaded.grows
      c.in_ok-word.ensures.word (c.is_term.ensures.0 c.if-not-is_term.false) c.in_ok-take.ensures.args;
  idle = record {
    pieces = c.loop-i.invariant.idle.pieces;
    behind = c.loop-i.invariant.idle.behind;
    binds = c.load_word.ensures.binds ∙ c.loop-i.invariant.idle.binds;
    reads = c.load_word.ensures.reads ∙ c.loop-i.invariant.idle.reads;
    waits = c.loop-i.invariant.idle.waits;
  };
  count = c.take.ensures.count ∙ c.loop-i.invariant.count;
}

pub returns-clause-arguments : goal.returns-clause-arguments
returns-clause-arguments g c =
    let all : c.loop-i.i ≡ c.args.count = omega (arith, c.loop-i-test.false, c.loop-i.auto.i-end) in (
      subst (λ l. AreKept c.loop-i.self.trail.kept c.args.process c.args.count l) (sym c.leave.ensures.keeps.args)
          (subst (λ n. AreKept c.loop-i.self.trail.kept c.args.process n c.loop-i.self.desk.slots.args) all c.loop-i.invariant.kept),
      arguments_held c.loop-i.self _ c.loop-i.invariant.idle c.leave.ensures.keeps.args refl refl c.leave.ensures.becomes,
    )
