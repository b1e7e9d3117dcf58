use Rattle.std.proofs.Common.{[]}
use Rattle.ro_unify.specs.Walks.{seen_memory}
use Rattle.ro_unify.proofs.Ending.{tame_later}
use Rattle.ro_unify.proofs.Seeing.{agrees}
use Rattle.guard_tests.proofs.EvaluatedTerms.{evaluated_so}
use Rattle.guard_tests.proofs.OpenReads.{reckons_grew, reads_open}
use Rattle.guard_tests.proofs.evaluation.evaluate.Goals as goal

pub returns-clause-tame : goal.returns-clause-tame
returns-clause-tame g c = tame_later g.met.W.Words.laws c.in_ok-end.ensures.loaded c.reckon.ensures.binds c.requires.tame

pub returns-clause-evaluated : goal.returns-clause-evaluated
returns-clause-evaluated g c m i p s st x d =
    evaluated_so p m c.args.trail.now.binds s st x c.args.steps.now c.args.trail.now.reads.items c.in_ok-end.end
    c.reckon.new.trail.reads.items d (c.in_ok-end.ensures.reckons m i)

pub returns-clause-opened : goal.returns-clause-opened
returns-clause-opened g c =
    reads_open c.args.trail.now.binds c.reckon.new.trail.kept (g.W.Words.own c.reckon.new.words) c.args.trail.now.reads.items
    c.reckon.new.trail.reads.items
    (reckons_grew c.args.trail.now.binds (seen_memory c.reckon.new.trail.kept (g.W.Words.own c.reckon.new.words)) c.args.steps.now []
    c.args.trail.now.reads.items c.in_ok-end.end c.reckon.new.trail.reads.items
    (c.in_ok-end.ensures.reckons (seen_memory c.reckon.new.trail.kept (g.W.Words.own c.reckon.new.words))
    (agrees g.met.W.Words.laws 6 c.in_ok-end.ensures.loaded.holds)))
