use Rattle.std.proofs.Common.{subst}
use Rattle.ro_unify.specs.Walks.{seen_memory}
use Rattle.ro_unify.proofs.Ending.{tame_later}
use Rattle.ro_unify.proofs.Seeing.{agrees}
use Rattle.guard_tests.specs.declared.form.Form.{Form}
use Rattle.guard_tests.specs.Forms.{Tests}
use Rattle.guard_tests.proofs.TestedTerms.{tests_so}
use Rattle.guard_tests.proofs.OpenReads.{tests_grew, reads_open}
use Rattle.guard_tests.proofs.guard.test.Goals as goal

pub returns-clause-tame : goal.returns-clause-tame
returns-clause-tame g c = tame_later g.met.W.Words.laws c.in_ok-answer.ensures.loaded c.make_test.ensures.binds c.requires.tame

pub returns-clause-tested : goal.returns-clause-tested
returns-clause-tested g c m i p names s st behind x d =
    tests_so p m names c.args.trail.now.binds s st behind _ c.args.left.now c.args.right.now c.args.trail.now.reads.items
    c.in_ok-answer.answer c.make_test.new.trail.reads.items x d
    (subst (λ (f : Form). Tests c.args.trail.now.binds m f c.args.left.now c.args.right.now c.args.trail.now.reads.items
    c.in_ok-answer.answer c.make_test.new.trail.reads.items) c.asked-form.ensures (c.in_ok-answer.ensures.tests m i))

pub returns-clause-opened : goal.returns-clause-opened
returns-clause-opened g c =
    reads_open c.args.trail.now.binds c.make_test.new.trail.kept (g.W.Words.own c.make_test.new.words) c.args.trail.now.reads.items
    c.make_test.new.trail.reads.items
    (tests_grew c.args.trail.now.binds (seen_memory c.make_test.new.trail.kept (g.W.Words.own c.make_test.new.words)) c.asked-form.result
    c.args.left.now c.args.right.now c.args.trail.now.reads.items c.in_ok-answer.answer c.make_test.new.trail.reads.items
    (c.in_ok-answer.ensures.tests (seen_memory c.make_test.new.trail.kept (g.W.Words.own c.make_test.new.words))
    (agrees g.met.W.Words.laws 6 c.in_ok-answer.ensures.loaded.holds)))
