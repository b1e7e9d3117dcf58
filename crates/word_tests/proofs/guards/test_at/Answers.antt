use Rattle.std.proofs.Common.{List, sym, subst}
use Rattle.heap_words.specs.declared.steps.ExprStep.{ExprStep}
use Rattle.ro_unify.specs.Occurs.{Each}
use Rattle.ro_unify.proofs.Starting.{starts_holding, starts_tame}
use Rattle.guard_tests.specs.Evaluation.{OperandLeads}
use Rattle.word_tests.proofs.guards.test_at.Goals as goal

pub test-requires-clause-sound : goal.test-requires-clause-sound
test-requires-clause-sound g c = g.met.W.Words.laws.stays_sound _ _ c.requires.sound c.load-word.ensures.later

pub test-requires-clause-holds : goal.test-requires-clause-holds
test-requires-clause-holds g c = starts_holding g.met.W.Words.laws _ _ _ c.in_ok-trail.ensures.kept c.in_ok-trail.ensures.binds

pub test-requires-clause-left : goal.test-requires-clause-left
test-requires-clause-left g c =
    let laws = g.met.W.Words.laws in
    let once = laws.stays_sound _ _ c.requires.sound c.load-word.ensures.later in
    subst (λ (ss : List ExprStep). Each (OperandLeads (g.W.Words.leads c.load-word.new.self)) ss) (sym c.as_slice.ensures)
    (laws.had_leads _ _ _ once (laws.had_given _ _ _ _ c.load-word.ensures.gave), tt)

pub test-requires-clause-right : goal.test-requires-clause-right
test-requires-clause-right g c =
    subst (λ (ss : List ExprStep). Each (OperandLeads (g.W.Words.leads c.load-word.new.self)) ss) (sym c.as_slice-2.ensures) tt

pub test-requires-clause-tame : goal.test-requires-clause-tame
test-requires-clause-tame g c =
    let laws = g.met.W.Words.laws in
    starts_tame laws _ _ _ c.in_ok-trail.ensures.kept c.in_ok-trail.ensures.binds
    (laws.stays_sound _ _ c.requires.sound c.load-word.ensures.later)
