use Rattle.std.proofs.Common.{List, sym, subst}
use Rattle.heap_words.specs.declared.steps.ExprStep.{ExprStep}
use Rattle.ro_unify.specs.Occurs.{Each}
use Rattle.ro_unify.proofs.Starting.{starts_holding, starts_tame}
use Rattle.guard_tests.specs.Evaluation.{OperandLeads}
use Rattle.word_tests.proofs.guards.evaluate_both.Goals as goal

pub evaluate-requires-clause-sound : goal.evaluate-requires-clause-sound
evaluate-requires-clause-sound g c =
    let laws = g.met.W.Words.laws in
    laws.stays_sound _ _ (laws.stays_sound _ _ c.requires.sound c.load-left.ensures.later) c.load-right.ensures.later

pub evaluate-requires-clause-holds : goal.evaluate-requires-clause-holds
evaluate-requires-clause-holds g c = starts_holding g.met.W.Words.laws _ _ _ c.in_ok-trail.ensures.kept c.in_ok-trail.ensures.binds

pub evaluate-requires-clause-leads : goal.evaluate-requires-clause-leads
evaluate-requires-clause-leads g c =
    let laws = g.met.W.Words.laws in
    let once = laws.stays_sound _ _ c.requires.sound c.load-left.ensures.later in
    let twice = laws.stays_sound _ _ once c.load-right.ensures.later in
    let left = laws.stays_leading _ _ _ c.load-right.ensures.later
    (laws.had_leads _ _ _ once (laws.had_given _ _ _ _ c.load-left.ensures.gave)) in
    let right = laws.had_leads _ _ _ twice (laws.had_given _ _ _ _ c.load-right.ensures.gave) in
    subst (λ (ss : List ExprStep). Each (OperandLeads (g.W.Words.leads c.load-right.new.self)) ss) (sym c.as_slice.ensures)
    (left, (right, (tt, tt)))

pub evaluate-requires-clause-tame : goal.evaluate-requires-clause-tame
evaluate-requires-clause-tame g c =
    let laws = g.met.W.Words.laws in
    starts_tame laws _ _ _ c.in_ok-trail.ensures.kept c.in_ok-trail.ensures.binds
    (laws.stays_sound _ _ (laws.stays_sound _ _ c.requires.sound c.load-left.ensures.later) c.load-right.ensures.later)
