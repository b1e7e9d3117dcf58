use Rattle.std.proofs.Common.{List, sym, subst}
use Rattle.heap_words.specs.declared.steps.ExprStep.{ExprStep}
use Rattle.ro_unify.specs.Occurs.{Each}
use Rattle.guard_tests.specs.Evaluation.{OperandLeads}
use Rattle.word_bench.proofs.tries.add_again.Goals as goal

pub evaluate-requires-clause-sound : goal.evaluate-requires-clause-sound
evaluate-requires-clause-sound g c = g.met.W.Words.laws.stays_sound _ _ c.requires.sound c.loop.invariant.between

pub evaluate-requires-clause-leads : goal.evaluate-requires-clause-leads
evaluate-requires-clause-leads g c =
    let laws = g.met.W.Words.laws in
    let left = laws.stays_leading _ _ _ c.loop.invariant.between c.requires.leads in
    let right = laws.stays_leading _ _ _ c.loop.invariant.between c.requires.also in
    subst (λ (ss : List ExprStep). Each (OperandLeads (g.W.Words.leads c.loop.words)) ss) (sym c.as_slice.ensures)
    (left, (right, (tt, tt)))
