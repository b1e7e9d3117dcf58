use Rattle.std.proofs.Common.{◌≡◌, List}
use Rattle.heap_words.specs.Trails.{KeepsLoads, Says}
use Rattle.heap_words.specs.declared.steps.ExprStep.{ExprStep}
use Rattle.ro_unify.specs.Occurs.{stack, Each}
use Rattle.ro_unify.specs.Walks.{Tame, words_left}
use Rattle.guard_tests.specs.Evaluation.{OperandLeads}
use Rattle.stored_expressions.specs.Listing.{Lists}
use Rattle.stored_expressions.proofs.listing.list_all.Given as goal

abbrev pub invariant-walk : goal.invariant-walk
invariant-walk g l = record {
  loaded : KeepsLoads g.W.Words.sound g.W.Words.had g.W.Words.leads g.W.Words.later g.W.Words.gave l.fn.trail.kept l.fn.trail.binds
      l.fn.words l.trail.kept l.trail.binds l.words;
  binds : l.trail.binds ≡ l.fn.trail.binds;
  reads : l.trail.reads.items ≡ l.fn.trail.reads.items;
  tame : Tame l.trail.binds l.trail.kept (g.W.Words.own l.words) (g.W.Words.addresses l.words);
  leads : Each (g.W.Words.leads l.words) (stack l.work.items);
  steps_lead : Each (OperandLeads (g.W.Words.leads l.words)) (stack l.steps.items);
  comes : (all : List ExprStep) → Says (g.W.Words.own l.words) l.trail.kept
      (λ m. Lists m (stack l.work.items) (stack l.steps.items) all → Lists m (stack l.fn.work.items) (stack l.fn.steps.items) all);
}

abbrev pub decreases-walk : goal.decreases-walk
decreases-walk g l = words_left (g.W.Words.addresses l.words) l.trail.binds l.trail.kept (g.W.Words.own l.words) (stack l.work.items)
