use Rattle.std.proofs.Common.{◌≡◌, ℕ, [], List, drop}
use Rattle.heap_words.specs.Trails.{KeepsLoads, Says}
use Rattle.ro_unify.specs.Occurs.{stack, Each}
use Rattle.ro_unify.specs.Walks.{Tame}
use Rattle.guard_tests.specs.declared.number.Evaluated.{Evaluated}
use Rattle.guard_tests.specs.Evaluation.{OperandLeads, Reckons}
use Rattle.guard_tests.proofs.evaluation.reckon.Given as goal

abbrev pub invariant-loop-step : goal.invariant-loop-step
invariant-loop-step g l = record {
  loaded : KeepsLoads g.W.Words.sound g.W.Words.had g.W.Words.leads g.W.Words.later g.W.Words.gave l.fn.trail.kept l.fn.trail.binds
      l.fn.words l.trail.kept l.trail.binds l.words;
  binds : l.trail.binds ≡ l.fn.trail.binds;
  tame : Tame l.trail.binds l.trail.kept (g.W.Words.own l.words) (g.W.Words.addresses l.words);
  leads : Each (OperandLeads (g.W.Words.leads l.words)) l.steps;
  comes : (e : Evaluated) (rs : List ℕ) → Says (g.W.Words.own l.words) l.trail.kept
      (λ m. Reckons l.fn.trail.binds m (drop l.step-index l.steps) (stack l.operands.items) l.trail.reads.items e rs
      → Reckons l.fn.trail.binds m l.steps [] l.fn.trail.reads.items e rs);
}
