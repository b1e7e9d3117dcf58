use Rattle.std.proofs.Common.{false, refl, ◌∙◌}
use Rattle.heap_words.proofs.Keeps.{loaded_twice, still_says}
use Rattle.ro_unify.specs.Occurs.{stack}
use Rattle.ro_unify.specs.Value.{Values}
use Rattle.ro_unify.proofs.Leads.{pairs_stay}
use Rattle.guard_tests.specs.Equality.{compared}
use Rattle.guard_tests.proofs.equality.compare_words.Goals as goal

pub returns-clause-loaded : goal.returns-clause-loaded
returns-clause-loaded g c = loaded_twice g.met.W.Words.laws c.in_ok-values.ensures.loaded c.in_ok-done.ensures.loaded

pub returns-clause-compared : goal.returns-clause-compared
returns-clause-compared g c m i = record {
  comparison = compared m c.in_ok-values.values.0 c.in_ok-values.values.1;
  compares = record {
    left = c.in_ok-values.values.0;
    right = c.in_ok-values.values.1;
    left_is = still_says g.met.W.Words.laws (λ m. Values c.args.trail.now.binds m false c.args.left c.in_ok-values.values.0)
        c.in_ok-done.ensures.loaded c.in_ok-values.ensures.left m i;
    right_is = still_says g.met.W.Words.laws (λ m. Values c.args.trail.now.binds m false c.args.right c.in_ok-values.values.1)
        c.in_ok-done.ensures.loaded c.in_ok-values.ensures.right m i;
    come = refl;
    read = c.compare.ensures.reads ∙ c.in_ok-values.ensures.reads;
  };
  leaves = c.in_ok-done.ensures.leaves m i;
}

pub returns-clause-lead : goal.returns-clause-lead
returns-clause-lead g c h =
    c.in_ok-done.ensures.lead (pairs_stay g.met.W.Words.laws _ _ (stack c.args.work.now.items) c.two_values.ensures.between h)
