use Rattle.std.proofs.Common.{◌≡◌, ap, ◌∙◌}
use Rattle.fcp_model.specs.declared.fault.Code.TheVariants.{BadExpression}
use Rattle.fcp_loader.specs.Faults.{faults_at}
use Rattle.fcp_loader.specs.Firsts.{earlier, first_of}
use Rattle.fcp_loader.specs.Leaves.{leaves_in}
use Rattle.fcp_loader.proofs.FirstPlaces.{more-clauses}
use Rattle.fcp_loader.proofs.leaves.leaf_in_clauses.Goals as goal

pub loop-clause-preserved : goal.loop-clause-preserved
loop-clause-preserved c =
    let guard : c.leaf_in_items-guard.result ≡ first_of (faults_at BadExpression (leaves_in c.clause-item.result.guard)) =
    c.leaf_in_items-guard.ensures ∙ ap (λ items. first_of (faults_at BadExpression (leaves_in items))) c.as_slice.ensures in
    let body : c.leaf_in_items-body.result ≡ first_of (faults_at BadExpression (leaves_in c.clause-item.result.body)) =
    c.leaf_in_items-body.ensures ∙ ap (λ items. first_of (faults_at BadExpression (leaves_in items))) c.as_slice-in-loop-clause.ensures in
    c.earlier-first.ensures ∙ ap (earlier c.loop-clause.first) (c.earlier.ensures ∙ (λ i. earlier (guard i) (body i)))
    ∙ more-clauses BadExpression c.args.clauses.now c.loop-clause.clause-index c.clause-item.result c.loop-clause.first
    c.loop-clause-test.true c.clause-item.is c.loop-clause.invariant
