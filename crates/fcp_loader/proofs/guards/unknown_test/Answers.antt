use Rattle.std.proofs.Common.{ap, ◌∙◌}
use Rattle.std.specs.Prelude.{not}
use Rattle.fcp_model.specs.declared.fault.Code.TheVariants.{UnknownTest}
use Rattle.fcp_loader.specs.Faults.{faults_at, places_where}
use Rattle.fcp_loader.specs.Firsts.{first_of}
use Rattle.fcp_loader.specs.TestItems.{is_test}
use Rattle.fcp_loader.proofs.FirstPlaces.{more-lists}
use Rattle.fcp_loader.proofs.guards.unknown_test.Goals as goal

pub loop-clause-preserved : goal.loop-clause-preserved
loop-clause-preserved c =
    c.earlier-first.ensures
    ∙ more-lists UnknownTest (λ i. i.at) (λ i. not (is_test i.call)) (λ d. d.guard) c.args.clauses.now
    c.loop-clause.clause-index c.clause-item.result c.loop-clause.first c.unknown_item.result c.loop-clause-test.true c.clause-item.is
    c.loop-clause.invariant
    (c.unknown_item.ensures ∙ ap (λ items. first_of (faults_at UnknownTest (places_where (λ i. not (is_test i.call)) items)))
    c.as_slice-guard.ensures)
