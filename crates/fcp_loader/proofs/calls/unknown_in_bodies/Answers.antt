use Rattle.std.proofs.Common.{ap, ◌∙◌}
use Rattle.std.specs.Prelude.{is_none}
use Rattle.fcp_model.specs.declared.fault.Code.TheVariants.{UnknownProcedure}
use Rattle.fcp_model.specs.Goals.{number_of_item}
use Rattle.fcp_loader.specs.Faults.{faults_at, unknown_items}
use Rattle.fcp_loader.specs.Firsts.{first_of}
use Rattle.fcp_loader.proofs.FirstPlaces.{more-lists}
use Rattle.fcp_loader.proofs.calls.unknown_in_bodies.Goals as goal

pub loop-clause-preserved : goal.loop-clause-preserved
loop-clause-preserved c =
    c.earlier-first.ensures
    ∙ more-lists UnknownProcedure (λ i. i.at) (λ i. is_none (number_of_item c.args.loaded.now i)) (λ d. d.body)
    c.as_slice-clauses.result.now
    c.loop-clause.clause-index c.clause-item.result c.loop-clause.first c.unknown_item.result c.loop-clause-test.true c.clause-item.is
    c.loop-clause.invariant
    (c.unknown_item.ensures ∙ ap (λ items. first_of (faults_at UnknownProcedure (unknown_items c.args.loaded.now items)))
    c.as_slice-body.ensures)
