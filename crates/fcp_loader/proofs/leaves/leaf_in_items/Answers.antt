use Rattle.std.proofs.Common.{ap, ◌∙◌}
use Rattle.fcp_model.specs.declared.fault.Code.TheVariants.{BadExpression}
use Rattle.fcp_loader.specs.Firsts.{earlier}
use Rattle.fcp_loader.proofs.FirstPlaces.{more-items}
use Rattle.fcp_loader.proofs.leaves.leaf_in_items.Goals as goal

pub loop-item-preserved : goal.loop-item-preserved
loop-item-preserved c =
    c.earlier-first.ensures ∙ ap (earlier c.loop-item.first) c.leaf_in_call.ensures
    ∙ more-items BadExpression c.args.items.now c.loop-item.item-index c.item-item.result c.loop-item.first c.loop-item-test.true
    c.item-item.is c.loop-item.invariant
