use Rattle.std.proofs.Common.{ap, sym, ◌∙◌}
use Rattle.fcp_model.specs.declared.fault.Code.TheVariants.{BadExpression}
use Rattle.fcp_loader.specs.Faults.{faults_at}
use Rattle.fcp_loader.specs.Firsts.{earlier, first_of}
use Rattle.fcp_loader.specs.Leaves.{wrong_leaves, leaves_in_call}
use Rattle.fcp_loader.proofs.FirstPlaces.{first_at-append}
use Rattle.fcp_loader.proofs.leaves.leaf_in_call.Goals as goal

pub returns-in-Compare : goal.returns-in-Compare
returns-in-Compare c =
    c.earlier.ensures ∙ (λ i. earlier (c.wrong_leaf-in-Compare.ensures i) (c.wrong_leaf-in-Compare-2.ensures i))
    ∙ sym (first_at-append BadExpression (wrong_leaves c.in-Compare.left) (wrong_leaves c.in-Compare.right))
    ∙ ap (λ call. first_of (faults_at BadExpression (leaves_in_call call))) (sym c.in-Compare.is)
