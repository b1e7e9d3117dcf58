use Rattle.std.proofs.Common.{◌≡◌, ap, sym, ◌∙◌}
use Rattle.fcp_model.specs.declared.fault.Code.TheVariants.{BadExpression}
use Rattle.fcp_loader.specs.Faults.{faults_at}
use Rattle.fcp_loader.specs.Firsts.{earlier, first_of}
use Rattle.fcp_loader.specs.Leaves.{wrong_leaves}
use Rattle.fcp_loader.proofs.FirstPlaces.{first-of-operator}
use Rattle.fcp_loader.proofs.leaves.+wrong_leaf.Goals as goal

pub returns-in-Op : goal.returns-in-Op
returns-in-Op n c =
    let left : c.wrong_leaf.result ≡ first_of (faults_at BadExpression (wrong_leaves c.in-Op.left)) =
    c.wrong_leaf.ensures ∙ ap (λ e. first_of (faults_at BadExpression (wrong_leaves e))) c.get.ensures in
    let right : c.wrong_leaf-in-Op.result ≡ first_of (faults_at BadExpression (wrong_leaves c.in-Op.right)) =
    c.wrong_leaf-in-Op.ensures ∙ ap (λ e. first_of (faults_at BadExpression (wrong_leaves e))) c.get-in-Op.ensures in
    c.earlier.ensures ∙ (λ i. earlier (left i) (right i)) ∙ first-of-operator BadExpression c.in-Op.field-0 c.in-Op.left c.in-Op.right
    ∙ ap (λ e. first_of (faults_at BadExpression (wrong_leaves e))) (sym c.in-Op.is)
