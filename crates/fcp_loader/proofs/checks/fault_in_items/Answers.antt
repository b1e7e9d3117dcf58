use Rattle.std.proofs.Common.{List, ◌++◌}
use Rattle.fcp_model.specs.declared.fault.Code.TheVariants.{UnknownProcedure, BadExpression, NotExported}
use Rattle.fcp_model.specs.declared.fault.Fault.{Fault}
use Rattle.fcp_loader.specs.Faults.{faults_at, unknown_items, places_where, is_hidden}
use Rattle.fcp_loader.specs.Leaves.{leaves_in}
use Rattle.fcp_loader.proofs.FirstFaults.{then_more}
use Rattle.fcp_loader.proofs.checks.fault_in_items.Goals as goal

pub returns : goal.returns
returns c =
    let calls : List Fault = faults_at UnknownProcedure (unknown_items c.args.loaded.now c.args.items.now) in
    let leaves : List Fault = faults_at BadExpression (leaves_in c.args.items.now) in
    then_more (calls ++ leaves) (faults_at NotExported (places_where (λ i. is_hidden c.args.loaded.now i.call) c.args.items.now)) _ _ _
    c.earlier.ensures
    (then_more calls leaves _ _ _ c.earlier-calls.ensures c.unknown_item.ensures c.leaf_in_items.ensures) c.hidden_item.ensures
