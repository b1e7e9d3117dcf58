use Rattle.std.proofs.Common.{refl}
use Rattle.fcp_text.specs.SourceExpressions.{operator_text}
use Rattle.fcp_text.proofs.Progress.{begin_as, go_on, stop, end}
use Rattle.fcp_text.proofs.ExpressionTexts.{text_of_leaf, operand_of_leaf, text_of_operation, operand_of_operation}
use Rattle.fcp_text.proofs.write_expressions.+expressions.Goals as goal

pub write_expression-returns-in_err-write_operand-in-Op : goal.write_expression-returns-in_err-write_operand-in-Op
write_expression-returns-in_err-write_operand-in-Op g t c =
    stop _ _ _ c.from_residual.ensures.0 c.in_err-write_operand-in-Op.ensures _
    (begin_as
    (text_of_operation c.args.names.now c.args.expression.now c.in-Op.operator c.in-Op.left c.in-Op.right c.get.result.now c.in-Op.right
    (operator_text c.in-Op.operator) c.in-Op.is c.get.ensures refl refl))

pub write_expression-returns-in_err-put-in-Op : goal.write_expression-returns-in_err-put-in-Op
write_expression-returns-in_err-put-in-Op g t c =
    stop _ _ _ c.from_residual-in_err-put-in-Op.ensures.0 c.in_err-put-in-Op.ensures _
    (go_on c.in_ok-write_operand-in-Op.ensures
    (begin_as
    (text_of_operation c.args.names.now c.args.expression.now c.in-Op.operator c.in-Op.left c.in-Op.right c.get.result.now c.in-Op.right
    c.operator_sign.result.now c.in-Op.is c.get.ensures refl c.operator_sign.ensures)))

pub write_expression-returns-in-Leaf : goal.write_expression-returns-in-Leaf
write_expression-returns-in-Leaf g t c =
    end _ _ _ _
    (begin_as (text_of_leaf c.args.names.now c.args.expression.now c.in-Leaf.term c.in-Leaf.field-1 c.in-Leaf.is)) c.write_term.ensures

pub write_expression-returns-in_ok-put-in-Op : goal.write_expression-returns-in_ok-put-in-Op
write_expression-returns-in_ok-put-in-Op g t c =
    end _ _ _ _
    (go_on c.in_ok-put-in-Op.ensures
    (go_on c.in_ok-write_operand-in-Op.ensures
    (begin_as
    (text_of_operation c.args.names.now c.args.expression.now c.in-Op.operator c.in-Op.left c.in-Op.right c.get.result.now
    c.get-in-Op.result.now c.operator_sign.result.now c.in-Op.is c.get.ensures c.get-in-Op.ensures c.operator_sign.ensures))))
    c.write_operand-in-Op.ensures

pub write_operand-returns-in_err-put-in-Op : goal.write_operand-returns-in_err-put-in-Op
write_operand-returns-in_err-put-in-Op g t c =
    stop _ _ _ c.from_residual.ensures.0 c.in_err-put-in-Op.ensures _
    (begin_as (operand_of_operation c.args.names.now c.args.operand.now c.in-Op.field-0 c.in-Op.field-1 c.in-Op.field-2 c.in-Op.is))

pub write_operand-returns-in_err-write_expression-in-Op : goal.write_operand-returns-in_err-write_expression-in-Op
write_operand-returns-in_err-write_expression-in-Op g t c =
    stop _ _ _ c.from_residual-in_err-write_expression-in-Op.ensures.0 c.in_err-write_expression-in-Op.ensures _
    (go_on c.in_ok-put-in-Op.ensures
    (begin_as (operand_of_operation c.args.names.now c.args.operand.now c.in-Op.field-0 c.in-Op.field-1 c.in-Op.field-2 c.in-Op.is)))

pub write_operand-returns-in-Leaf : goal.write_operand-returns-in-Leaf
write_operand-returns-in-Leaf g t c =
    end _ _ _ _
    (begin_as (operand_of_leaf c.args.names.now c.args.operand.now c.in-Leaf.term c.in-Leaf.field-1 c.in-Leaf.is)) c.write_term.ensures

pub write_operand-returns-in_ok-write_expression-in-Op : goal.write_operand-returns-in_ok-write_expression-in-Op
write_operand-returns-in_ok-write_expression-in-Op g t c =
    end _ _ _ _
    (go_on c.in_ok-write_expression-in-Op.ensures
    (go_on c.in_ok-put-in-Op.ensures
    (begin_as (operand_of_operation c.args.names.now c.args.operand.now c.in-Op.field-0 c.in-Op.field-1 c.in-Op.field-2 c.in-Op.is))))
    c.put-in-Op.ensures
