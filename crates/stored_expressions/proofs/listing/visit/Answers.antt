use Rattle.std.proofs.Common.{◌≡◌, ℕ, ◌++◌, Option, Some, sym, ap, ◌∙◌}
use Rattle.fcp_model.specs.declared.term.ArithOp.{ArithOp}
use Rattle.heap_words.proofs.Keeps.{loaded_twice, still_says}
use Rattle.ro_unify.specs.Occurs.{stack}
use Rattle.ro_unify.proofs.Leads.{each_stays}
use Rattle.stored_expressions.specs.Listing.{operation_of, step_for, operands}
use Rattle.stored_expressions.proofs.listing.visit.Goals as goal

pub returns-in_ok-push_operands-in-Some-clause-loaded : goal.returns-in_ok-push_operands-in-Some-clause-loaded
returns-in_ok-push_operands-in-Some-clause-loaded g c =
    loaded_twice g.met.W.Words.laws c.in_ok-operation.ensures.loaded c.in_ok-push_operands-in-Some.ensures.loaded

pub returns-in_ok-push_operands-in-Some-clause-visits : goal.returns-in_ok-push_operands-in-Some-clause-visits
returns-in_ok-push_operands-in-Some-clause-visits g c m i =
    let is : operation_of m c.args.next ≡ Some (c.in-Some.op, c.in-Some.at) =
    still_says g.met.W.Words.laws (λ m. operation_of m c.args.next ≡ c.in_ok-operation.field-0)
    c.in_ok-push_operands-in-Some.ensures.loaded c.in_ok-operation.ensures.operation m i ∙ c.in-Some.is in (
      ap (step_for c.args.next) (sym is),
      c.in_ok-push_operands-in-Some.ensures.work m i
          ∙ ap (λ (o : Option (ArithOp × ℕ)). operands m o ++ stack c.args.work.now.items) (sym is),
    )

pub returns-in_ok-push_operands-in-Some-clause-leads : goal.returns-in_ok-push_operands-in-Some-clause-leads
returns-in_ok-push_operands-in-Some-clause-leads g c h =
    c.in_ok-push_operands-in-Some.ensures.leads
    (each_stays g.met.W.Words.laws _ _ (stack c.args.work.now.items) c.operation.ensures.between h)
