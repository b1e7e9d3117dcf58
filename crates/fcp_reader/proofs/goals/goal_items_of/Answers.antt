use Rattle.std.proofs.Common.{◌≡◌, ◌+◌, ◌∙◌, sym, subst, arith, Some, pos}
use Rattle.fcp_grammar.specs.declared.terminals.Terminal.TheVariants as terminal
use Rattle.fcp_grammar.specs.declared.sides.Side.TheVariants.{Start}
use Rattle.fcp_reader.specs.declared.goals.GoalAt.TheVariants.{Items}
use Rattle.fcp_reader.specs.Goals.{whole}
use Rattle.fcp_reader.proofs.Few.{IsFew, few-first, few-step, few-whole}
use Rattle.fcp_reader.proofs.Loops.{Kept, none-yet, stop-unexpected, stop-fault, go-on, passes, reads-all, ends-soon}
use Rattle.fcp_reader.proofs.GoalMachine.{goals}
use Rattle.fcp_reader.proofs.goals.goal_items_of.Goals as goal

pub loop-i-init : goal.loop-i-init
loop-i-init c = record {
  kept = subst (λ v. Kept goals c.args.terminals.now 0 (Items v Start) 0) (sym c.empty.ensures) (none-yet goals c.args.terminals.now);
  few = subst (λ v. IsFew (Items v Start)) (sym c.empty.ensures) few-first;
}

pub returns-in_default-next : goal.returns-in_default-next
returns-in_default-next c = record {
  reads =
      stop-unexpected goals c.args.terminals.now c.loop-i.i c.loop-i.state c.loop-i.depth
      (terminal.Int (pos 0) 0) c.loop-i.invariant.kept c.loop-i-test.true (sym c.in-Ok.ensures ∙ c.in_default-next.is);
  few = tt;
}

pub returns-in-Some-fault_of : goal.returns-in-Some-fault_of
returns-in-Some-fault_of c = record {
  reads =
      stop-fault goals c.args.terminals.now c.loop-i.i c.loop-i.state c.loop-i.depth
      (terminal.Int (pos 0) 0) c.loop-i.invariant.kept c.loop-i-test.true
      c.in-Some.next c.in-Some.large c.in-Some-fault_of.code (sym c.in-Ok.ensures ∙ c.in-Some.is) (sym c.in-Some-fault_of.ensures);
  few = tt;
}

pub loop-i-preserved : goal.loop-i-preserved
loop-i-preserved c = record {
  kept = subst (λ n. Kept goals c.args.terminals.now (c.loop-i.i + 1) c.in-Some.next n) (sym c.deeper-depth.ensures)
      (go-on goals c.args.terminals.now c.loop-i.i c.loop-i.state c.loop-i.depth
      (terminal.Int (pos 0) 0) c.loop-i.invariant.kept c.loop-i-test.true
      c.in-Some.next c.in-Some.large (sym c.in-Ok.ensures ∙ c.in-Some.is) (sym c.fault_of.ensures ∙ c.in_default-fault_of.is));
  few = few-step c.loop-i.state c.in-Some.next _ c.loop-i.invariant.few
      (passes goals c.args.terminals.now c.loop-i.i c.loop-i.state c.loop-i.depth
      (terminal.Int (pos 0) 0) c.loop-i.invariant.kept c.loop-i-test.true
      c.in-Some.next c.in-Some.large (sym c.in-Ok.ensures ∙ c.in-Some.is) (sym c.fault_of.ensures ∙ c.in_default-fault_of.is));
}

pub returns-in-Some-items : goal.returns-in-Some-items
returns-in-Some-items c =
    let e : whole c.loop-i.state ≡ Some c.in-Some-items.items = sym c.in-Ok-whole.ensures ∙ c.in-Some-items.is in
    record {
      reads =
          reads-all goals c.args.terminals.now c.loop-i.i c.loop-i.state c.loop-i.depth c.in-Some-items.items c.loop-i.invariant.kept
          (omega arith) e;
      few = few-whole c.loop-i.state c.in-Some-items.items c.loop-i.invariant.few e;
    }

pub returns-in-None : goal.returns-in-None
returns-in-None c = record {
  reads =
      ends-soon goals c.args.terminals.now c.loop-i.i c.loop-i.state c.loop-i.depth c.loop-i.invariant.kept (omega arith)
      (sym c.in-Ok-whole.ensures ∙ c.in-None.is);
  few = tt;
}
