use Rattle.std.proofs.Common.{subst, Err}
use Rattle.fcp_reader.specs.Refusals.{Refuses}
use Rattle.fcp_reader.specs.Texts as terminals
use Rattle.fcp_reader.proofs.Sourced.{goal-refused}
use Rattle.fcp_reader.proofs.sources.read_goal.Goals as goal

pub returns-in-Err-goal_items_of-clause-read : goal.returns-in-Err-goal_items_of-clause-read
returns-in-Err-goal_items_of-clause-read c =
    goal-refused c.args.names.now c.args.bytes.now c.in-Ok.tokens c.terminals_of.new.names c.in-Ok-terminals_of.read.variables
    c.in-Ok-terminals_of.read.terminals
    c.in-Err-goal_items_of.stopped c.refusal.result c.in-Ok.ensures (rw c.as_slice.ensures at c.in-Ok-terminals_of.ensures.value)
    (subst (λ ws. terminals.ReadsGoal ws (Err c.in-Err-goal_items_of.stopped)) c.as_slice-2.ensures c.in-Err-goal_items_of.ensures.reads)
    (subst
    (λ ts. Refuses c.args.bytes.now ts c.in-Err-goal_items_of.stopped c.refusal.result) c.as_slice-in-Err-goal_items_of.ensures
    c.refusal.ensures)
