use Rattle.std.proofs.Common.{rules}
use Rattle.trial_rows.proofs.MadeCode.{next_stands, all_stand}
use Rattle.trial_rows.proofs.made.may_all_stand.Goals as goal

pub loop-instr-preserved : goal.loop-instr-preserved
loop-instr-preserved c = (
  search rules,
  next_stands c.args.slots c.args.instrs.now c.loop-instr.instr-index c.loop-instr.at _ c.loop-instr.invariant.0
      c.loop-instr-test.true c.loop-instr.invariant.1 (c.may_stand.ensures (search rules)),
)

pub returns : goal.returns
returns c = λ e. all_stand c.args.slots c.args.instrs.now c.loop-instr.instr-index (search rules) c.loop-instr.invariant.1
