use Rattle.std.proofs.Common.{◌≡◌, take}
use Rattle.trial_rows.specs.Made.{MayAllStand}
use Rattle.trial_rows.proofs.made.may_all_stand.Given as goal

abbrev pub invariant-loop-instr : goal.invariant-loop-instr
invariant-loop-instr l = (l.at ≡ l.instr-index) × MayAllStand 0 l.slots (take l.instr-index l.instrs)
