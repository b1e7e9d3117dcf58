use Rattle.std.proofs.Common.{take}
use Rattle.trial_laws.specs.Laws.{AreNoted}
use Rattle.trial_machine.proofs.leave.note_reads.Given as goal

abbrev pub invariant-loop-place : goal.invariant-loop-place
invariant-loop-place l = AreNoted l.fn.waits (take l.place-index l.place-items) l.waits
