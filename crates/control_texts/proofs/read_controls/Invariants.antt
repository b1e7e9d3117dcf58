use Rattle.std.proofs.Common.{length}
use Rattle.control_texts.proofs.Reached.{HasTaken}
use Rattle.control_texts.proofs.read_controls.Given as goal

abbrev pub invariant-loop-start : goal.invariant-loop-start
invariant-loop-start l = HasTaken l.text l.rest l.reading l.controls

abbrev pub decreases-loop-start : goal.decreases-loop-start
decreases-loop-start l = length l.rest
