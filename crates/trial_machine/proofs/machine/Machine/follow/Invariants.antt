use Rattle.std.proofs.Common.{◌≡◌, ◌-◌}
use Rattle.machine_code.specs.Compiling.{compiled}
use Rattle.trial_machine.specs.Machines.{Frame, IsOnWay, KeepsMachine}
use Rattle.trial_machine.specs.Running.{IsAt}
use Rattle.trial_machine.specs.Stores.{Loads}
use Rattle.trial_machine.proofs.machine.Machine.follow.Given as goal

abbrev pub invariant-loop-instr : goal.invariant-loop-instr
invariant-loop-instr g l = record {
  between : g.W.Words.later l.fn.words l.words;
  loaded : Loads g.W.Words.addresses g.W.Words.sound g.W.Words.had g.W.Words.shown g.W.Words.later g.W.Words.gave l.fn.self.trail.kept
      l.fn.words l.self.trail.kept l.words;
  on_way : IsAt l.code l.at l.self;
  ways : (f : Frame) → f.ops ≡ (compiled l.code).ops → IsOnWay f l.from l.fn.self → IsOnWay f l.at l.self;
  keeps : KeepsMachine l.fn.self l.self;
}

abbrev pub decreases-loop-instr : goal.decreases-loop-instr
decreases-loop-instr g l = 4294967296 - l.at
