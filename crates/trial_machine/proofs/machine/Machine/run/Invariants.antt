use Rattle.std.proofs.Common.{◌≡◌, ◌-◌, length}
use Rattle.trial_machine.specs.Machines.{Frame, IsResting, IsFrameOf}
use Rattle.trial_machine.specs.Running.{IsReady}
use Rattle.trial_machine.specs.Stores.{Loads}
use Rattle.trial_machine.proofs.machine.Machine.run.Given as goal

abbrev pub invariant-loop-clause : goal.invariant-loop-clause
invariant-loop-clause g l = record {
  between : g.W.Words.later l.fn.words l.words;
  loaded : Loads g.W.Words.addresses g.W.Words.sound g.W.Words.had g.W.Words.shown g.W.Words.later g.W.Words.gave l.fn.self.trail.kept
      l.fn.words l.self.trail.kept l.words;
  ready : IsReady l.code l.procedure l.at l.self;
  rests : (f : Frame) → IsFrameOf l.code l.procedure f → IsResting f l.first l.fn.self → IsResting f l.at l.self;
  args : l.self.desk.slots.args ≡ l.fn.self.desk.slots.args;
  count : length l.self.desk.slots.slots ≡ length l.fn.self.desk.slots.slots;
}

abbrev pub decreases-loop-clause : goal.decreases-loop-clause
decreases-loop-clause g l = 4294967296 - l.at
