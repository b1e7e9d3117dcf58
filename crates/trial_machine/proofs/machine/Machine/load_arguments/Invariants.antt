use Rattle.std.proofs.Common.{◌≡◌, length}
use Rattle.trial_machine.specs.Goals.{AreKept, IsIdle}
use Rattle.trial_machine.specs.Stores.{Loads}
use Rattle.trial_machine.proofs.machine.Machine.load_arguments.Given as goal

abbrev pub invariant-loop-i : goal.invariant-loop-i
invariant-loop-i g l = record {
  between : g.W.Words.later l.fn.words l.words;
  loads : Loads g.W.Words.addresses g.W.Words.sound g.W.Words.had g.W.Words.shown g.W.Words.later g.W.Words.gave l.fn.self.trail.kept
      l.fn.words l.self.trail.kept l.words;
  kept : AreKept l.self.trail.kept l.process l.i l.self.desk.slots.args;
  idle : IsIdle l.self;
  count : length l.self.desk.slots.slots ≡ length l.fn.self.desk.slots.slots;
}
