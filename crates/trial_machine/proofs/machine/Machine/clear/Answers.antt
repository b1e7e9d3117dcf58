use Rattle.std.proofs.Common.{[], ap}
use Rattle.trial_laws.specs.AtHand.{AtHand}
use Rattle.trial_machine.proofs.machine.Machine.clear.Goals as goal

pub returns-clause-idle : goal.returns-clause-idle
returns-clause-idle c = record {
  pieces = ap (λ (q : AtHand). q.pieces) (c.leave.ensures.becomes [] [] []);
  behind = ap (λ (q : AtHand). q.behind) (c.leave.ensures.becomes [] [] []);
  binds = c.clear.ensures.binds;
  reads = c.clear.ensures.reads;
  waits = c.clear-2.ensures;
}
