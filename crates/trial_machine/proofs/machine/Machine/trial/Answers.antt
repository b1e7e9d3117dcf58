use Rattle.stored_tries.proofs.Handing.{reads_of}
use Rattle.stored_tries.proofs.Stores.{kept_low}
use Rattle.trial_machine.proofs.machine.Machine.trial.Goals as goal

pub returns-clause-reads : goal.returns-clause-reads
returns-clause-reads g c =
    reads_of c.decide.new.self.trail.kept c.once.ensures.kept
    (kept_low g.met.W.Words.laws c.decide.new.self.trail.kept c.decide.new.words c.in_ok-decided.ensures.loaded.stored)
