-- The law, proved in a file of its own.
use Rattle.state_laws.proofs.UnboundReads.{reads_are_unbound}
use Rattle.state_laws.proofs.unbound_reads.Goals as goal

pub returns : goal.returns
returns c = reads_are_unbound
