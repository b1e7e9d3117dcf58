use Rattle.fcp_reader.proofs.TextLaws.{one_fault_law}
use Rattle.fcp_reader.proofs.laws.one_fault.Goals as goal

pub returns : goal.returns
returns c = one_fault_law
