use Rattle.fcp_reader.proofs.TextLaws.{one_module_law}
use Rattle.fcp_reader.proofs.laws.one_module.Goals as goal

pub returns : goal.returns
returns c = one_module_law
