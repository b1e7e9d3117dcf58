use Rattle.fcp_loader.proofs.FirstFaults.{is-first, none-empty}
use Rattle.fcp_loader.proofs.OneFirst.{only-first, same-first}
use Rattle.fcp_loader.proofs.first.first_is_least.Goals as goal

pub returns : goal.returns
returns c = record { some = is-first; none = none-empty; only = only-first; same = same-first }
