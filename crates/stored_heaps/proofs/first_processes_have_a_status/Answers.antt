use Rattle.stored_heaps.proofs.Stores.{first_status}
use Rattle.stored_heaps.proofs.first_processes_have_a_status.Goals as goal

pub returns : goal.returns
returns c = first_status
