use Rattle.stored_heaps.proofs.Stores.{heap_stored}
use Rattle.stored_heaps.proofs.heaps_are_stores.Goals as goal

pub returns : goal.returns
returns c = heap_stored
