use Rattle.stored_heaps.proofs.Stores.{heap_stored}
use Rattle.trial_rows.proofs.uncompiled.answer.Goals as goal

pub trial-requires-clause-stored : goal.trial-requires-clause-stored
trial-requires-clause-stored c = heap_stored c.in_ok-laid.laid.heap c.in_ok-laid.ensures.heap
