use Rattle.stored_heaps.proofs.Stores.{place_unbound}
use Rattle.stored_heaps.proofs.places_are_unbound.Goals as goal

pub returns : goal.returns
returns c = place_unbound
