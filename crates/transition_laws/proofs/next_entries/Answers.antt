-- The laws, from their lemmas.
use Rattle.transition_laws.proofs.NextEvents.{event_of_entry, allowed_and_decided, next_there}
use Rattle.transition_laws.proofs.next_entries.Goals as goal

pub returns-clause-allowed : goal.returns-clause-allowed
returns-clause-allowed c = λ m s e. ((λ h. allowed_and_decided m s e h.0 h.1), next_there m s e)

pub returns-clause-event : goal.returns-clause-event
returns-clause-event c = event_of_entry
