-- The laws, proved in files of their own.
use Rattle.state_laws.proofs.StartStates.{a_start_is_lawful}
use Rattle.state_laws.proofs.StatesAfterEntries.{an_entry_keeps_states_lawful}
use Rattle.state_laws.proofs.lawful_states.Goals as goal

pub returns : goal.returns
returns c = record { start = a_start_is_lawful; entry = an_entry_keeps_states_lawful }
