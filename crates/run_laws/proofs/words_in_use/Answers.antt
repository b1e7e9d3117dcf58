-- The laws, proved beside the definitions.
use Rattle.run_laws.proofs.KnownWords.{places_known, processes_known, front_ready}
use Rattle.run_laws.proofs.words_in_use.Goals as goal

pub returns-clause-front : goal.returns-clause-front
returns-clause-front c = front_ready

pub returns-clause-places : goal.returns-clause-places
returns-clause-places c = places_known

pub returns-clause-processes : goal.returns-clause-processes
returns-clause-processes c = processes_known
