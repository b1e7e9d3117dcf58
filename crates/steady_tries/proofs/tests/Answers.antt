use Rattle.steady_tries.proofs.Testing.{holds_steady, fails_steady, waits_steady, tested_reads}
use Rattle.steady_tries.proofs.Leaving.{not_otherwise_steady}
use Rattle.steady_tries.proofs.tests.Goals as goal

pub returns-clause-holds : goal.returns-clause-holds
returns-clause-holds c = holds_steady

pub returns-clause-fails : goal.returns-clause-fails
returns-clause-fails c = fails_steady

pub returns-clause-waits : goal.returns-clause-waits
returns-clause-waits c = waits_steady

pub returns-clause-reads : goal.returns-clause-reads
returns-clause-reads c = tested_reads

pub returns-clause-not_otherwise : goal.returns-clause-not_otherwise
returns-clause-not_otherwise c = not_otherwise_steady
