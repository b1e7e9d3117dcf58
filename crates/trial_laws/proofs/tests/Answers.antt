use Rattle.trial_laws.proofs.TestLaws.{holds_leads, fails_leads, waits_leads, otherwise_leads, not_otherwise_leads}
use Rattle.trial_laws.proofs.tests.Goals as goal

pub returns-clause-holds : goal.returns-clause-holds
returns-clause-holds c = holds_leads

pub returns-clause-fails : goal.returns-clause-fails
returns-clause-fails c = fails_leads

pub returns-clause-waits : goal.returns-clause-waits
returns-clause-waits c = waits_leads

pub returns-clause-otherwise : goal.returns-clause-otherwise
returns-clause-otherwise c = otherwise_leads

pub returns-clause-not_otherwise : goal.returns-clause-not_otherwise
returns-clause-not_otherwise c = not_otherwise_leads
