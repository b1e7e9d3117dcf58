-- The laws, proved beside the definitions.
use Rattle.report_laws.proofs.MoreEvents.{snapshot_added, nothing_added, snapshot_written}
use Rattle.report_laws.proofs.snapshots.Goals as goal

pub returns-clause-added : goal.returns-clause-added
returns-clause-added c = snapshot_added

pub returns-clause-nothing : goal.returns-clause-nothing
returns-clause-nothing c = nothing_added

pub returns-clause-written : goal.returns-clause-written
returns-clause-written c = snapshot_written
