-- The laws, proved beside the definitions.
use Rattle.report_laws.proofs.MoreEvents.{line_added}
use Rattle.report_laws.proofs.WrittenReports.{written}
use Rattle.report_laws.proofs.texts.Goals as goal

pub returns-clause-line : goal.returns-clause-line
returns-clause-line c = line_added

pub returns-clause-report : goal.returns-clause-report
returns-clause-report c = written
