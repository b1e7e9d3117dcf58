-- The laws, from their lemmas.
use Rattle.fcp_laws.proofs.LawfulReports.{is_run_report}
use Rattle.fcp_laws.proofs.OneReport.{one_report}
use Rattle.fcp_laws.proofs.reports.Goals as goal

pub returns-clause-one : goal.returns-clause-one
returns-clause-one c = one_report

pub returns-clause-lawful : goal.returns-clause-lawful
returns-clause-lawful c = is_run_report
