use Rattle.steady_tries.proofs.Unifying.{unified_steady, all_noted, unified_reads}
use Rattle.steady_tries.proofs.Leaving.{clash_steady, pause_steady}
use Rattle.steady_tries.proofs.unifies.Goals as goal

pub returns-clause-done : goal.returns-clause-done
returns-clause-done c = unified_steady

pub returns-clause-noted : goal.returns-clause-noted
returns-clause-noted c = all_noted

pub returns-clause-reads : goal.returns-clause-reads
returns-clause-reads c = unified_reads

pub returns-clause-clash : goal.returns-clause-clash
returns-clause-clash c = clash_steady

pub returns-clause-pause : goal.returns-clause-pause
returns-clause-pause c = pause_steady
