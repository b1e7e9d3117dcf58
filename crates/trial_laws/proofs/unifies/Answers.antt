use Rattle.trial_laws.proofs.UnifyLaws.{unify_leads, clash_leads, pause_leads}
use Rattle.trial_laws.proofs.unifies.Goals as goal

pub returns-clause-done : goal.returns-clause-done
returns-clause-done c = unify_leads

pub returns-clause-clash : goal.returns-clause-clash
returns-clause-clash c = clash_leads

pub returns-clause-pause : goal.returns-clause-pause
returns-clause-pause c = pause_leads
