use Rattle.trial_laws.proofs.FirstLaws.{first_leads}
use Rattle.trial_laws.proofs.gets.Goals as goal

pub returns : goal.returns
returns c = record { first_ = first_leads }
