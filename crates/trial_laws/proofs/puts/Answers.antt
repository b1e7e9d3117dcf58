use Rattle.trial_laws.proofs.PutLaws.{variable_leads, read_only_leads, constant_leads, base_stays}
use Rattle.trial_laws.proofs.puts.Goals as goal

pub returns-clause-variable : goal.returns-clause-variable
returns-clause-variable c = variable_leads

pub returns-clause-read_only : goal.returns-clause-read_only
returns-clause-read_only c = read_only_leads

pub returns-clause-constant : goal.returns-clause-constant
returns-clause-constant c = constant_leads

pub returns-clause-base : goal.returns-clause-base
returns-clause-base c = base_stays
