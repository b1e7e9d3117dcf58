use Rattle.trial_laws.proofs.PieceLaws.{pair_leads, tuple_leads, operation_leads, wide_leads}
use Rattle.trial_laws.proofs.SpawnLaws.{spawn_leads}
use Rattle.trial_laws.proofs.new_pieces.Goals as goal

pub returns-clause-pair : goal.returns-clause-pair
returns-clause-pair c = pair_leads

pub returns-clause-tuple : goal.returns-clause-tuple
returns-clause-tuple c = tuple_leads

pub returns-clause-operation : goal.returns-clause-operation
returns-clause-operation c = operation_leads

pub returns-clause-wide : goal.returns-clause-wide
returns-clause-wide c = wide_leads

pub returns-clause-spawn : goal.returns-clause-spawn
returns-clause-spawn c = spawn_leads
