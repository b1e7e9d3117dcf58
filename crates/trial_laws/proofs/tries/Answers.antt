use Rattle.trial_laws.proofs.PutLaws.{jump_leads}
use Rattle.trial_laws.proofs.TryLaws.{started, try_leads, leaves, clears}
use Rattle.trial_laws.proofs.tries.Goals as goal

pub returns-clause-start : goal.returns-clause-start
returns-clause-start c = started

pub returns-clause-begins : goal.returns-clause-begins
returns-clause-begins c = try_leads

pub returns-clause-leaving : goal.returns-clause-leaving
returns-clause-leaving c = leaves

pub returns-clause-clearing : goal.returns-clause-clearing
returns-clause-clearing c = clears

pub returns-clause-jump : goal.returns-clause-jump
returns-clause-jump c = jump_leads
