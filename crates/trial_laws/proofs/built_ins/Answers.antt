use Rattle.trial_laws.proofs.BuiltInLaws.{true_so, equals_so, assign_so, bad_so, unready_so}
use Rattle.trial_laws.proofs.built_ins.Goals as goal

pub returns-clause-truth : goal.returns-clause-truth
returns-clause-truth c = true_so

pub returns-clause-equals : goal.returns-clause-equals
returns-clause-equals c = equals_so

pub returns-clause-assign : goal.returns-clause-assign
returns-clause-assign c = assign_so

pub returns-clause-bad : goal.returns-clause-bad
returns-clause-bad c = bad_so

pub returns-clause-unready : goal.returns-clause-unready
returns-clause-unready c = unready_so
