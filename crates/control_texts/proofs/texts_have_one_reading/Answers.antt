use Rattle.control_texts.proofs.OneFault.{one-reading, one-fault, read-or-fault}
use Rattle.control_texts.proofs.texts_have_one_reading.Goals as goal

pub returns-clause-reading : goal.returns-clause-reading
returns-clause-reading c = one-reading

pub returns-clause-fault : goal.returns-clause-fault
returns-clause-fault c = one-fault

pub returns-clause-apart : goal.returns-clause-apart
returns-clause-apart c = read-or-fault
