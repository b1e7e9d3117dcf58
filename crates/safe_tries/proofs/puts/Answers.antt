use Rattle.safe_tries.proofs.SlotLaws.{safe_variable, safe_constant}
use Rattle.safe_tries.proofs.PutLaws.{safe_pair, safe_tuple, safe_operation, safe_wide, safe_child}
use Rattle.safe_tries.proofs.puts.Goals as goal

pub returns-clause-variable : goal.returns-clause-variable
returns-clause-variable c = safe_variable

pub returns-clause-constant : goal.returns-clause-constant
returns-clause-constant c = safe_constant

pub returns-clause-pair : goal.returns-clause-pair
returns-clause-pair c = safe_pair

pub returns-clause-tuple : goal.returns-clause-tuple
returns-clause-tuple c = safe_tuple

pub returns-clause-operation : goal.returns-clause-operation
returns-clause-operation c = safe_operation

pub returns-clause-wide : goal.returns-clause-wide
returns-clause-wide c = safe_wide

pub returns-clause-child : goal.returns-clause-child
returns-clause-child c = safe_child
