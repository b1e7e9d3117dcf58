use Rattle.steady_tries.proofs.Going.{jump_steady, jump_between}
use Rattle.steady_tries.proofs.Slots.{otherwise_steady}
use Rattle.steady_tries.proofs.goes.Goals as goal

pub returns-clause-jump : goal.returns-clause-jump
returns-clause-jump c = jump_steady

pub returns-clause-otherwise : goal.returns-clause-otherwise
returns-clause-otherwise c = otherwise_steady

pub returns-clause-between : goal.returns-clause-between
returns-clause-between c = jump_between
