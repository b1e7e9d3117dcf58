use Rattle.steady_tries.proofs.Slots.{variable_steady, constant_steady, wide_steady, pair_steady, tuple_steady, operation_steady}
use Rattle.steady_tries.proofs.Spawning.{spawn_steady, first_steady}
use Rattle.steady_tries.proofs.Places.{place_steady}
use Rattle.steady_tries.proofs.puts.Goals as goal

pub returns-clause-variable : goal.returns-clause-variable
returns-clause-variable c = variable_steady

pub returns-clause-constant : goal.returns-clause-constant
returns-clause-constant c = constant_steady

pub returns-clause-wide : goal.returns-clause-wide
returns-clause-wide c = wide_steady

pub returns-clause-pair : goal.returns-clause-pair
returns-clause-pair c = pair_steady

pub returns-clause-tuple : goal.returns-clause-tuple
returns-clause-tuple c = tuple_steady

pub returns-clause-operation : goal.returns-clause-operation
returns-clause-operation c = operation_steady

pub returns-clause-spawn : goal.returns-clause-spawn
returns-clause-spawn c = spawn_steady

pub returns-clause-first_ : goal.returns-clause-first_
returns-clause-first_ c = first_steady

pub returns-clause-place : goal.returns-clause-place
returns-clause-place c = place_steady
