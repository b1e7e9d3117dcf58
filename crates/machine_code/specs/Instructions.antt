-- The fourteen instructions of the abstract machine, with the constants and steps that they name.
use Rattle.std.specs.Prelude.{ℕ, Bool, List, Option}
use Rattle.fcp_model.specs.declared.term.ArithOp.{ArithOp}
use Rattle.heap_words.specs.declared.steps.TestKind.{TestKind}
use Rattle.fcp_model.specs.Places.{Variable}
use Rattle.fcp_model.specs.Terms.{Term}
use Rattle.machine_code.specs.Slots.{Step}

-- an instruction; its numbers are those of slots, positions of the code, a clause's variables, clauses and procedures
pub data Op : Type 0 where
  -- clause, next: begins a clause
  Try : ℕ → ℕ → Op
  -- slot, variable
  GetFirst : ℕ → ℕ → Op
  -- slot, left, right, put
  GetCons : ℕ → ℕ → ℕ → ℕ → Op
  -- slot, first, parts, put
  GetTuple : ℕ → ℕ → ℕ → ℕ → Op
  -- slot, variable, read-only
  PutVar : ℕ → ℕ → Bool → Op
  -- slot, constant
  PutWord : ℕ → Term Variable → Op
  -- slot, left, right
  PutCons : ℕ → ℕ → ℕ → Op
  -- slot, first, parts
  PutTuple : ℕ → ℕ → ℕ → Option ArithOp → Op
  -- left, right
  Unify : ℕ → ℕ → Op
  -- position
  Jump : ℕ → Op
  -- steps of the left and of the right side
  Test : TestKind → List Step → List Step → Op
  Otherwise : Op
  -- procedure, first, parts
  Spawn : ℕ → ℕ → ℕ → Op
  Commit : Op
