-- Instructions that may stand in code without steps and Smalls, whatever stands around them.
use Rattle.std.specs.Prelude.{ℕ, suc, List, [], ◌∷◌}
use Rattle.machine_code.specs.declared.instr.Instr.{Instr}
use Rattle.machine_code.specs.Instructions.{Op, GetFirst, Test}
use Rattle.machine_code.specs.Reading.{op_of, Fits}
use Rattle.machine_code.specs.Sound.{NamesBelow}
use Rattle.machine_code.specs.Targets.{LeadsBehind}

-- an instruction that is no first occurrence and no test
abbrev pub IsFree : Op → Type 0
IsFree (GetFirst slot var) = ⊥
IsFree (Test k left right) = ⊥
IsFree _ = Unit {0}

-- it leads behind its position, what it names is there, its slots are below a number, and it is free
pub record MayStand (at n : ℕ) (i : Instr) : Type 0 where
  pub behind : LeadsBehind at (op_of [] [] i)
  pub there : Fits [] [] i
  pub slots : NamesBelow n i
  pub free : IsFree (op_of [] [] i)

-- so all instructions from a position on
abbrev pub MayAllStand : ℕ → ℕ → List Instr → Type 0
MayAllStand at n [] = Unit {0}
MayAllStand at n (i ∷ is) = MayStand at n i × MayAllStand (suc at) n is
