-- Code in the making: what was put after the code so far.
use Rattle.std.specs.Prelude.{◌≡◌, ℕ, ◌+◌, List, [], ◌++◌, length, map, Option, Some}
use Rattle.heap_words.specs.declared.cell.Cell.{Cell}
use Rattle.heap_words.specs.declared.cell.Cell.TheVariants as cells
use Rattle.machine_code.specs.declared.instr.Instr.{Instr}
use Rattle.machine_code.specs.declared.instr.Instr.TheVariants as instr
use Rattle.machine_code.specs.Each.{Each}
use Rattle.machine_code.specs.Instructions.{Op}
use Rattle.machine_code.specs.Reading.{op_of, HasWord, Fits}
use Rattle.head_code.specs.declared.emitter.Emitter.{Emitter}

-- what all instructions name is there, and what they build has a word
abbrev pub IsFine : Emitter → Type 0
IsFine e = Each (Fits e.smalls.keys e.steps.items) e.instrs.items

-- the code so far
abbrev pub ops_of : Emitter → List Op
ops_of e = map (op_of e.smalls.keys e.steps.items) e.instrs.items

-- the position of the next instruction
abbrev pub after : Emitter → ℕ
after e = length e.instrs.items

-- code was put after the code so far
pub record Emits (old new : Emitter) (code : List Op) : Type 0 where
  pub size : length new.instrs.items ≡ length old.instrs.items + length code
  pub fine : IsFine old → IsFine new
  pub ops : IsFine old → ops_of new ≡ ops_of old ++ code

-- an instruction that names no constant and no steps; what it builds has a word
abbrev pub IsPlain : Instr → Type 0
IsPlain (instr.PutWord slot word) = ⊥
IsPlain (instr.Test kind left left_len right right_len) = ⊥
IsPlain (instr.PutTuple slot first parts op) = HasWord parts op
IsPlain _ = Unit {0}

-- what such an instruction says
abbrev pub plain_op : Instr → Op
plain_op i = op_of [] [] i

-- a string, `[]` or a Small
abbrev pub IsConstant : Option Cell → Type 0
IsConstant (Some (cells.Small z)) = Unit {0}
IsConstant (Some (cells.Str s)) = Unit {0}
IsConstant (Some cells.Nil) = Unit {0}
IsConstant _ = ⊥
