-- What an instruction of the machine says, with the tables of constants and steps that it names.
use Rattle.std.specs.Prelude.{◌≡◌, ℕ, ◌+◌, ◌<◌, ◌≤◌, ℤ, pos, negsuc, ◌-ℤ◌, ◌+ℤ◌, ◌*ℤ◌, List, length, map, take, drop, Option, Some, None, if◌then◌else◌, nat_lt, slice_get}
use Rattle.heap_words.specs.declared.cell.Cell.{Cell}
use Rattle.heap_words.specs.declared.cell.Cell.TheVariants as cells
use Rattle.heap_words.specs.declared.steps.ExprStep.{ExprStep}
use Rattle.heap_words.specs.declared.steps.ExprStep.TheVariants as table
use Rattle.heap_words.specs.Cells.{decoded}
use Rattle.fcp_model.specs.declared.term.ArithOp.{ArithOp}
use Rattle.fcp_model.specs.Places.{Variable}
use Rattle.fcp_model.specs.Terms.{Term, number, string, nil}
use Rattle.machine_code.specs.declared.instr.Instr.{Instr}
use Rattle.machine_code.specs.declared.instr.Instr.TheVariants as instr
use Rattle.machine_code.specs.Slots.{Step, push, apply}
use Rattle.machine_code.specs.Instructions.{Op, Try, GetFirst, GetCons, GetTuple, PutVar, PutWord, PutCons, PutTuple, Unify, Jump, Test, Otherwise, Spawn, Commit}

-- the lower 56 bits of a signed number of so many
abbrev pub low_bits : ℤ → ℤ
low_bits (pos n) = pos n
low_bits (negsuc n) = negsuc n +ℤ pos 0x100000000000000

-- a number of 64 bits, from its lower 56 bits as a signed number and its upper eight
abbrev pub wide : ℤ → ℕ → ℤ
wide low high = (if nat_lt high 128 then pos high else pos high -ℤ pos 256) *ℤ pos 0x100000000000000 +ℤ low_bits low

-- the number of a Small
abbrev pub small_in : Option Cell → ℤ
small_in (Some (cells.Small z)) = z
small_in _ = pos 0

abbrev pub small_of : Option ℕ → ℤ
small_of None = pos 0
small_of (Some w) = small_in (decoded w)

-- the constant of a cell; a `Wide` names an element of the list of Smalls, from 0
abbrev pub constant : List ℕ → Option Cell → Term Variable
constant smalls (Some (cells.Small z)) = number z
constant smalls (Some (cells.Wide at high)) = number (wide (small_of (slice_get smalls at)) high)
constant smalls (Some (cells.Str s)) = string s.0
constant smalls _ = nil

-- a step of the table
abbrev pub step_of : ExprStep → Step
step_of (table.Push n) = push n
step_of (table.Apply o) = apply o

-- so many steps of the table from a position on
abbrev pub steps_at : List ExprStep → ℕ → ℕ → List Step
steps_at steps at len = map step_of (take len (drop at steps))

-- an instruction with what it names
abbrev pub op_of : List ℕ → List ExprStep → Instr → Op
op_of smalls steps (instr.Try clause next) = Try clause next
op_of smalls steps (instr.GetFirst slot var) = GetFirst slot var
op_of smalls steps (instr.GetCons slot left right put) = GetCons slot left right put
op_of smalls steps (instr.GetTuple slot first parts put) = GetTuple slot first parts put
op_of smalls steps (instr.PutVar slot var ro) = PutVar slot var ro
op_of smalls steps (instr.PutWord slot word) = PutWord slot (constant smalls (decoded word))
op_of smalls steps (instr.PutCons slot left right) = PutCons slot left right
op_of smalls steps (instr.PutTuple slot first parts op) = PutTuple slot first parts op
op_of smalls steps (instr.Unify left right) = Unify left right
op_of smalls steps (instr.Jump to) = Jump to
op_of smalls steps (instr.Test kind left left_len right right_len) =
    Test kind (steps_at steps left left_len) (steps_at steps right right_len)
op_of smalls steps instr.Otherwise = Otherwise
op_of smalls steps (instr.Spawn procedure first parts) = Spawn procedure first parts
op_of smalls steps instr.Commit = Commit

-- a cell that names no element of a list, or one that there is
abbrev pub WordFits : List ℕ → Option Cell → Type 0
WordFits smalls (Some (cells.Wide at high)) = at < length smalls
WordFits smalls _ = Unit {0}

-- what is built has a word: a tuple of fewer than 66 parts, or an operation with its two operands
abbrev pub HasWord : ℕ → Option ArithOp → Type 0
HasWord parts None = parts < 66
HasWord parts (Some o) = parts ≡ 2

-- what an instruction names is there, and what it builds has a word
abbrev pub Fits : List ℕ → List ExprStep → Instr → Type 0
Fits smalls steps (instr.PutWord slot word) = WordFits smalls (decoded word)
Fits smalls steps (instr.Test kind left left_len right right_len) = (left + left_len ≤ length steps) × (right + right_len ≤ length steps)
Fits smalls steps (instr.PutTuple slot first parts op) = HasWord parts op
Fits smalls steps _ = Unit {0}
