-- The listing of a module's code, for people: a line for each procedure, and then a line for each instruction.
use Rattle.std.specs.Prelude.{ℕ, suc, Bool, true, false, List, [], ◌∷◌, ◌++◌, take, drop, Option, Some, None, slice_get, nat_eq, if◌then◌else◌, codes, decimal}
use Rattle.std.specs.Fmt.{signed_decimal}
use Rattle.std.specs.List.{flat_map}
use Rattle.heap_words.specs.declared.cell.Cell.{Cell}
use Rattle.heap_words.specs.declared.cell.Cell.TheVariants as cells
use Rattle.heap_words.specs.declared.steps.ExprStep.{ExprStep}
use Rattle.heap_words.specs.declared.steps.ExprStep.TheVariants as table
use Rattle.heap_words.specs.declared.steps.TestKind.{TestKind}
use Rattle.heap_words.specs.declared.steps.TestKind.TheVariants as kinds
use Rattle.heap_words.specs.Cells.{decoded}
use Rattle.fcp_model.specs.declared.term.ArithOp.{ArithOp}
use Rattle.fcp_model.specs.declared.term.ArithOp.TheVariants as arith
use Rattle.fcp_model.specs.declared.goal.TheConstants.{TRUE_PROCEDURE, UNIFY_PROCEDURE, ASSIGN_PROCEDURE}
use Rattle.fcp_model.specs.Spelling.{Bytes, string_text, name_at}
use Rattle.machine_code.specs.declared.instr.Instr.{Instr}
use Rattle.machine_code.specs.declared.instr.Instr.TheVariants as instr
use Rattle.machine_code.specs.Machine.{Entrance}
use Rattle.machine_code.specs.Compiling.{Tables}

-- one to four numbers, each after its label
abbrev pub one : Bytes → ℕ → Bytes
one a x = a ++ decimal x

abbrev pub two : Bytes → ℕ → Bytes → ℕ → Bytes
two a x b y = one a x ++ one b y

abbrev pub three : Bytes → ℕ → Bytes → ℕ → Bytes → ℕ → Bytes
three a x b y c z = two a x b y ++ one c z

abbrev pub four : Bytes → ℕ → Bytes → ℕ → Bytes → ℕ → Bytes → ℕ → Bytes
four a x b y c z d w = three a x b y c z ++ one d w

-- a procedure by name and number of arguments
abbrev pub title_text : List Bytes → Entrance → Bytes
title_text names e = string_text (name_at names e.name) ++ one (codes "/") e.arity

-- a built-in process by its number
abbrev pub built_in_text : ℕ → Bytes
built_in_text p =
    if nat_eq p TRUE_PROCEDURE then codes "true/0" else
    (if nat_eq p UNIFY_PROCEDURE then codes "=/2" else (if nat_eq p ASSIGN_PROCEDURE then codes ":=/2" else codes "none"))

-- what a number of a procedure calls
abbrev pub called_text : List Bytes → List Entrance → ℕ → Bytes
called_text names es p = elim (slice_get es p) [ None ↦ built_in_text p | Some e ↦ title_text names e ]

-- a constant as its cell says it
abbrev pub constant_text : List Bytes → Option Cell → Bytes
constant_text names (Some (cells.Small z)) = signed_decimal z
constant_text names (Some (cells.Wide at high)) = two (codes "small=") at (codes " high=") high
constant_text names (Some (cells.Str s)) = string_text (name_at names s.0)
constant_text names _ = codes "[]"

abbrev pub operator_text : ArithOp → Bytes
operator_text arith.Add = codes "+"
operator_text arith.Sub = codes "-"
operator_text arith.Mul = codes "*"
operator_text arith.Div = codes "/"
operator_text arith.Mod = codes "mod"

abbrev pub test_text : TestKind → Bytes
test_text kinds.True = codes "true"
test_text kinds.Integer = codes "integer"
test_text kinds.String = codes "string"
test_text kinds.Constant = codes "constant"
test_text kinds.List = codes "list"
test_text kinds.Tuple = codes "tuple"
test_text kinds.Known = codes "known"
test_text kinds.Unknown = codes "unknown"
test_text kinds.Same = codes "=="
test_text kinds.NotSame = codes "\\=="
test_text kinds.Less = codes "<"
test_text kinds.AtMost = codes "=<"
test_text kinds.Greater = codes ">"
test_text kinds.AtLeast = codes ">="
test_text kinds.Equal = codes "=:="
test_text kinds.NotEqual = codes "=\\="

-- a step: the number of a slot, or an operator
abbrev pub step_text : ExprStep → Bytes
step_text (table.Push n) = one (codes " ") n
step_text (table.Apply o) = codes " " ++ operator_text o

-- so many steps of the table after a label; nothing where there are none
abbrev pub side_text : Bytes → List ExprStep → Bytes
side_text label [] = []
side_text label (s ∷ ss) = label ++ flat_map step_text (s ∷ ss)

-- what is said of an operator, where there is one
abbrev pub built_by_text : Option ArithOp → Bytes
built_by_text None = []
built_by_text (Some o) = codes " op=" ++ operator_text o

-- `?` at a read-only occurrence
abbrev pub mark_text : Bool → Bytes
mark_text true = codes "?"
mark_text false = []

-- an instruction that opens a value
abbrev pub opener_text : Instr → Bytes
opener_text (instr.GetCons slot left right put) =
    four (codes "GetCons slot=") slot (codes " left=") left (codes " right=") right (codes " put=") put
opener_text (instr.GetTuple slot first parts put) =
    four (codes "GetTuple slot=") slot (codes " first=") first (codes " parts=") parts (codes " put=") put
opener_text _ = []

-- an instruction that builds a pair or a tuple
abbrev pub builder_text : Instr → Bytes
builder_text (instr.PutCons slot left right) = three (codes "PutCons slot=") slot (codes " left=") left (codes " right=") right
builder_text (instr.PutTuple slot first parts op) =
    three (codes "PutTuple slot=") slot (codes " first=") first (codes " parts=") parts ++ built_by_text op
builder_text _ = []

-- an instruction with its operands by name; a clause's variables are X1, X2 and so on
abbrev pub instr_text : List Bytes → Tables → Instr → Bytes
instr_text names t (instr.Try clause next) = two (codes "Try clause=") clause (codes " next=") next
instr_text names t (instr.GetFirst slot var) = two (codes "GetFirst slot=") slot (codes " X") var
instr_text names t (instr.GetCons slot left right put) = opener_text (instr.GetCons slot left right put)
instr_text names t (instr.GetTuple slot first parts put) = opener_text (instr.GetTuple slot first parts put)
instr_text names t (instr.PutVar slot var ro) = two (codes "PutVar slot=") slot (codes " X") var ++ mark_text ro
instr_text names t (instr.PutWord slot word) = one (codes "PutWord slot=") slot ++ codes " " ++ constant_text names (decoded word)
instr_text names t (instr.PutCons slot left right) = builder_text (instr.PutCons slot left right)
instr_text names t (instr.PutTuple slot first parts op) = builder_text (instr.PutTuple slot first parts op)
instr_text names t (instr.Unify left right) = two (codes "Unify left=") left (codes " right=") right
instr_text names t (instr.Jump to) = one (codes "Jump to=") to
instr_text names t (instr.Test kind left left_len right right_len) =
    codes "Test " ++ test_text kind ++ side_text (codes " left") (take left_len (drop left t.steps))
    ++ side_text (codes " right") (take right_len (drop right t.steps))
instr_text names t instr.Otherwise = codes "Otherwise"
instr_text names t (instr.Spawn procedure first parts) =
    codes "Spawn " ++ called_text names t.procedures procedure ++ two (codes " first=") first (codes " parts=") parts
instr_text names t instr.Commit = codes "Commit"

-- an instruction's line: its position, and what it is
abbrev pub instr_line : List Bytes → Tables → ℕ → Instr → Bytes
instr_line names t at i = decimal at ++ codes " " ++ instr_text names t i ++ codes "\n"

-- the lines of instructions from a position on
abbrev pub instr_lines : List Bytes → Tables → ℕ → List Instr → Bytes
instr_lines names t at [] = []
instr_lines names t at (i ∷ is) = instr_line names t at i ++ instr_lines names t (suc at) is

-- a procedure's line: its name, its number of arguments, and where it begins
abbrev pub procedure_line : List Bytes → Entrance → Bytes
procedure_line names e = title_text names e ++ one (codes " at ") e.first ++ codes "\n"

-- the listing: the procedures, and then the instructions from position 0 on
abbrev pub listing_text : List Bytes → Tables → Bytes
listing_text names t = flat_map (procedure_line names) t.procedures ++ instr_lines names t 0 t.instrs
