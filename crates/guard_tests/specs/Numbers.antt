-- The numbers of words, and what an expression comes to.
use Rattle.std.specs.Prelude.{ℕ, ◌-◌, ◌+ℤ◌, ◌*ℤ◌, ℤ, pos, negsuc, Option, Some, None, if◌then◌else◌, nat_lt}
use Rattle.heap_words.specs.Cells.{decoded}
use Rattle.heap_words.specs.Trails.{Memory}
use Rattle.heap_words.specs.declared.cell.Cell.{Cell}
use Rattle.heap_words.specs.declared.cell.Cell.TheVariants as cell
use Rattle.word_states.specs.Numbers.{low_bits}
use Rattle.fcp_model.specs.Expressions as terms
use Rattle.fcp_model.specs.Expressions.{gives, bad, unready}
use Rattle.ro_unify.specs.declared.look.Look.{Look}
use Rattle.ro_unify.specs.declared.look.Look.TheVariants.{Writable, ReadOnly, Solid}
use Rattle.guard_tests.specs.declared.number.Evaluated.{Evaluated}
use Rattle.guard_tests.specs.declared.number.Evaluated.TheVariants.{Value, Bad, Wait}

-- the answer for what an expression of terms gives
abbrev pub answer_of : terms.Evaluated → Evaluated
answer_of (gives z) = Value z
answer_of bad = Bad
answer_of (unready vs) = Wait

-- a number, where there is one
abbrev pub or_bad : Option ℤ → Evaluated
or_bad (Some z) = Value z
or_bad None = Bad

-- a byte as a signed number
abbrev pub signed_byte : ℕ → ℤ
signed_byte h = if nat_lt h 128 then pos h else negsuc (255 - h)

-- the number with these upper eight bits, and the lower 56 of a small number
abbrev pub joined : ℕ → ℤ → ℤ
joined high low = (signed_byte high *ℤ pos 0x100000000000000) +ℤ pos (low_bits low)

-- a wide number, by its upper bits and the cell of its lower ones
abbrev pub wide_number : ℕ → Option Cell → Evaluated
wide_number high (Some (cell.Small low)) = Value (joined high low)
wide_number high _ = Bad

-- the number of a cell; any other is bad
abbrev pub number_of : Memory → Option Cell → Evaluated
number_of m (Some (cell.Small z)) = Value z
number_of m (Some (cell.Wide a high)) = wide_number high (decoded (m a))
number_of m _ = Bad

-- what an operand gives, by its value: an unbound place waits
abbrev pub number_at : Memory → Look → Evaluated
number_at m (Writable a) = Wait
number_at m (ReadOnly a) = Wait
number_at m (Solid x) = number_of m (decoded x)
