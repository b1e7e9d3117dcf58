use Rattle.std.proofs.Common.{◌≡◌, ◌≤◌, take, min}
use Rattle.fcp_text.specs.Numbers.{digits_value}
use Rattle.fcp_text.proofs.numbers.capped_value.Given as goal

abbrev pub invariant-loop-byte : goal.invariant-loop-byte
invariant-loop-byte l = (l.value ≡ min (digits_value (take l.byte-index l.digits)) 9223372036854775809) × (l.value ≤ 9223372036854775809)
