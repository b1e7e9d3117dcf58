use Rattle.std.proofs.Common.{◌≡◌, take}
use Rattle.word_numbers.specs.Numbers.{digits_value}
use Rattle.word_numbers.proofs.digits.value_of.Given as goal

abbrev pub invariant-loop-byte : goal.invariant-loop-byte
invariant-loop-byte l = l.value ≡ digits_value (take l.byte-index l.digits)
