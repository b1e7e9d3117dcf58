-- Numbers that no small word holds, and how many parts a tuple has.
use Rattle.std.specs.Prelude.{ℕ, suc, ◌-◌, ◌<◌, ℤ, pos, negsuc}
use Rattle.fcp_model.specs.Terms.{Terms, none, more}

-- the 64 bits of a number
abbrev pub bits : ℤ → ℕ
bits (pos n) = n
bits (negsuc n) = 0x10000000000000000 - suc n

-- the lower 56 bits of a small number
abbrev pub low_bits : ℤ → ℕ
low_bits (pos n) = n
low_bits (negsuc n) = 0x100000000000000 - suc n

-- a number of 64 bits that is no small one
abbrev pub IsLong : ℤ → Type 0
IsLong (pos n) = (0x7fffffffffffff < n) × (n < 0x8000000000000000)
IsLong (negsuc n) = (0x7fffffffffffff < n) × (n < 0x8000000000000000)

-- how many parts a tuple has
abbrev pub part_count : {V : Type 0} → Terms V → ℕ
part_count none = 0
part_count (more t ts) = suc (part_count ts)
