-- Numbers that are written as words of decimal digits.
use Rattle.std.specs.Prelude.{ℕ, ◌+◌, ◌-◌, ◌*◌, Bool, ◌&&◌, nat_le, List, length, fold, Option, Some, None, if◌then◌else◌}
use Rattle.std.specs.Char.{is_ascii_digit}
use Rattle.std.specs.List.{list_all}

-- decimal digits alone
abbrev pub are_digits : List ℕ → Bool
are_digits = list_all is_ascii_digit

-- the value with one digit more, which is a byte
abbrev pub with_digit : ℕ → ℕ → ℕ
with_digit n b = 10 * n + (b - 48)

-- the value of the digits
abbrev pub digits_value : List ℕ → ℕ
digits_value = fold with_digit 0

-- one digit or more, zeros in front too, at most so many, with a value of at most `most`
abbrev pub is_number : ℕ → ℕ → List ℕ → Bool
is_number most_digits most word =
    nat_le 1 (length word) && nat_le (length word) most_digits && are_digits word && nat_le (digits_value word) most

-- the number that a word writes
abbrev pub number_of : ℕ → ℕ → List ℕ → Option ℕ
number_of most_digits most word = if is_number most_digits most word then Some (digits_value word) else None
