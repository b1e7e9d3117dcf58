-- Numbers: decimal digits, perhaps directly behind a sign.
use Rattle.std.specs.Prelude.{ℕ, zero, suc, ◌+◌, ◌-◌, ◌*◌, Bool, true, false, ◌&&◌, ◌||◌, if◌then◌else◌, ◌==◌, nat_lt, take, drop, fold, slice_index, ℤ, pos, negsuc, Option, Some, None, option_map}
use Rattle.std.specs.Char.{is_ascii_digit}
use Rattle.fcp_text.specs.declared.bytes.Class.TheVariants as class
use Rattle.fcp_text.specs.Bytes.{Text, leading}

-- a digit, or a `-` with a digit behind it where a sign may stand
abbrev pub begins_number : Bool → Text → Bool
begins_number may_sign z = is_ascii_digit (slice_index z 0) || (may_sign && slice_index z 0 == 45 && is_ascii_digit (slice_index z 1))

-- the value with one digit more, which is a byte
abbrev pub with_digit : ℕ → ℕ → ℕ
with_digit n b = 10 * n + (b - 48)

-- the value of the digits
abbrev pub digits_value : Text → ℕ
digits_value = fold with_digit 0

-- below 2^63, or equal to it with a sign
abbrev pub fits : Bool → ℕ → Bool
fits is_negative v = nat_lt v 9223372036854775808 || (is_negative && v == 9223372036854775808)

-- the number of a value with a sign before it or not
abbrev pub with_sign : Bool → ℕ → ℤ
with_sign false v = pos v
with_sign true zero = pos 0
with_sign true (suc v) = negsuc v

-- the number of a value with a sign or without, where it is within 64 bits
abbrev pub int_of : Bool → ℕ → Option ℤ
int_of is_negative v = if fits is_negative v then Some (with_sign is_negative v) else None

-- how many bytes the sign takes
abbrev pub sign_len : Text → ℕ
sign_len z = if slice_index z 0 == 45 then 1 else 0

-- the number at the front and its length, where it is within 64 bits, for a text that begins a number
unfoldable pub number : Text → Option (ℤ × ℕ)
number z =
    let rest = drop (sign_len z) z in
    let len = leading class.Digit rest in
    option_map (λ n. (n, sign_len z + len)) (int_of (slice_index z 0 == 45) (digits_value (take len rest)))
