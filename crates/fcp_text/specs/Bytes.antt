-- The bytes of a text. A text reads as 0 past its end.
use Rattle.std.specs.Prelude.{ℕ, Bool, not, ◌||◌, ◌==◌, List}
use Rattle.std.specs.Char.{is_ascii_digit, is_ascii_alphanumeric}
use Rattle.std.specs.List.{prefix_len}
use Rattle.fcp_text.specs.declared.bytes.Class.{Class}
use Rattle.fcp_text.specs.declared.bytes.Class.TheVariants as class

-- a text, as its bytes
abbrev pub Text : Type 0
Text = List ℕ

-- the most bytes of a text that is read
abbrev pub most_bytes : ℕ
most_bytes = 1048576

-- space, tab, carriage return and line feed
abbrev pub is_blank : ℕ → Bool
is_blank b = b == 32 || b == 9 || b == 13 || b == 10

-- a letter, a digit or `_`; a digit; a byte that is no line feed
abbrev pub is_in : Class → ℕ → Bool
is_in class.Word b = is_ascii_alphanumeric b || b == 95
is_in class.Digit b = is_ascii_digit b
is_in class.Line b = not (b == 10)

-- how many bytes of the class a text begins with
abbrev pub leading : Class → Text → ℕ
leading c z = prefix_len (is_in c) z
