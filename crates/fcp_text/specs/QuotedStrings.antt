-- Quoted strings.
use Rattle.std.specs.Prelude.{ℕ, ◌+◌, Bool, true, false, not, ◌&&◌, if◌then◌else◌, ◌==◌, [], ◌∷◌, slice_index, Option, Some, None}
use Rattle.fcp_text.specs.Bytes.{Text}

-- The place behind the closing quote, for a text that begins at `at`. A quote with another one directly behind it does not close,
-- and neither does the second of the two. A line feed or the end comes before a closing quote: there is none.
abbrev pub closing : ℕ → Bool → ℕ → Text → Option ℕ
closing quote is_second at [] = None
closing quote true at (b ∷ z) = closing quote false (at + 1) z
closing quote false at (b ∷ z) =
    if b == 10 then None
    else (if b == quote && not (slice_index z 0 == quote) then Some (at + 1)
    else closing quote (b == quote) (at + 1) z)

-- a quote is left out, and a byte directly behind one that was left out stays
abbrev pub without_quotes : ℕ → Bool → Text → Text
without_quotes quote is_second [] = []
without_quotes quote true (b ∷ z) = b ∷ without_quotes quote false z
without_quotes quote false (b ∷ z) = if b == quote then without_quotes quote true z else b ∷ without_quotes quote false z

-- the string that a quoted text stands for: what is between its two quotes, with one quote for each two
abbrev pub unquoted : Text → Text
unquoted [] = []
unquoted (quote ∷ z) = without_quotes quote false z
