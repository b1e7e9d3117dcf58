-- Counts of calls and of faults, and which calls are to fail.
use Rattle.std.specs.Prelude.{ℕ, ◌+◌, ◌-◌, ◌^◌, ◌≤◌, ◌==◌, min, Bool, List}
use Rattle.std.specs.List.{list_any}

-- one more; a count at the end of its 64 bits stands still
abbrev pub counted : ℕ → ℕ
counted n = min (n + 1) (2 ^ 64 - 1)

-- a count rose, by one at least, or stands at the end of its 64 bits
abbrev pub Rose : ℕ → ℕ → Type 0
Rose before now = counted before ≤ now

-- the call of this number is one of those that are to fail
abbrev pub is_listed : List ℕ → ℕ → Bool
is_listed fails number = list_any (λ listed. listed == number) fails
