-- The quote around strings; only private clauses cite it.
use Rattle.std.specs.Prelude.{ℕ, Bool, nat_eq}

-- the byte is `'`
abbrev pub is_quote : ℕ → Bool
is_quote b = nat_eq b 39
