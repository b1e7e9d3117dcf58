-- The numbered strings of a module and a goal.
use Rattle.std.specs.Prelude.{ℕ, List, [], ◌∷◌, ◌++◌, if◌then◌else◌, codes}
use Rattle.std.specs.List.{list_any, position_or_len}
use Rattle.std.specs.Str.{bytes_eq}

-- the list after a text was noted: the text is put last where it was absent
abbrev pub noted : List (List ℕ) → List ℕ → List (List ℕ)
noted ns t = if list_any (bytes_eq t) ns then ns else ns ++ t ∷ []

-- the number that a text has after it was noted
abbrev pub number_of : List (List ℕ) → List ℕ → ℕ
number_of ns t = position_or_len (bytes_eq t) ns

-- the reserved names, in the order of their numbers from 0
abbrev pub reserved_names : List (List ℕ)
reserved_names = codes "true" ∷ codes "otherwise" ∷ codes "integer" ∷ codes "string" ∷ codes "constant" ∷ codes "list" ∷ codes "tuple" ∷ codes "known" ∷ codes "unknown" ∷ []
