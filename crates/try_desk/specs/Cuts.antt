-- Words one after another, cut into pieces.
use Rattle.std.specs.Prelude.{ℕ, ◌+◌, List, [], ◌∷◌, take, drop}

-- words, cut into pieces of these sizes
abbrev pub cut : List ℕ → List ℕ → List (List ℕ)
cut ws [] = []
cut ws (n ∷ ns) = take n ws ∷ cut (drop n ws) ns

-- so many words have pieces of these sizes
abbrev pub total : List ℕ → ℕ
total [] = 0
total (n ∷ ns) = n + total ns
