-- Believed: how much a text of the grammar may have.
use Rattle.std.specs.Prelude.{ℕ}

-- the most arguments of a string, and the most parts of a tuple in braces
abbrev pub most_arguments : ℕ
most_arguments = 64

-- the most different variables of a clause or a goal
abbrev pub most_variables : ℕ
most_variables = 250

-- the most items of a guard, a body or a goal
abbrev pub most_items : ℕ
most_items = 256

-- the most operators of an item, over both sides of its comparison
abbrev pub most_operators : ℕ
most_operators = 256
