-- First fit: each piece goes into the first room that has enough words for it.
use Rattle.std.specs.Prelude.{ℕ, ◌-◌, List, [], ◌∷◌, Option, Some, None, option_map, nat_lt, if◌then◌else◌}
use Rattle.std.specs.Option.{option_and_then}

-- the rooms after a piece of n words, by their numbers of free words; None where no room has n
abbrev pub fit : ℕ → List ℕ → Option (List ℕ)
fit n [] = None
fit n (r ∷ rs) = if nat_lt r n then option_map (λ ss. r ∷ ss) (fit n rs) else Some ((r - n) ∷ rs)

-- the rooms after pieces of these sizes, one after another; None where one of them finds no room
abbrev pub first_fit : List ℕ → List ℕ → Option (List ℕ)
first_fit rs [] = Some rs
first_fit rs (n ∷ ns) = option_and_then (λ ss. first_fit ss ns) (fit n rs)
