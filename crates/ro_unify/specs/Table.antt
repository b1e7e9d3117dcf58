-- The table of two values, and which of two places is the older one.
use Rattle.std.specs.Prelude.{ℕ, Bool, true, false, if◌then◌else◌, nat_eq, nat_lt}
use Rattle.ro_unify.specs.declared.look.Look.{Look}
use Rattle.ro_unify.specs.declared.look.Look.TheVariants.{Writable, ReadOnly, Solid}
use Rattle.ro_unify.specs.declared.table.Move.{Move}
use Rattle.ro_unify.specs.declared.table.Move.TheVariants.{Nothing, Wait, Order, Bind, Check, Solids}

-- what is to be done for two values
abbrev pub moved : Look → Look → Move
moved (Writable p) (Writable q) = if nat_eq p q then Nothing else Order p q
moved (Writable p) (ReadOnly q) = if nat_eq p q then Nothing else Bind p q
moved (Writable p) (Solid x) = Check p x
moved (ReadOnly p) (Writable q) = if nat_eq p q then Nothing else Bind q p
moved (ReadOnly p) (ReadOnly q) = if nat_eq p q then Nothing else Wait
moved (ReadOnly p) (Solid x) = Wait
moved (Solid x) (Writable q) = Check q x
moved (Solid x) (ReadOnly q) = Wait
moved (Solid x) (Solid y) = Solids x y

-- Place p is older than place q, whose names are the words x and y. Those of a try, from 4,000,000,000 on, are younger than all
-- others, and have no names yet: the one at the greater address is the younger.
abbrev pub older_of : ℕ → ℕ → ℕ → ℕ → Bool
older_of p q x y =
    if nat_lt p 4000000000 then (if nat_lt q 4000000000 then nat_lt x y else true)
    else (if nat_lt q 4000000000 then false else nat_lt p q)
