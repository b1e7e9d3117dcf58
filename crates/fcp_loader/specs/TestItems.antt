-- Which heads are reserved, and which items are tests.
use Rattle.std.specs.Prelude.{Bool, true, false, ◌&&◌, ◌||◌, nat_eq, nat_lt, nat_le, length}
use Rattle.fcp_model.specs.declared.loaded.ProcedureName.{ProcedureName}
use Rattle.fcp_model.specs.declared.source.Call.{Call}
use Rattle.fcp_model.specs.declared.source.Call.TheVariants.{User, Unify, Assign, Same, NotSame, Compare}

-- the names 0 and 1, `true` and `otherwise`, with no argument, and the names 2 to 8, from `integer` to `unknown`, with one
abbrev pub is_reserved : ProcedureName → Bool
is_reserved h = (nat_lt h.name.0 2 && nat_eq h.arity 0) || (nat_le 2 h.name.0 && nat_lt h.name.0 9 && nat_eq h.arity 1)

-- a reserved name with its number of arguments, `==`, `\==` or a comparison
abbrev pub is_test : Call → Bool
is_test (User name args) = is_reserved (record { name = name; arity = length args })
is_test (Unify a b) = false
is_test (Assign a e) = false
is_test (Same a b) = true
is_test (NotSame a b) = true
is_test (Compare o d e) = true
