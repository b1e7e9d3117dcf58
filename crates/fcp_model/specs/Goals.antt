-- The numbers of the procedures that a goal's items call.
use Rattle.std.specs.Prelude.{◌≡◌, ℕ, Bool, List, length, map, Option, Some, None, ◌&&◌, nat_eq, if◌then◌else◌, position}
use Rattle.fcp_model.specs.declared.source.Call.{Call}
use Rattle.fcp_model.specs.declared.source.Call.TheVariants.{User, Unify, Assign, Same, NotSame, Compare}
use Rattle.fcp_model.specs.declared.source.Item.{Item}
use Rattle.fcp_model.specs.declared.source.Module.{Module}
use Rattle.fcp_model.specs.ProcedureNames.{procedure_names, same_procedure}

-- the numbers that stand for `true`, `=` and `:=` in place of a procedure's
abbrev pub true_procedure : ℕ
true_procedure = 4294967293

-- of `=`
abbrev pub unify_procedure : ℕ
unify_procedure = 4294967294

-- of `:=`
abbrev pub assign_procedure : ℕ
assign_procedure = 4294967295

-- the built-in process `true`: the first reserved name, with no argument
abbrev pub is_true : ℕ → ℕ → Bool
is_true name arity = nat_eq name 0 && nat_eq arity 0

-- the number of the procedure that a call names, or `None` where a goal may not make the call.
-- `true` with no argument goes before the module's procedures
abbrev pub number_of_call : Module → Call → Option ℕ
number_of_call m (User name args) =
    if is_true name.0 (length args) then Some true_procedure
    else position (same_procedure (record { name = name; arity = length args })) (procedure_names m.clauses)
number_of_call m (Unify a b) = Some unify_procedure
number_of_call m (Assign a e) = Some assign_procedure
number_of_call m (Same a b) = None
number_of_call m (NotSame a b) = None
number_of_call m (Compare op d e) = None

-- the number of the procedure that an item names
abbrev pub number_of_item : Module → Item → Option ℕ
number_of_item m i = number_of_call m i.call

-- the numbers are those of the items, one by one
abbrev pub AreNumbersOf : Module → List Item → List ℕ → Type 0
AreNumbersOf m items numbers = map Some numbers ≡ map (number_of_item m) items
