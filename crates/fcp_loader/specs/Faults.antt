-- All faults of a module and of a goal that its text has beyond its grammar. Which of them is the first does not depend on their
-- order here.
use Rattle.std.specs.Prelude.{ℕ, Bool, false, not, List, [], ◌++◌, length, map, filter, Option, None, is_none, if◌then◌else◌, find, position, unwrap_or}
use Rattle.std.specs.List.{flat_map}
use Rattle.std.specs.Option.{option_to_list, option_map_or}
use Rattle.fcp_model.specs.declared.fault.Code.{Code}
use Rattle.fcp_model.specs.declared.fault.Code.TheVariants.{UnknownAttribute, RepeatedModule, Reserved, UnknownTest, UnknownProcedure, ExportUnknown, BadExpression, NotExported}
use Rattle.fcp_model.specs.declared.fault.Fault.{Fault}
use Rattle.fcp_model.specs.declared.loaded.ProcedureName.{ProcedureName}
use Rattle.fcp_model.specs.declared.source.Call.{Call}
use Rattle.fcp_model.specs.declared.source.Call.TheVariants.{User, Unify, Assign, Same, NotSame, Compare}
use Rattle.fcp_model.specs.declared.source.Clause.{Clause}
use Rattle.fcp_model.specs.declared.source.Export.{Export}
use Rattle.fcp_model.specs.declared.source.Item.{Item}
use Rattle.fcp_model.specs.declared.source.Module.{Module}
use Rattle.fcp_model.specs.declared.source.GoalText.{GoalText}
use Rattle.fcp_model.specs.Goals.{is_true}
use Rattle.fcp_model.specs.Goals.{number_of_item}
use Rattle.fcp_model.specs.ProcedureNames.{procedure_names, procedure_name, same_procedure, is_exported}
use Rattle.fcp_loader.specs.Leaves.{leaves_in}
use Rattle.fcp_loader.specs.TestItems.{is_reserved, is_test}

-- faults of one kind, one at each place
abbrev pub faults_at : Code → List ℕ → List Fault
faults_at code places = map (λ at. record { code = code; at = at }) places

-- the places of the items that a test of items picks
abbrev pub places_where : (Item → Bool) → List Item → List ℕ
places_where picks items = map (λ i. i.at) (filter picks items)

-- the heads that are reserved
abbrev pub reserved_heads : List Clause → List ℕ
reserved_heads cs = map (λ c. c.at) (filter (λ c. is_reserved (procedure_name c)) cs)

-- the items of guards that are no tests
abbrev pub unknown_tests : List Clause → List ℕ
unknown_tests cs = places_where (λ i. not (is_test i.call)) (flat_map (λ c. c.guard) cs)

-- the items that are neither `true`, `=` or `:=` nor calls of a procedure of the module
abbrev pub unknown_items : Module → List Item → List ℕ
unknown_items m items = places_where (λ i. is_none (number_of_item m i)) items

-- the items of bodies that name no procedure
abbrev pub unknown_in_bodies : Module → List ℕ
unknown_in_bodies m = unknown_items m (flat_map (λ c. c.body) m.clauses)

-- the element of an `-export` names no procedure of the module
abbrev pub is_unknown_export : Module → Export → Bool
is_unknown_export m e = is_none (position (same_procedure (record { name = e.name; arity = e.arity })) (procedure_names m.clauses))

-- the elements of an `-export` that name no procedure
abbrev pub unknown_exports : Module → List ℕ
unknown_exports m = map (λ e. e.at) (filter (is_unknown_export m) (unwrap_or m.exports []))

-- the wrong leaves of expressions, each clause's guard before its body
abbrev pub leaves_of_clauses : List Clause → List ℕ
leaves_of_clauses cs = leaves_in (flat_map (λ c. c.guard ++ c.body) cs)

-- the faults of a module
abbrev pub faults_of : Module → List Fault
faults_of m =
    faults_at UnknownAttribute (option_to_list m.other)
    ++ faults_at RepeatedModule (option_to_list m.again)
    ++ faults_at Reserved (reserved_heads m.clauses)
    ++ faults_at UnknownTest (unknown_tests m.clauses)
    ++ faults_at UnknownProcedure (unknown_in_bodies m)
    ++ faults_at ExportUnknown (unknown_exports m)
    ++ faults_at BadExpression (leaves_of_clauses m.clauses)

-- the procedure of the module that a call is of: `true` with no argument, `=`, `:=` and the tests are of none
abbrev pub procedure_called : Module → Call → Option ProcedureName
procedure_called m (User name args) =
    if is_true name.0 (length args) then None else find (same_procedure (record { name = name; arity = length args }))
    (procedure_names m.clauses)
procedure_called m (Unify a b) = None
procedure_called m (Assign a e) = None
procedure_called m (Same a b) = None
procedure_called m (NotSame a b) = None
procedure_called m (Compare o d e) = None

-- the call is of a procedure that is not exported
abbrev pub is_hidden : Module → Call → Bool
is_hidden m call = option_map_or (λ h. not (is_exported m h)) (procedure_called m call) false

-- the faults of a goal's items for a module
abbrev pub item_faults_of : Module → List Item → List Fault
item_faults_of m items =
    faults_at UnknownProcedure (unknown_items m items)
    ++ faults_at BadExpression (leaves_in items)
    ++ faults_at NotExported (places_where (λ i. is_hidden m i.call) items)

-- the faults of a goal for a module
abbrev pub goal_faults_of : Module → GoalText → List Fault
goal_faults_of m g = item_faults_of m g.items
