-- The procedures of a module, each a name with a number of arguments, in the order of their first heads.
use Rattle.std.specs.Prelude.{◌≡◌, ℕ, ◌+◌, ◌<◌, ◌^◌, ◌++◌, List, [], ◌∷◌, length, fold, map, Some, None, Bool, true, false, if◌then◌else◌, ◌&&◌, nat_eq, All}
use Rattle.std.specs.List.{list_any}
use Rattle.indexmap.specs.IndexSet.{insert_key}
use Rattle.fcp_model.specs.declared.source.Clause.{Clause}
use Rattle.fcp_model.specs.declared.source.Export.{Export}
use Rattle.fcp_model.specs.declared.source.Module.{Module}
use Rattle.fcp_model.specs.declared.loaded.ProcedureName.{ProcedureName}

-- the same procedure: the same name with as many arguments
abbrev pub same_procedure : ProcedureName → ProcedureName → Bool
same_procedure g h = nat_eq g.name.0 h.name.0 && nat_eq g.arity h.arity

-- the procedure to which a clause belongs
abbrev pub procedure_name : Clause → ProcedureName
procedure_name c = record { name = c.head; arity = length c.args }

-- the procedures of some clauses
abbrev pub procedure_names : List Clause → List ProcedureName
procedure_names cs = fold (λ hs c. insert_key same_procedure hs (procedure_name c)) [] cs

-- a list with a number put first, where a test says so
abbrev pub put_if : Bool → ℕ → List ℕ → List ℕ
put_if true n ns = n ∷ ns
put_if false n ns = ns

-- the positions, from `from` on, of a procedure's clauses among some clauses
abbrev pub positions_from : ℕ → ProcedureName → List Clause → List ℕ
positions_from from h [] = []
positions_from from h (c ∷ cs) = put_if (same_procedure h (procedure_name c)) from (positions_from (from + 1) h cs)

-- for each procedure the positions of its clauses, in the order of the text
abbrev pub positions_in : List Clause → List (List ℕ)
positions_in cs = map (λ h. positions_from 0 h cs) (procedure_names cs)

-- the lists with a position put last in the list of its procedure, which is a new one where the procedure is new
abbrev pub with_position : List ProcedureName → ProcedureName → ℕ → List (List ℕ) → List (List ℕ)
with_position [] h at [] = (at ∷ []) ∷ []
with_position [] h at (ps ∷ pss) = ps ∷ pss
with_position (g ∷ gs) h at [] = []
with_position (g ∷ gs) h at (ps ∷ pss) = if same_procedure h g then (ps ++ at ∷ []) ∷ pss else ps ∷ with_position gs h at pss

-- what an index says: the procedures, and for each the positions of its clauses
pub record Procedures : Type 0 where
  pub names : List ProcedureName
  pub positions : List (List ℕ)

-- the index of some clauses
abbrev pub procedures_of : List Clause → Procedures
procedures_of cs = record { names = procedure_names cs; positions = positions_in cs }

-- there are few enough to number, and a list of positions for each; no number of arguments is past 32 bits
pub record AreNumbered (ps : Procedures) : Type 0 where
  pub few : length ps.names < 2 ^ 32
  pub each : length ps.positions ≡ length ps.names
  pub short : All (λ h. h.arity < 2 ^ 32) ps.names

-- an element of an `-export` names the procedure
abbrev pub same_export : ProcedureName → Export → Bool
same_export h e = nat_eq e.name.0 h.name.0 && nat_eq e.arity h.arity

-- whether a procedure is exported: all are where the text has no `-export`
abbrev pub is_exported : Module → ProcedureName → Bool
is_exported m h = elim m.exports [ None ↦ true | Some es ↦ list_any (same_export h) es ]
