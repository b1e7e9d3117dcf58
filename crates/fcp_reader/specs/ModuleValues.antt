-- Believed: what attributes and clauses add to a module.
use Rattle.std.specs.Prelude.{ℕ, ℤ, pos, Bool, ◌||◌, int_lt, unsigned_abs, if◌then◌else◌, List, [], ◌∷◌, ◌++◌, Option, Some, None}
use Rattle.fcp_model.specs.declared.names.Sym.{Sym}
use Rattle.fcp_model.specs.declared.term.Term.{Term}
use Rattle.fcp_model.specs.declared.source.Clause.{Clause}
use Rattle.fcp_model.specs.declared.source.Export.{Export}
use Rattle.fcp_model.specs.declared.source.Item.{Item}
use Rattle.fcp_model.specs.declared.source.Module.{Module}
use Rattle.fcp_reader.specs.declared.attributes.Said.{Said}
use Rattle.fcp_reader.specs.declared.attributes.Said.TheVariants as Says
use Rattle.fcp_reader.specs.declared.state.Head.{Head}
use Rattle.fcp_grammar.specs.Limits.{most_arguments}

-- no procedure has so many arguments
abbrev pub is_no_arity : ℤ → Bool
is_no_arity n = int_lt n (pos 0) || int_lt (pos most_arguments) n

-- the number of arguments, or 0 where it is none
abbrev pub arity_of : ℤ → ℕ
arity_of n = if is_no_arity n then 0 else unsigned_abs n

-- an element of an `-export`: the place of its string, the string, and the number behind the `/`
abbrev pub export_of : ℕ → Sym → ℤ → Export
export_of at s n = record { at = at; name = s; arity = arity_of n }

-- the module of no terminals
abbrev pub nothing : Module
nothing = record { name = None; again = None; other = None; exports = None; clauses = [] }

-- a head: its place, its name and its arguments
abbrev pub head_of : ℕ → Sym → List Term → Head
head_of at s ts = record { at = at; name = s; args = ts }

-- no guard is the guard of no items
abbrev pub or_empty : Option (List Item) → List Item
or_empty None = []
or_empty (Some items) = items

-- a clause of this head, guard, body and number of variables
abbrev pub clause_of : Head → Option (List Item) → List Item → ℕ → Clause
clause_of h guard body vars = record { at = h.at; head = h.name; args = h.args; guard = or_empty guard; body = body; vars = vars }

-- with one more clause
abbrev pub with_clause : Module → Clause → Module
with_clause m c = record m { clauses = m.clauses ++ c ∷ [] }

-- what was there first stays
abbrev pub first : {A : Type 0} → Option A → A → Option A
first None x = Some x
first (Some y) x = Some y

-- the place of the second `-module`
abbrev pub again_at : Option Sym → Option ℕ → ℕ → Option ℕ
again_at None again dash = again
again_at (Some s) again dash = first again dash

-- the elements of all `-export`s so far
abbrev pub listed : Option (List Export) → List Export
listed None = []
listed (Some es) = es

-- a first `-module` gives the name, and the place of a second one is kept
abbrev pub with_name : Module → ℕ → Sym → Module
with_name m dash s = record m { name = first m.name s; again = again_at m.name m.again dash }

-- each `-export` adds to the list
abbrev pub with_exports : Module → List Export → Module
with_exports m es = record m { exports = Some (listed m.exports ++ es) }

-- of other attributes the first one's place is kept
abbrev pub with_unknown : Module → ℕ → Module
with_unknown m dash = record m { other = first m.other dash }

-- with what an attribute says whose `-` has this place
abbrev pub with_said : Module → ℕ → Said → Module
with_said m dash (Says.Name s) = with_name m dash s
with_said m dash (Says.List es) = with_exports m es
with_said m dash Says.Unknown = with_unknown m dash
