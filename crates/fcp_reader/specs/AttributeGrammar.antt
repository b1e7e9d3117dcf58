-- Believed: the grammar of attributes. `open_at` and the like are places of terminals, and `vars` is the number that the last
-- terminal has.
use Rattle.std.specs.Prelude.{◌≡◌, ℕ, ℤ, List, [], ◌∷◌, ◌++◌, Bool, true, false}
use Rattle.fcp_model.specs.declared.names.Sym.{Sym}
use Rattle.fcp_model.specs.declared.source.Export.{Export}
use Rattle.fcp_model.specs.declared.term.ArithOp.TheVariants.{Sub, Div}
use Rattle.fcp_grammar.specs.declared.terminals.StringForm.{StringForm}
use Rattle.fcp_grammar.specs.declared.terminals.StringForm.TheVariants as F
use Rattle.fcp_grammar.specs.declared.terminals.Terminal.{Terminal}
use Rattle.fcp_grammar.specs.declared.terminals.Terminal.TheVariants as terminal
use Rattle.fcp_reader.specs.declared.attributes.Said.{Said}
use Rattle.fcp_reader.specs.declared.attributes.Said.TheVariants as Says
use Rattle.fcp_grammar.specs.Grammar.{Marked, plain}
use Rattle.fcp_reader.specs.ModuleValues.{is_no_arity, export_of}

-- ---- the elements of an `-export`

-- a string, a `/` and a number, which is one too many where no procedure has so many arguments
pub data SpecTree : Type 0 where
  spec : (s : Sym) (form : StringForm) (at : ℕ) (slash_at : ℕ) (n : ℤ) (n_at : ℕ) → SpecTree

-- its value
abbrev pub spec_value : SpecTree → Export
spec_value (spec s form at d n i) = export_of at s n

-- its terminals, and then the rest
abbrev pub spell_spec : SpecTree → List Marked → List Marked
spell_spec (spec s form at d n i) rest =
    plain (terminal.Str s form at) ∷ plain (terminal.Operator Div d) ∷ (terminal.Int n i, is_no_arity n) ∷ rest

-- elements with a comma behind each
pub data SpecTrees : Type 0 where
  no_specs : SpecTrees
  and_spec : (front : SpecTrees) (e : SpecTree) → SpecTrees

-- their values, in order
abbrev pub spec_values : SpecTrees → List Export
spec_values no_specs = []
spec_values (and_spec es e) = spec_values es ++ spec_value e ∷ []

-- their terminals, and then the rest
abbrev pub spell_specs : SpecTrees → List Marked → List Marked
spell_specs no_specs rest = rest
spell_specs (and_spec es e) rest = spell_specs es (spell_spec e (plain terminal.Comma ∷ rest))

-- what stands between the brackets
pub data Listing : Type 0 where
  nothing_listed : Listing
  listing : (front : SpecTrees) (last : SpecTree) → Listing

-- the elements, in order
abbrev pub listing_value : Listing → List Export
listing_value nothing_listed = []
listing_value (listing es e) = spec_values es ++ spec_value e ∷ []

-- its terminals, and then the rest
abbrev pub spell_listing : Listing → List Marked → List Marked
spell_listing nothing_listed rest = rest
spell_listing (listing es e) rest = spell_specs es (spell_spec e rest)

-- ---- attributes

-- the `-` and the terminal behind it, each with its place
pub record Opening : Type 0 where
  pub dash : ℕ
  pub name : Sym
  pub at : ℕ

-- the two terminals, where the second has this form
abbrev pub spell_opening : Opening → StringForm → List Marked → List Marked
spell_opening o form rest = plain (terminal.Operator Sub o.dash) ∷ plain (terminal.Str o.name form o.at) ∷ rest

-- the forms of a name that is neither `module` nor `export`
pub data OtherForm : Type 0 where
  any_name : OtherForm
  mod_name : OtherForm

-- how it is written
abbrev pub form_of : OtherForm → StringForm
form_of any_name = F.Name
form_of mod_name = F.Mod

-- the terminal that ends an attribute
abbrev pub is_dot : Terminal → Bool
is_dot (terminal.Dot n) = true
is_dot _ = false

-- any terminals but `.`
pub data AnyTerminals : Type 0 where
  no_terminals : AnyTerminals
  and_terminal : (front : AnyTerminals) (w : Terminal) → is_dot w ≡ false → AnyTerminals

-- no terminal of an unknown attribute is one too many
abbrev pub spell_any : AnyTerminals → List Marked → List Marked
spell_any no_terminals rest = rest
spell_any (and_terminal ws w h) rest = spell_any ws (plain w ∷ rest)

-- a `-module` with a string, an `-export` with a list, or any other
pub data AttributeTree : Type 0 where
  module_name : (o : Opening) (open_at : ℕ) (s : Sym) (form : StringForm) (at : ℕ) (vars : ℕ) → AttributeTree
  export_list : (o : Opening) (open_at : ℕ) (square_at : ℕ) (es : Listing) (vars : ℕ) → AttributeTree
  unknown : (o : Opening) (form : OtherForm) (ws : AnyTerminals) (vars : ℕ) → AttributeTree

-- the place of the `-`
abbrev pub dash_of : AttributeTree → ℕ
dash_of (module_name o b s form at n) = o.dash
dash_of (export_list o b q es n) = o.dash
dash_of (unknown o form ws n) = o.dash

-- what it says
abbrev pub said_of : AttributeTree → Said
said_of (module_name o b s form at n) = Says.Name s
said_of (export_list o b q es n) = Says.List (listing_value es)
said_of (unknown o form ws n) = Says.Unknown

-- its terminals, and then the rest
abbrev pub spell_attribute : AttributeTree → List Marked → List Marked
spell_attribute (module_name o b s form at n) rest =
    spell_opening o F.Module (plain (terminal.RoundOpen b) ∷ plain (terminal.Str s form at) ∷ plain terminal.RoundClose
    ∷ plain (terminal.Dot n) ∷ rest)
spell_attribute (export_list o b q es n) rest =
    spell_opening o F.Export (plain (terminal.RoundOpen b) ∷ plain (terminal.SquareOpen q)
    ∷ spell_listing es (plain terminal.SquareClose ∷ plain terminal.RoundClose ∷ plain (terminal.Dot n) ∷ rest))
spell_attribute (unknown o form ws n) rest = spell_opening o (form_of form) (spell_any ws (plain (terminal.Dot n) ∷ rest))
