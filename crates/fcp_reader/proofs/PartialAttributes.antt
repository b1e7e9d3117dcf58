-- An attribute that was read so far, and that one more terminal goes on it.
use Rattle.std.proofs.Common.{◌≡◌, List, [], ◌∷◌, ◌++◌, refl, Bool, false, ℕ}
use Rattle.fcp_model.specs.declared.names.Sym.{Sym}
use Rattle.fcp_model.specs.declared.term.ArithOp.TheVariants.{Sub, Div}
use Rattle.fcp_grammar.specs.declared.terminals.StringForm.{StringForm}
use Rattle.fcp_grammar.specs.declared.terminals.StringForm.TheVariants as F
use Rattle.fcp_grammar.specs.declared.terminals.Terminal.{Terminal}
use Rattle.fcp_grammar.specs.declared.terminals.Terminal.TheVariants as terminal
use Rattle.fcp_reader.specs.declared.attributes.NameAt.TheVariants as M
use Rattle.fcp_reader.specs.declared.attributes.ListAt.TheVariants as X
use Rattle.fcp_reader.specs.declared.attributes.AttributeAt.{AttributeAt}
use Rattle.fcp_reader.specs.declared.attributes.AttributeAt.TheVariants as A
use Rattle.fcp_reader.specs.declared.attributes.AttributeStep.{AttributeStep}
use Rattle.fcp_reader.specs.declared.attributes.AttributeStep.TheVariants as T
use Rattle.fcp_reader.specs.declared.attributes.Said.{Said}
use Rattle.fcp_grammar.specs.Grammar.{Marked, plain}
use Rattle.fcp_reader.specs.Attributes.{step_attribute, step_name, step_list, step_dash, step_unknown, step_arity, behind_export}
use Rattle.fcp_reader.specs.AttributeGrammar.{SpecTree, spec, spec_value, spell_spec, SpecTrees, no_specs, and_spec, spec_values, spell_specs, Listing, nothing_listed, listing, listing_value, spell_listing, Opening, spell_opening, OtherForm, any_name, mod_name, form_of, AnyTerminals, no_terminals, and_terminal, spell_any, AttributeTree, module_name, export_list, unknown, dash_of, said_of, spell_attribute}

pub data PartAttribute : Type 0 where
  dash_part : (dash : ℕ) → PartAttribute
  name_open : (o : Opening) → PartAttribute
  name_name : (o : Opening) (open_at : ℕ) → PartAttribute
  name_close : (o : Opening) (open_at : ℕ) (s : Sym) (form : StringForm) (at : ℕ) → PartAttribute
  name_end : (o : Opening) (open_at : ℕ) (s : Sym) (form : StringForm) (at : ℕ) → PartAttribute
  list_open : (o : Opening) → PartAttribute
  list_square : (o : Opening) (open_at : ℕ) → PartAttribute
  list_first : (o : Opening) (open_at square_at : ℕ) → PartAttribute
  list_next : (o : Opening) (open_at square_at : ℕ) (es : SpecTrees) → PartAttribute
  list_slash : (o : Opening) (open_at square_at : ℕ) (es : SpecTrees) (s : Sym) (form : StringForm) (at : ℕ) → PartAttribute
  list_arity : (o : Opening) (open_at square_at : ℕ) (es : SpecTrees) (s : Sym) (form : StringForm) (at : ℕ) (slash_at : ℕ) → PartAttribute
  list_more : (o : Opening) (open_at square_at : ℕ) (es : SpecTrees) (e : SpecTree) → PartAttribute
  list_close : (o : Opening) (open_at square_at : ℕ) (es : Listing) → PartAttribute
  list_end : (o : Opening) (open_at square_at : ℕ) (es : Listing) → PartAttribute
  other : (o : Opening) (form : OtherForm) (ws : AnyTerminals) → PartAttribute

abbrev pub part_dash : PartAttribute → ℕ
part_dash (dash_part d) = d
part_dash (name_open o) = o.dash
part_dash (name_name o b) = o.dash
part_dash (name_close o b s form at) = o.dash
part_dash (name_end o b s form at) = o.dash
part_dash (list_open o) = o.dash
part_dash (list_square o b) = o.dash
part_dash (list_first o b q) = o.dash
part_dash (list_next o b q es) = o.dash
part_dash (list_slash o b q es s form at) = o.dash
part_dash (list_arity o b q es s form at d) = o.dash
part_dash (list_more o b q es e) = o.dash
part_dash (list_close o b q es) = o.dash
part_dash (list_end o b q es) = o.dash
part_dash (other o form ws) = o.dash

abbrev pub part_at : PartAttribute → AttributeAt
part_at (dash_part d) = A.Dash
part_at (name_open o) = A.Name M.Open
part_at (name_name o b) = A.Name M.Name
part_at (name_close o b s form at) = A.Name (M.Close s)
part_at (name_end o b s form at) = A.Name (M.End s)
part_at (list_open o) = A.List X.Open
part_at (list_square o b) = A.List X.Square
part_at (list_first o b q) = A.List X.First
part_at (list_next o b q es) = A.List (X.Next (spec_values es))
part_at (list_slash o b q es s form at) = A.List (X.Slash (spec_values es) at s)
part_at (list_arity o b q es s form at d) = A.List (X.Arity (spec_values es) at s)
part_at (list_more o b q es e) = A.List (X.More (spec_values es ++ spec_value e ∷ []))
part_at (list_close o b q es) = A.List (X.Close (listing_value es))
part_at (list_end o b q es) = A.List (X.End (listing_value es))
part_at (other o form ws) = A.Unknown

abbrev pub in_name : Opening → ℕ → List Marked → List Marked
in_name o b rest = spell_opening o F.Module (plain (terminal.RoundOpen b) ∷ rest)

abbrev pub in_list : Opening → ℕ → ℕ → List Marked → List Marked
in_list o b q rest = spell_opening o F.Export (plain (terminal.RoundOpen b) ∷ plain (terminal.SquareOpen q) ∷ rest)

abbrev pub part_terminals : PartAttribute → List Marked → List Marked
part_terminals (dash_part d) rest = plain (terminal.Operator Sub d) ∷ rest
part_terminals (name_open o) rest = spell_opening o F.Module rest
part_terminals (name_name o b) rest = in_name o b rest
part_terminals (name_close o b s form at) rest = in_name o b (plain (terminal.Str s form at) ∷ rest)
part_terminals (name_end o b s form at) rest = in_name o b (plain (terminal.Str s form at) ∷ plain terminal.RoundClose ∷ rest)
part_terminals (list_open o) rest = spell_opening o F.Export rest
part_terminals (list_square o b) rest = spell_opening o F.Export (plain (terminal.RoundOpen b) ∷ rest)
part_terminals (list_first o b q) rest = in_list o b q rest
part_terminals (list_next o b q es) rest = in_list o b q (spell_specs es rest)
part_terminals (list_slash o b q es s form at) rest = in_list o b q (spell_specs es (plain (terminal.Str s form at) ∷ rest))
part_terminals (list_arity o b q es s form at d) rest =
    in_list o b q (spell_specs es (plain (terminal.Str s form at) ∷ plain (terminal.Operator Div d) ∷ rest))
part_terminals (list_more o b q es e) rest = in_list o b q (spell_specs es (spell_spec e rest))
part_terminals (list_close o b q es) rest = in_list o b q (spell_listing es (plain terminal.SquareClose ∷ rest))
part_terminals (list_end o b q es) rest = in_list o b q (spell_listing es (plain terminal.SquareClose ∷ plain terminal.RoundClose ∷ rest))
part_terminals (other o form ws) rest = spell_opening o (form_of form) (spell_any ws rest)

-- the attribute goes on
pub record MovedAttribute (p : PartAttribute) (w : Terminal) (at : AttributeAt) (mark : Bool) : Type 0 where
  pub part : PartAttribute
  pub is : part_at part ≡ at
  pub dash : part_dash part ≡ part_dash p
  pub terminals : (rest : List Marked) → part_terminals part rest ≡ part_terminals p ((w, mark) ∷ rest)

-- the attribute ends
pub record EndedAttribute (p : PartAttribute) (w : Terminal) (said : Said) : Type 0 where
  pub tree : AttributeTree
  pub is : said_of tree ≡ said
  pub dash : dash_of tree ≡ part_dash p
  pub terminals : (rest : List Marked) → spell_attribute tree rest ≡ part_terminals p (plain w ∷ rest)

abbrev pub GoesAttribute : PartAttribute → Terminal → AttributeStep → Type 0
GoesAttribute p w (T.Goes at mark) = MovedAttribute p w at mark
GoesAttribute p w (T.Ends said) = EndedAttribute p w said
GoesAttribute p w T.Refused = Unit {0}

to : (p q : PartAttribute) (w : Terminal) (mark : Bool) → part_dash q ≡ part_dash p
    → ((rest : List Marked) → part_terminals q rest ≡ part_terminals p ((w, mark) ∷ rest)) → MovedAttribute p w (part_at q) mark
to p q w mark d e = record { part = q; is = refl; dash = d; terminals = e }

goes-dash : (d : ℕ) (w : Terminal) → GoesAttribute (dash_part d) w (step_dash w)
goes-dash d (terminal.Str s F.Module at) = to (dash_part d) (name_open (record { dash = d; name = s; at = at })) _ false refl (λ rest. refl)
goes-dash d (terminal.Str s F.Export at) = to (dash_part d) (list_open (record { dash = d; name = s; at = at })) _ false refl (λ rest. refl)
goes-dash d (terminal.Str s F.Quoted at) = tt
goes-dash d (terminal.Str s F.Name at) =
    to (dash_part d) (other (record { dash = d; name = s; at = at }) any_name no_terminals) _ false refl (λ rest. refl)
goes-dash d (terminal.Str s F.Mod at) =
    to (dash_part d) (other (record { dash = d; name = s; at = at }) mod_name no_terminals) _ false refl (λ rest. refl)
goes-dash d _ = tt

goes-unknown : (o : Opening) (form : OtherForm) (ws : AnyTerminals) (w : Terminal) → GoesAttribute (other o form ws) w (step_unknown w)
goes-unknown o form ws (terminal.Dot n) = record { tree = unknown o form ws n; is = refl; dash = refl; terminals = λ rest. refl }
goes-unknown o form ws w = to (other o form ws) (other o form (and_terminal ws w refl)) w false refl (λ rest. refl)

goes-arity : (o : Opening) (b q : ℕ) (es : SpecTrees) (s : Sym) (form : StringForm) (at d : ℕ) (w : Terminal)
    → GoesAttribute (list_arity o b q es s form at d) w (step_arity (spec_values es) at s w)
goes-arity o b q es s form at d (terminal.Int n i) =
    to (list_arity o b q es s form at d) (list_more o b q es (spec s form at d n i)) _ _ refl (λ rest. refl)
goes-arity o b q es s form at d _ = tt

goes-more : (o : Opening) (b q : ℕ) (es : SpecTrees) (e : SpecTree) (w : Terminal)
    → GoesAttribute (list_more o b q es e) w (behind_export (spec_values es ++ spec_value e ∷ []) w)
goes-more o b q es e terminal.Comma = to (list_more o b q es e) (list_next o b q (and_spec es e)) _ _ refl (λ rest. refl)
goes-more o b q es e terminal.SquareClose = to (list_more o b q es e) (list_close o b q (listing es e)) _ _ refl (λ rest. refl)
goes-more o b q es e _ = tt

-- one more terminal of an attribute
pub goes-attribute : (p : PartAttribute) (w : Terminal) → GoesAttribute p w (step_attribute (part_at p) w)
unfolding step_attribute step_name step_list
goes-attribute (dash_part d) w = goes-dash d w
goes-attribute (name_open o) (terminal.RoundOpen b) = to (name_open o) (name_name o b) _ _ refl (λ rest. refl)
goes-attribute (name_open o) _ = tt
goes-attribute (name_name o b) (terminal.Str s form at) = to (name_name o b) (name_close o b s form at) _ _ refl (λ rest. refl)
goes-attribute (name_name o b) _ = tt
goes-attribute (name_close o b s form at) terminal.RoundClose =
    to (name_close o b s form at) (name_end o b s form at) _ _ refl (λ rest. refl)
goes-attribute (name_close o b s form at) _ = tt
goes-attribute (name_end o b s form at) (terminal.Dot n) =
    record { tree = module_name o b s form at n; is = refl; dash = refl; terminals = λ rest. refl }
goes-attribute (name_end o b s form at) _ = tt
goes-attribute (list_open o) (terminal.RoundOpen b) = to (list_open o) (list_square o b) _ _ refl (λ rest. refl)
goes-attribute (list_open o) _ = tt
goes-attribute (list_square o b) (terminal.SquareOpen q) = to (list_square o b) (list_first o b q) _ _ refl (λ rest. refl)
goes-attribute (list_square o b) _ = tt
goes-attribute (list_first o b q) (terminal.Str s form at) =
    to (list_first o b q) (list_slash o b q no_specs s form at) _ _ refl (λ rest. refl)
goes-attribute (list_first o b q) terminal.SquareClose = to (list_first o b q) (list_close o b q nothing_listed) _ _ refl (λ rest. refl)
goes-attribute (list_first o b q) _ = tt
goes-attribute (list_next o b q es) (terminal.Str s form at) =
    to (list_next o b q es) (list_slash o b q es s form at) _ _ refl (λ rest. refl)
goes-attribute (list_next o b q es) _ = tt
goes-attribute (list_slash o b q es s form at) (terminal.Operator Div d) =
    to (list_slash o b q es s form at) (list_arity o b q es s form at d) _ _ refl (λ rest. refl)
goes-attribute (list_slash o b q es s form at) _ = tt
goes-attribute (list_arity o b q es s form at d) w = goes-arity o b q es s form at d w
goes-attribute (list_more o b q es e) w = goes-more o b q es e w
goes-attribute (list_close o b q es) terminal.RoundClose = to (list_close o b q es) (list_end o b q es) _ _ refl (λ rest. refl)
goes-attribute (list_close o b q es) _ = tt
goes-attribute (list_end o b q es) (terminal.Dot n) =
    record { tree = export_list o b q es n; is = refl; dash = refl; terminals = λ rest. refl }
goes-attribute (list_end o b q es) _ = tt
goes-attribute (other o form ws) w = goes-unknown o form ws w
