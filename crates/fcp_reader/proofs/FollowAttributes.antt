-- The module's machine follows what trees of attributes, and so of modules, spell.
use Rattle.std.proofs.Common.{◌≡◌, List, [], ◌∷◌, ◌++◌, refl, ap, Some, Bool, false, ℕ}
use Rattle.fcp_model.specs.declared.source.Module.{Module}
use Rattle.fcp_model.specs.declared.source.Export.{Export}
use Rattle.fcp_model.specs.declared.term.ArithOp.TheVariants.{Sub, Div}
use Rattle.fcp_grammar.specs.declared.terminals.StringForm.TheVariants as F
use Rattle.fcp_grammar.specs.declared.terminals.Terminal.{Terminal}
use Rattle.fcp_grammar.specs.declared.terminals.Terminal.TheVariants as terminal
use Rattle.fcp_reader.specs.declared.attributes.NameAt.TheVariants as M
use Rattle.fcp_reader.specs.declared.attributes.ListAt.{ListAt}
use Rattle.fcp_reader.specs.declared.attributes.ListAt.TheVariants as X
use Rattle.fcp_reader.specs.declared.attributes.AttributeAt.{AttributeAt}
use Rattle.fcp_reader.specs.declared.attributes.AttributeAt.TheVariants as A
use Rattle.fcp_reader.specs.declared.attributes.AttributeStep.TheVariants as T
use Rattle.fcp_reader.specs.declared.state.Part.TheVariants as Q
use Rattle.fcp_reader.specs.declared.state.State.{State}
use Rattle.fcp_grammar.specs.Grammar.{Marked, plain}
use Rattle.fcp_reader.specs.ModuleValues.{is_no_arity, export_of, with_said}
use Rattle.fcp_reader.specs.Attributes.{step_attribute, step_name, step_list, step_dash, step_unknown}
use Rattle.fcp_reader.specs.Clauses.{state}
use Rattle.fcp_reader.specs.Modules.{step, in_attribute, attribute_turn, beginning}
use Rattle.fcp_reader.specs.AttributeGrammar.{SpecTree, spec, spec_value, spell_spec, SpecTrees, no_specs, and_spec, spec_values, spell_specs, Listing, nothing_listed, listing, listing_value, spell_listing, Opening, OtherForm, any_name, mod_name, form_of, is_dot, AnyTerminals, no_terminals, and_terminal, spell_any, AttributeTree, module_name, export_list, unknown, dash_of, said_of, spell_attribute}
use Rattle.fcp_reader.specs.ModuleGrammar.{ModuleTree, empty, and_clause, and_attribute, module_value, spell_module, spell_module_text}
use Rattle.fcp_grammar.proofs.Follow.{follow, Runs, ◌⟫◌}
use Rattle.fcp_reader.proofs.Steps.{go, go_on}
use Rattle.fcp_reader.proofs.FollowClauses.{follow-clause}

module _ (m : Module) (d : ℕ) where
  abbrev inside : AttributeAt → State
  inside at = state m (Q.Attribute d at)

  moves : (x y : AttributeAt) (w : Terminal) (b : Bool) (rest : List Marked) → step_attribute x w ≡ T.Goes y b
      → Runs (go step) (inside x) ((w, b) ∷ rest) (inside y) rest
  unfolding step in_attribute
  moves x y w b rest e = go_on step (inside x) (inside y) w b rest (ap (attribute_turn m d) e)

  stops : (x : AttributeAt) (n : ℕ) (rest : List Marked) (said : Rattle.fcp_reader.specs.declared.attributes.Said.Said)
      → step_attribute x (terminal.Dot n) ≡ T.Ends said
      → Runs (go step) (inside x) (plain (terminal.Dot n) ∷ rest) (state (with_said m d said) Q.Between) rest
  unfolding step in_attribute
  stops x n rest said e =
      go_on step (inside x) (state (with_said m d said) Q.Between) (terminal.Dot n) false rest (ap (attribute_turn m d) e)

  -- ---- an `-export`

  abbrev in_list : ListAt → State
  in_list at = inside (A.List at)

  follow-spec : (es : List Export) (e : SpecTree) (rest : List Marked)
      → Runs (go step) (in_list (X.Next es)) (spell_spec e rest) (in_list (X.More (es ++ spec_value e ∷ []))) rest
  unfolding step_attribute step_list
  follow-spec es (spec s form at slash n i) rest =
      moves (A.List (X.Next es)) (A.List (X.Slash es at s)) (terminal.Str s form at) false _ refl
      ⟫ moves (A.List (X.Slash es at s)) (A.List (X.Arity es at s)) (terminal.Operator Div slash) false _ refl
      ⟫ moves (A.List (X.Arity es at s)) (A.List (X.More (es ++ export_of at s n ∷ []))) (terminal.Int n i) (is_no_arity n) rest refl

  follow-first : (e : SpecTree) (rest : List Marked)
      → Runs (go step) (in_list X.First) (spell_spec e rest) (in_list (X.More (spec_value e ∷ []))) rest
  unfolding step_attribute step_list
  follow-first (spec s form at slash n i) rest =
      moves (A.List X.First) (A.List (X.Slash [] at s)) (terminal.Str s form at) false _ refl
      ⟫ moves (A.List (X.Slash [] at s)) (A.List (X.Arity [] at s)) (terminal.Operator Div slash) false _ refl
      ⟫ moves (A.List (X.Arity [] at s)) (A.List (X.More (export_of at s n ∷ []))) (terminal.Int n i) (is_no_arity n) rest refl

  comma : (es : List Export) (rest : List Marked)
      → Runs (go step) (in_list (X.More es)) (plain terminal.Comma ∷ rest) (in_list (X.Next es)) rest
  unfolding step_attribute step_list
  comma es rest = moves (A.List (X.More es)) (A.List (X.Next es)) terminal.Comma false rest refl

  -- one element or more
  follow-specs : (es : SpecTrees) (e : SpecTree) (rest : List Marked)
      → Runs (go step) (in_list X.First) (spell_specs es (spell_spec e rest)) (in_list (X.More (spec_values es ++ spec_value e ∷ []))) rest
  follow-specs no_specs e rest = follow-first e rest
  follow-specs (and_spec es f) e rest =
      follow-specs es f _
      ⟫ comma (spec_values es ++ spec_value f ∷ []) _
      ⟫ follow-spec (spec_values es ++ spec_value f ∷ []) e rest

  follow-listing : (es : Listing) (rest : List Marked)
      → Runs (go step) (in_list X.First) (spell_listing es (plain terminal.SquareClose ∷ rest)) (in_list (X.Close (listing_value es))) rest
  unfolding step_attribute step_list
  follow-listing nothing_listed rest = moves (A.List X.First) (A.List (X.Close [])) terminal.SquareClose false rest refl
  follow-listing (listing es e) rest =
      follow-specs es e _
      ⟫ moves (A.List (X.More (spec_values es ++ spec_value e ∷ [])))
      (A.List (X.Close (spec_values es ++ spec_value e ∷ []))) terminal.SquareClose false rest refl

  -- ---- any other

  not-dot : (w : Terminal) → is_dot w ≡ false → step_unknown w ≡ T.Goes A.Unknown false
  not-dot (terminal.Dot n) h = cc
  not-dot _ h = refl

  follow-any : (ws : AnyTerminals) (rest : List Marked) → Runs (go step) (inside A.Unknown) (spell_any ws rest) (inside A.Unknown) rest
  unfolding step_attribute
  follow-any no_terminals rest = record { same = refl }
  follow-any (and_terminal ws w h) rest = follow-any ws _ ⟫ moves A.Unknown A.Unknown w false rest (not-dot w h)

  other-dash : (o : Opening) (form : OtherForm) → step_dash (terminal.Str o.name (form_of form) o.at) ≡ T.Goes A.Unknown false
  other-dash o any_name = refl
  other-dash o mod_name = refl

dashed : (m : Module) (d : ℕ) (rest : List Marked)
    → Runs (go step) (state m Q.Between) (plain (terminal.Operator Sub d) ∷ rest) (inside m d A.Dash) rest
unfolding step
dashed m d rest = go_on step (state m Q.Between) (inside m d A.Dash) (terminal.Operator Sub d) false rest refl

follow-attribute : (m : Module) (a : AttributeTree) (rest : List Marked)
    → Runs (go step) (state m Q.Between) (spell_attribute a rest) (state (with_said m (dash_of a) (said_of a)) Q.Between) rest
unfolding step_attribute step_name step_list
follow-attribute m (module_name o b s form at n) rest =
    dashed m o.dash _
    ⟫ moves m o.dash A.Dash (A.Name M.Open) (terminal.Str o.name F.Module o.at) false _ refl
    ⟫ moves m o.dash (A.Name M.Open) (A.Name M.Name) (terminal.RoundOpen b) false _ refl
    ⟫ moves m o.dash (A.Name M.Name) (A.Name (M.Close s)) (terminal.Str s form at) false _ refl
    ⟫ moves m o.dash (A.Name (M.Close s)) (A.Name (M.End s)) terminal.RoundClose false _ refl
    ⟫ stops m o.dash (A.Name (M.End s)) n rest _ refl
follow-attribute m (export_list o b q es n) rest =
    dashed m o.dash _
    ⟫ moves m o.dash A.Dash (A.List X.Open) (terminal.Str o.name F.Export o.at) false _ refl
    ⟫ moves m o.dash (A.List X.Open) (A.List X.Square) (terminal.RoundOpen b) false _ refl
    ⟫ moves m o.dash (A.List X.Square) (A.List X.First) (terminal.SquareOpen q) false _ refl
    ⟫ follow-listing m o.dash es _
    ⟫ moves m o.dash (A.List (X.Close (listing_value es))) (A.List (X.End (listing_value es))) terminal.RoundClose false _ refl
    ⟫ stops m o.dash (A.List (X.End (listing_value es))) n rest _ refl
follow-attribute m (unknown o form ws n) rest =
    dashed m o.dash _
    ⟫ moves m o.dash A.Dash A.Unknown (terminal.Str o.name (form_of form) o.at) false _ (other-dash m o.dash o form)
    ⟫ follow-any m o.dash ws _
    ⟫ stops m o.dash A.Unknown n rest _ refl

-- ---- modules

follow-module : (m : ModuleTree) (rest : List Marked)
    → Runs (go step) beginning (spell_module m rest) (state (module_value m) Q.Between) rest
follow-module empty rest = record { same = refl }
follow-module (and_clause m c) rest = follow-module m _ ⟫ follow-clause (module_value m) c rest
follow-module (and_attribute m a) rest = follow-module m _ ⟫ follow-attribute (module_value m) a rest

pub follow-module-text : (m : ModuleTree) → follow (go step) beginning (spell_module_text m) ≡ Some (state (module_value m) Q.Between)
follow-module-text m = (follow-module m []).same
