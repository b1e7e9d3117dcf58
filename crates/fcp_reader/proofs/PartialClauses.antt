-- A module that was read so far, and that one more terminal goes on it.
use Rattle.std.proofs.Common.{◌≡◌, List, [], ◌∷◌, ◌++◌, refl, ap, ◌∙◌, sym, subst, Option, Some, None, Bool, true, false, ℕ}
use Rattle.fcp_model.specs.declared.term.Term.{Term}
use Rattle.fcp_model.specs.declared.term.ArithOp.TheVariants.{Sub}
use Rattle.fcp_model.specs.declared.source.Item.{Item}
use Rattle.fcp_model.specs.declared.names.Sym.{Sym}
use Rattle.fcp_grammar.specs.declared.terminals.StringForm.{StringForm}
use Rattle.fcp_grammar.specs.declared.terminals.Terminal.{Terminal}
use Rattle.fcp_grammar.specs.declared.terminals.Terminal.TheVariants as terminal
use Rattle.fcp_grammar.specs.declared.terms.Told.{Told}
use Rattle.fcp_grammar.specs.declared.terms.Told.TheVariants as R
use Rattle.fcp_grammar.specs.declared.sides.Side.TheVariants.{Start}
use Rattle.fcp_grammar.specs.declared.sides.ItemStep.{ItemStep}
use Rattle.fcp_grammar.specs.declared.sides.ItemStep.TheVariants as N
use Rattle.fcp_reader.specs.declared.attributes.AttributeStep.{AttributeStep}
use Rattle.fcp_reader.specs.declared.attributes.AttributeStep.TheVariants as U
use Rattle.fcp_reader.specs.declared.attributes.Said.{Said}
use Rattle.fcp_reader.specs.declared.state.Part.TheVariants as Q
use Rattle.fcp_reader.specs.declared.state.State.{State}
use Rattle.fcp_grammar.specs.Terms as terms
use Rattle.fcp_grammar.specs.Terms.{over, is_large, term_of, full}
use Rattle.fcp_grammar.specs.Items.{step_side, place}
use Rattle.fcp_reader.specs.ModuleValues.{with_said}
use Rattle.fcp_reader.specs.Attributes.{step_attribute}
use Rattle.fcp_reader.specs.Clauses.{state, behind_head, behind_arg, args_told, in_args, behind_item, body_turn, in_body}
use Rattle.fcp_reader.specs.Modules.{step, in_attribute, attribute_turn}
use Rattle.fcp_grammar.specs.Grammar.{Marked, Tree, Trees, none, and, value, values, plain, spells, CallTree, spell_call, with_arguments, name_alone}
use Rattle.fcp_grammar.specs.ItemGrammar.{ItemTree, ItemTrees, no_items, and_item, item_value, item_values, spell_item, spell_items, spell_list, over_items}
use Rattle.fcp_reader.specs.AttributeGrammar.{said_of}
use Rattle.fcp_reader.specs.ClauseGrammar.{fact, rule, guarded, head_value}
use Rattle.fcp_reader.specs.ModuleGrammar.{ModuleTree, and_clause, and_attribute, module_value, spell_module}
use Rattle.fcp_grammar.proofs.Follow.{phase_of, term_of-phase}
use Rattle.fcp_grammar.proofs.Partial as T
use Rattle.fcp_grammar.proofs.Partial.{Part, Last, wanted, after, at_of, so_far}
use Rattle.fcp_grammar.proofs.PartialItems.{PartItem, side_of, item_so_far, Begins, GoesFrom, EndedItem, head_place}
use Rattle.fcp_grammar.proofs.PartialSteps.{goes-side, goes-start}
use Rattle.fcp_reader.proofs.PartialAttributes.{PartAttribute, dash_part, part_at, part_dash, part_terminals, GoesAttribute, EndedAttribute, goes-attribute}

pub data GuardPart : Type 0 where
  no_guard : GuardPart
  guard_of : (front : ItemTrees) (last : ItemTree) → GuardPart

pub data PartClause : Type 0 where
  no_clause : PartClause
  in_dash : (p : PartAttribute) → PartClause
  head_name : (s : Sym) (form : StringForm) (at : ℕ) → PartClause
  head_args : (s : Sym) (form : StringForm) (at : ℕ) (open_at : ℕ) (front : Trees) (ps : List Part) (last : Last) → PartClause
  head_called : (s : Sym) (form : StringForm) (at : ℕ) (open_at : ℕ) (front : Trees) (last : Tree) → PartClause
  starting : (h : CallTree) (g : GuardPart) (is : ItemTrees) → PartClause
  in_item : (h : CallTree) (g : GuardPart) (is : ItemTrees) (a : ℕ) (part : PartItem)
      → Begins a (item_so_far (over_items (item_values is)) part) → PartClause

abbrev pub guard_value : GuardPart → Option (List Item)
guard_value no_guard = None
guard_value (guard_of gs g) = Some (item_values gs ++ item_value g ∷ [])

abbrev pub state_of : ModuleTree → PartClause → State
state_of m no_clause = state (module_value m) Q.Between
state_of m (in_dash p) = state (module_value m) (Q.Attribute (part_dash p) (part_at p))
state_of m (head_name s form a) = state (module_value m) (Q.Named a s)
state_of m (head_args s form a o ts ps last) = state (module_value m) (Q.Args a s (values ts) (at_of ps last))
state_of m (head_called s form a o ts t) = state (module_value m) (Q.Called (head_value (with_arguments s form a o ts t)))
state_of m (starting h g is) = state (module_value m) (Q.Body (head_value h) (guard_value g) (item_values is) Start)
state_of m (in_item h g is a part b) = state (module_value m) (Q.Body (head_value h) (guard_value g) (item_values is) (side_of a part))

abbrev pub terminals_guard : GuardPart → List Marked → List Marked
terminals_guard no_guard rest = rest
terminals_guard (guard_of gs g) rest = spell_list gs g (plain terminal.Bar ∷ rest)

abbrev pub terminals_body : ModuleTree → CallTree → GuardPart → ItemTrees → List Marked → List Marked
terminals_body m h g is rest = spell_module m (spell_call false h (plain terminal.If ∷ terminals_guard g (spell_items is rest)))

abbrev pub terminals_args : ModuleTree → Sym → StringForm → ℕ → ℕ → Trees → List Marked → List Marked
terminals_args m s form a o ts rest = spell_module m ((terminal.Str s form a, false) ∷ plain (terminal.RoundOpen o) ∷ spells true ts rest)

abbrev pub terminals_of : ModuleTree → PartClause → List Marked → List Marked
terminals_of m no_clause rest = spell_module m rest
terminals_of m (in_dash p) rest = spell_module m (part_terminals p rest)
terminals_of m (head_name s form a) rest = spell_module m ((terminal.Str s form a, false) ∷ rest)
terminals_of m (head_args s form a o ts ps last) rest = terminals_args m s form a o ts (so_far (over (values ts)) ps last rest)
terminals_of m (head_called s form a o ts t) rest = spell_module m (spell_call false (with_arguments s form a o ts t) rest)
terminals_of m (starting h g is) rest = terminals_body m h g is rest
terminals_of m (in_item h g is a part b) rest = terminals_body m h g is (item_so_far (over_items (item_values is)) part rest)

pub record MovedState (before : List Marked → List Marked) (w : Terminal) (s : State) (mark : Bool) : Type 0 where
  pub module_tree : ModuleTree
  pub part : PartClause
  pub is : state_of module_tree part ≡ s
  pub terminals : (rest : List Marked) → terminals_of module_tree part rest ≡ before ((w, mark) ∷ rest)

abbrev pub GoesState : (List Marked → List Marked) → Terminal → Option (State × Bool) → Type 0
GoesState before w (Some p) = MovedState before w p.0 p.1
GoesState before w None = Unit {0}

-- ---- attributes

goes-ended : (m : ModuleTree) (p : PartAttribute) (w : Terminal) (said : Said) → EndedAttribute p w said
    → MovedState (λ rest. spell_module m (part_terminals p rest)) w (state (with_said (module_value m) (part_dash p) said) Q.Between) false
goes-ended m p w said e =
    record {
      module_tree = and_attribute m e.tree;
      part = no_clause;
      is =
          ap (λ d. state (with_said (module_value m) d (said_of e.tree)) Q.Between) e.dash
          ∙ ap (λ x. state (with_said (module_value m) (part_dash p) x) Q.Between) e.is;
      terminals = λ rest. ap (spell_module m) (e.terminals rest);
    }

goes-turn : (m : ModuleTree) (p : PartAttribute) (w : Terminal) (turn : AttributeStep) → GoesAttribute p w turn
    → GoesState (λ rest. spell_module m (part_terminals p rest)) w (attribute_turn (module_value m) (part_dash p) turn)
goes-turn m p w (U.Goes at mark) e =
    record {
      module_tree = m;
      part = in_dash e.part;
      is = ap (λ d. state (module_value m) (Q.Attribute d (part_at e.part))) e.dash
          ∙ ap (λ x. state (module_value m) (Q.Attribute (part_dash p) x)) e.is;
      terminals = λ rest. ap (spell_module m) (e.terminals rest);
    }
goes-turn m p w (U.Ends said) e = goes-ended m p w said e
goes-turn m p w U.Refused e = tt

-- ---- clauses

goes-head : (m : ModuleTree) (h : CallTree) (w : Terminal)
    → GoesState (λ rest. spell_module m (spell_call false h rest)) w (behind_head (module_value m) (head_value h) w)
unfolding behind_head
goes-head m h terminal.If = record { module_tree = m; part = starting h no_guard no_items; is = refl; terminals = λ rest. refl }
goes-head m h (terminal.Dot n) = record { module_tree = and_clause m (fact h n); part = no_clause; is = refl; terminals = λ rest. refl }
goes-head m h _ = tt

goes-tree : (m : ModuleTree) (h : CallTree) (g : GuardPart) (is : ItemTrees) (i : ItemTree) (before : List Marked → List Marked)
    (w : Terminal)
    → ((rest : List Marked) → spell_item (over_items (item_values is)) i rest ≡ before rest)
    → GoesState (λ rest. terminals_body m h g is (before rest)) w
    (behind_item (module_value m) (head_value h) (guard_value g) (item_values is ++ item_value i ∷ []) w)
unfolding behind_item
goes-tree m h g is i before terminal.Comma e =
    record {
      module_tree = m;
      part = starting h g (and_item is i);
      is = refl;
      terminals = λ rest. ap (terminals_body m h g is) (e (plain terminal.Comma ∷ rest));
    }
goes-tree m h no_guard is i before terminal.Bar e =
    record {
      module_tree = m;
      part = starting h (guard_of is i) no_items;
      is = refl;
      terminals = λ rest. ap (terminals_body m h no_guard is) (e (plain terminal.Bar ∷ rest));
    }
goes-tree m h (guard_of gs g) is i before terminal.Bar e = tt
goes-tree m h no_guard is i before (terminal.Dot n) e =
    record {
      module_tree = and_clause m (rule h is i n);
      part = no_clause;
      is = refl;
      terminals = λ rest. ap (terminals_body m h no_guard is) (e (plain (terminal.Dot n) ∷ rest));
    }
goes-tree m h (guard_of gs g) is i before (terminal.Dot n) e =
    record {
      module_tree = and_clause m (guarded h gs g is i n);
      part = no_clause;
      is = refl;
      terminals = λ rest. ap (terminals_body m h (guard_of gs g) is) (e (plain (terminal.Dot n) ∷ rest));
    }
goes-tree m h g is i before _ e = tt

goes-item : (m : ModuleTree) (h : CallTree) (g : GuardPart) (is : ItemTrees) (before : List Marked → List Marked) (item : Item)
    (w : Terminal)
    → EndedItem (over_items (item_values is)) before item
    → GoesState (λ rest. terminals_body m h g is (before rest)) w
    (behind_item (module_value m) (head_value h) (guard_value g) (item_values is ++ item ∷ []) w)
goes-item m h g is before item w e =
    subst (λ x. GoesState (λ rest. terminals_body m h g is (before rest)) w
    (behind_item (module_value m) (head_value h) (guard_value g) (item_values is ++ x ∷ []) w)) e.is
    (goes-tree m h g is e.tree before w e.terminals)

goes-body : (m : ModuleTree) (h : CallTree) (g : GuardPart) (is : ItemTrees) (a : ℕ) (before : List Marked → List Marked) (w : Terminal)
    (turn : ItemStep)
    → ((mark : Bool) (rest : List Marked) → head_place (before ((w, mark) ∷ rest)) ≡ a)
    → GoesFrom (over_items (item_values is)) a before w turn
    → GoesState (λ rest. terminals_body m h g is (before rest)) w
    (body_turn (module_value m) (head_value h) (guard_value g) (item_values is) w turn)
goes-body m h g is a before w (N.Goes side mark) b e =
    record {
      module_tree = m;
      part = in_item h g is a e.part (λ rest. ap head_place (e.terminals rest) ∙ b mark rest);
      is = ap (λ x. state (module_value m) (Q.Body (head_value h) (guard_value g) (item_values is) x)) e.is;
      terminals = λ rest. ap (terminals_body m h g is) (e.terminals rest);
    }
goes-body m h g is a before w (N.Ends item) b e = goes-item m h g is before item w e
goes-body m h g is a before w N.Refused b e = tt

-- ---- the head's arguments

goes-arg : (m : ModuleTree) (s : Sym) (form : StringForm) (a o : ℕ) (ts : Trees) (t : Tree) (w : Terminal)
    → GoesState (terminals_of m (head_args s form a o ts [] (after t))) w (behind_arg (module_value m) a s (values ts ++ value t ∷ []) w)
unfolding full
goes-arg m s form a o ts t terminal.Comma =
    record { module_tree = m; part = head_args s form a o (and ts t) [] wanted; is = refl; terminals = λ rest. refl }
goes-arg m s form a o ts t terminal.RoundClose =
    record { module_tree = m; part = head_called s form a o ts t; is = refl; terminals = λ rest. refl }
goes-arg m s form a o ts t _ = tt

goes-args : (m : ModuleTree) (s : Sym) (form : StringForm) (a o : ℕ) (ts : Trees) (ps : List Part) (last : Last) (w : Terminal)
    (told : Told)
    → T.Goes (over (values ts)) ps last w (is_large (over (values ts)) (at_of ps last) w) told
    → GoesState (terminals_of m (head_args s form a o ts ps last)) w (args_told (module_value m) a s (values ts) (at_of ps last) w told)
goes-args m s form a o ts ps last w (R.Read y) g =
    record {
      module_tree = m;
      part = head_args s form a o ts g.ps' g.last';
      is = ap (λ x. state (module_value m) (Q.Args a s (values ts) x)) g.is;
      terminals = λ rest. ap (terminals_args m s form a o ts) (g.terminals rest);
    }
goes-args m s form a o ts ps last w (R.Whole phase) g =
    let P : List Part → Last → Term → Type 0 =
    λ qs x v. GoesState (terminals_of m (head_args s form a o ts qs x)) w (behind_arg (module_value m) a s (values ts ++ v ∷ []) w) in
    subst (λ f. P ps last (term_of f)) (sym g.is)
    (subst (λ x. P ps x (term_of (phase_of g.tree))) (sym g.ends)
    (subst (λ qs. P qs (after g.tree) (term_of (phase_of g.tree))) (sym g.alone)
    (subst (λ v. P [] (after g.tree) v) (sym (term_of-phase g.tree)) (goes-arg m s form a o ts g.tree w))))
goes-args m s form a o ts ps last w R.Refused g = tt

-- one more terminal
pub goes : (m : ModuleTree) (part : PartClause) (w : Terminal) → GoesState (terminals_of m part) w (step (state_of m part) w)
unfolding step in_args in_body in_attribute
goes m no_clause (terminal.Str s form a) = record { module_tree = m; part = head_name s form a; is = refl; terminals = λ rest. refl }
goes m no_clause (terminal.Operator Sub a) = record { module_tree = m; part = in_dash (dash_part a); is = refl; terminals = λ rest. refl }
goes m no_clause _ = tt
goes m (in_dash p) w = goes-turn m p w (step_attribute (part_at p) w) (goes-attribute p w)
goes m (head_name s form a) (terminal.RoundOpen o) =
    record { module_tree = m; part = head_args s form a o none [] wanted; is = refl; terminals = λ rest. refl }
goes m (head_name s form a) w = goes-head m (name_alone s form a) w
goes m (head_args s form a o ts ps last) w =
    goes-args m s form a o ts ps last w (terms.step (at_of ps last) w) (T.goes (over (values ts)) ps last w)
goes m (head_called s form a o ts t) w = goes-head m (with_arguments s form a o ts t) w
goes m (starting h g is) w =
    goes-body m h g is (place w) (λ rest. rest) w (step_side (over_items (item_values is)) Start w) (λ mark rest. refl)
    (goes-start (over_items (item_values is)) w)
goes m (in_item h g is a part b) w =
    goes-body m h g is a (item_so_far (over_items (item_values is)) part) w (step_side (over_items (item_values is)) (side_of a part) w)
    (λ mark rest. b ((w, mark) ∷ rest)) (goes-side (over_items (item_values is)) a part w b)
