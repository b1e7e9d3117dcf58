-- A goal that was read so far, and that one more terminal goes on it.
use Rattle.std.proofs.Common.{◌≡◌, List, [], ◌∷◌, ◌++◌, refl, ap, ◌∙◌, subst, Option, Some, Bool, ℕ}
use Rattle.fcp_model.specs.declared.source.Item.{Item}
use Rattle.fcp_grammar.specs.declared.terminals.Terminal.{Terminal}
use Rattle.fcp_grammar.specs.declared.terminals.Terminal.TheVariants as terminal
use Rattle.fcp_grammar.specs.declared.sides.Side.TheVariants.{Start}
use Rattle.fcp_grammar.specs.declared.sides.ItemStep.{ItemStep}
use Rattle.fcp_grammar.specs.declared.sides.ItemStep.TheVariants as N
use Rattle.fcp_grammar.specs.Items.{step_side, place}
use Rattle.fcp_reader.specs.declared.goals.GoalAt.{GoalAt}
use Rattle.fcp_reader.specs.declared.goals.GoalAt.TheVariants.{Items, Ended}
use Rattle.fcp_reader.specs.Goals.{step, turned, behind_item, whole, whole_by}
use Rattle.fcp_grammar.specs.Grammar.{Marked, plain}
use Rattle.fcp_grammar.specs.ItemGrammar.{ItemTree, ItemTrees, and_item, item_value, item_values, spell_item, spell_items, spell_list, over_items}
use Rattle.fcp_reader.specs.GoalGrammar.{bare_goal, dotted_goal, goal_value, spell_goal_text}
use Rattle.fcp_grammar.proofs.PartialItems.{PartItem, side_of, item_so_far, Begins, GoesFrom, EndedItem, head_place}
use Rattle.fcp_grammar.proofs.PartialSteps.{goes-side, goes-start}
use Rattle.fcp_reader.proofs.Machines.{GoesTo, WholeText}

pub data PartGoal : Type 0 where
  starting : (is : ItemTrees) → PartGoal
  in_item : (is : ItemTrees) (a : ℕ) (part : PartItem) → Begins a (item_so_far (over_items (item_values is)) part) → PartGoal
  dotted : (is : ItemTrees) (i : ItemTree) (n : ℕ) → PartGoal

abbrev pub state_of : PartGoal → GoalAt
state_of (starting is) = Items (item_values is) Start
state_of (in_item is a part b) = Items (item_values is) (side_of a part)
state_of (dotted is i n) = Ended (item_values is ++ item_value i ∷ [])

abbrev pub terminals_of : PartGoal → List Marked → List Marked
terminals_of (starting is) rest = spell_items is rest
terminals_of (in_item is a part b) rest = spell_items is (item_so_far (over_items (item_values is)) part rest)
terminals_of (dotted is i n) rest = spell_list is i (plain (terminal.Dot n) ∷ rest)

abbrev pub GoesGoal : (List Marked → List Marked) → Terminal → Option (GoalAt × Bool) → Type 0
GoesGoal = GoesTo state_of terminals_of

goes-tree : (is : ItemTrees) (i : ItemTree) (before : List Marked → List Marked) (w : Terminal)
    → ((rest : List Marked) → spell_item (over_items (item_values is)) i rest ≡ before rest)
    → GoesGoal (λ rest. spell_items is (before rest)) w (behind_item (item_values is ++ item_value i ∷ []) w)
goes-tree is i before terminal.Comma e =
    record { part = starting (and_item is i); is = refl; terminals = λ rest. ap (spell_items is) (e (plain terminal.Comma ∷ rest)) }
goes-tree is i before (terminal.Dot n) e =
    record { part = dotted is i n; is = refl; terminals = λ rest. ap (spell_items is) (e (plain (terminal.Dot n) ∷ rest)) }
goes-tree is i before _ e = tt

goes-item : (is : ItemTrees) (before : List Marked → List Marked) (item : Item) (w : Terminal)
    → EndedItem (over_items (item_values is)) before item
    → GoesGoal (λ rest. spell_items is (before rest)) w (behind_item (item_values is ++ item ∷ []) w)
goes-item is before item w e =
    subst (λ x. GoesGoal (λ rest. spell_items is (before rest)) w (behind_item (item_values is ++ x ∷ []) w)) e.is
    (goes-tree is e.tree before w e.terminals)

goes-turn : (is : ItemTrees) (a : ℕ) (before : List Marked → List Marked) (w : Terminal) (turn : ItemStep)
    → ((mark : Bool) (rest : List Marked) → head_place (before ((w, mark) ∷ rest)) ≡ a)
    → GoesFrom (over_items (item_values is)) a before w turn
    → GoesGoal (λ rest. spell_items is (before rest)) w (turned (item_values is) w turn)
goes-turn is a before w (N.Goes side mark) b e =
    record {
      part = in_item is a e.part (λ rest. ap head_place (e.terminals rest) ∙ b mark rest);
      is = ap (Items (item_values is)) e.is;
      terminals = λ rest. ap (spell_items is) (e.terminals rest);
    }
goes-turn is a before w (N.Ends item) b e = goes-item is before item w e
goes-turn is a before w N.Refused b e = tt

-- one more terminal
pub goes : (p : PartGoal) (w : Terminal) → GoesGoal (terminals_of p) w (step (state_of p) w)
unfolding step
goes (starting is) w =
    goes-turn is (place w) (λ rest. rest) w (step_side (over_items (item_values is)) Start w) (λ mark rest. refl)
    (goes-start (over_items (item_values is)) w)
goes (in_item is a part b) w =
    goes-turn is a (item_so_far (over_items (item_values is)) part) w (step_side (over_items (item_values is)) (side_of a part) w)
    (λ mark rest. b ((w, mark) ∷ rest)) (goes-side (over_items (item_values is)) a part w b)
goes (dotted is i n) w = tt

-- ---- the end

abbrev IsWhole : (List Marked → List Marked) → List Item → Type 0
IsWhole = WholeText spell_goal_text goal_value

same-some : {A : Type 0} (s t : A) → Some s ≡ Some t → s ≡ t
same-some s t e = cc

whole-turn : (is : ItemTrees) (a : ℕ) (before : List Marked → List Marked) (turn : ItemStep) (v : List Item)
    → GoesFrom (over_items (item_values is)) a before (terminal.Dot 0) turn → whole_by (item_values is) turn ≡ Some v
    → IsWhole (λ rest. spell_items is (before rest)) v
whole-turn is a before (N.Goes side mark) v g e = cc
whole-turn is a before (N.Ends item) v g e =
    record {
      tree = bare_goal is g.tree;
      is = ap (λ x. item_values is ++ x ∷ []) g.is ∙ same-some (item_values is ++ item ∷ []) v e;
      terminals = ap (spell_items is) (g.terminals []);
    }
whole-turn is a before N.Refused v g e = cc

-- where the terminals may end they are a goal
pub whole-part : (p : PartGoal) (v : List Item) → whole (state_of p) ≡ Some v → IsWhole (terminals_of p) v
unfolding whole
whole-part (starting is) v e =
    whole-turn is (place (terminal.Dot 0)) (λ rest. rest) (step_side (over_items (item_values is)) Start (terminal.Dot 0)) v
    (goes-start (over_items (item_values is)) (terminal.Dot 0)) e
whole-part (in_item is a part b) v e =
    whole-turn is a (item_so_far (over_items (item_values is)) part)
    (step_side (over_items (item_values is)) (side_of a part) (terminal.Dot 0)) v
    (goes-side (over_items (item_values is)) a part (terminal.Dot 0) b) e
whole-part (dotted is i n) v e =
    record { tree = dotted_goal is i n; is = same-some (item_values is ++ item_value i ∷ []) v e; terminals = refl }
