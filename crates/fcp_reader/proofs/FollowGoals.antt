-- The goal's machine follows what a goal's tree spells.
use Rattle.std.proofs.Common.{◌≡◌, List, [], ◌∷◌, ◌++◌, refl, ap, Some, Bool, false}
use Rattle.fcp_model.specs.declared.source.Item.{Item}
use Rattle.fcp_grammar.specs.declared.terminals.Terminal.{Terminal}
use Rattle.fcp_grammar.specs.declared.terminals.Terminal.TheVariants as terminal
use Rattle.fcp_grammar.specs.declared.sides.Side.{Side}
use Rattle.fcp_grammar.specs.declared.sides.Side.TheVariants.{Start}
use Rattle.fcp_grammar.specs.declared.sides.ItemStep.TheVariants as N
use Rattle.fcp_grammar.specs.Items.{step_side}
use Rattle.fcp_reader.specs.declared.goals.GoalAt.{GoalAt}
use Rattle.fcp_reader.specs.declared.goals.GoalAt.TheVariants.{Items, Ended}
use Rattle.fcp_reader.specs.Goals.{step, turned, behind_item, beginning, whole, whole_by}
use Rattle.fcp_grammar.specs.Grammar.{Marked, plain}
use Rattle.fcp_grammar.specs.ItemGrammar.{ItemTree, ItemTrees, no_items, and_item, item_value, item_values, spell_item, spell_items, over_items}
use Rattle.fcp_reader.specs.GoalGrammar.{GoalTree, bare_goal, dotted_goal, goal_value, spell_goal_text}
use Rattle.fcp_grammar.proofs.Follow.{follow, Runs, ◌⟫◌}
use Rattle.fcp_grammar.proofs.FollowItems.{IsEnd, after_item, end-item, follow-item}
use Rattle.fcp_reader.proofs.Steps.{go, go_on, checked}

module _ (done : List Item) where
  item-moves : (x y : Side) (w : Terminal) (b : Bool) → step_side (over_items done) x w ≡ N.Goes y b
      → go step (Items done x) (w, b) ≡ Some (Items done y)
  unfolding step
  item-moves x y w b e = checked (step (Items done x) w) (Items done y) b (ap (turned done w) e)

  follow-one : (i : ItemTree) (rest : List Marked)
      → Runs (go step) (Items done Start) (spell_item (over_items done) i rest) (Items done (after_item i)) rest
  follow-one i rest = follow-item (go step) (over_items done) (Items done) item-moves i rest

  end-one : (i : ItemTree) (w : Terminal) → IsEnd w → step (Items done (after_item i)) w ≡ behind_item (done ++ item_value i ∷ []) w
  unfolding step
  end-one i w e = ap (turned done w) (end-item (over_items done) i w e)

follow-items : (is : ItemTrees) (rest : List Marked) → Runs (go step) beginning (spell_items is rest) (Items (item_values is) Start) rest
follow-items no_items rest = record { same = refl }
follow-items (and_item is i) rest =
    follow-items is _
    ⟫ follow-one (item_values is) i _
    ⟫ go_on step _ _ terminal.Comma false rest (end-one (item_values is) i terminal.Comma tt)

-- the state behind a goal
abbrev pub goal_ends : GoalTree → GoalAt
goal_ends (bare_goal is i) = Items (item_values is) (after_item i)
goal_ends (dotted_goal is i n) = Ended (item_values is ++ item_value i ∷ [])

pub follow-goal-text : (g : GoalTree) → follow (go step) beginning (spell_goal_text g) ≡ Some (goal_ends g)
follow-goal-text (bare_goal is i) = (follow-items is _ ⟫ follow-one (item_values is) i []).same
follow-goal-text (dotted_goal is i n) =
    (follow-items is _
    ⟫ follow-one (item_values is) i (plain (terminal.Dot n) ∷ [])
    ⟫ go_on step (Items (item_values is) (after_item i)) (Ended (item_values is ++ item_value i ∷ [])) (terminal.Dot n) false []
    (end-one (item_values is) i (terminal.Dot n) tt)).same

-- a goal may end behind its tree
pub whole-goal : (g : GoalTree) → whole (goal_ends g) ≡ Some (goal_value g)
unfolding whole
whole-goal (bare_goal is i) = ap (whole_by (item_values is)) (end-item (over_items (item_values is)) i (terminal.Dot 0) tt)
whole-goal (dotted_goal is i n) = refl
