-- Believed: the grammar of goals, items, with or without a `.` behind them.
use Rattle.std.specs.Prelude.{ℕ, List, [], ◌∷◌, ◌++◌}
use Rattle.fcp_model.specs.declared.source.Item.{Item}
use Rattle.fcp_grammar.specs.declared.terminals.Terminal.TheVariants as terminal
use Rattle.fcp_grammar.specs.Grammar.{Marked, plain}
use Rattle.fcp_grammar.specs.ItemGrammar.{ItemTree, ItemTrees, item_value, item_values, spell_list}

-- `vars` is the number that the `.` has
pub data GoalTree : Type 0 where
  bare_goal : (front : ItemTrees) (last : ItemTree) → GoalTree
  dotted_goal : (front : ItemTrees) (last : ItemTree) (vars : ℕ) → GoalTree

-- its items, in order
abbrev pub goal_value : GoalTree → List Item
goal_value (bare_goal is i) = item_values is ++ item_value i ∷ []
goal_value (dotted_goal is i n) = item_values is ++ item_value i ∷ []

-- the terminals of a whole text
abbrev pub spell_goal_text : GoalTree → List Marked
spell_goal_text (bare_goal is i) = spell_list is i []
spell_goal_text (dotted_goal is i n) = spell_list is i (plain (terminal.Dot n) ∷ [])
