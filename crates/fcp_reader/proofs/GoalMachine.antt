-- The machine of goals.
use Rattle.std.proofs.Common.{List, refl}
use Rattle.fcp_model.specs.declared.source.Item.{Item}
use Rattle.fcp_grammar.specs.ItemGrammar.{no_items}
use Rattle.fcp_reader.specs.declared.goals.GoalAt.{GoalAt}
use Rattle.fcp_reader.specs.Goals.{step, beginning, whole}
use Rattle.fcp_reader.specs.GoalGrammar.{GoalTree, goal_value, spell_goal_text}
use Rattle.fcp_reader.proofs.FollowGoals.{goal_ends, follow-goal-text, whole-goal}
use Rattle.fcp_reader.proofs.PartialGoals.{PartGoal, starting, state_of, terminals_of, goes, whole-part}
use Rattle.fcp_reader.proofs.Finishing.{finish-goal}
use Rattle.fcp_reader.proofs.Machines.{Machine}

abbrev pub goals : Machine GoalAt GoalTree PartGoal (List Item)
goals = record {
  step = step;
  spell = spell_goal_text;
  value = goal_value;
  beginning = beginning;
  ends = goal_ends;
  whole = whole;
  state_of = state_of;
  terminals_of = terminals_of;
  none = starting no_items;
  none-state = refl;
  none-terminals = λ rest. refl;
  follows = follow-goal-text;
  goes = goes;
  finish = finish-goal;
  whole-ends = whole-goal;
  whole-part = whole-part;
}
