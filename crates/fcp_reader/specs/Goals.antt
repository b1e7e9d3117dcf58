-- Not believed, for the machine alone: reading a goal: what one more terminal does, and where it may end.
use Rattle.std.specs.Prelude.{List, [], ◌∷◌, ◌++◌, Bool, false, Option, Some, None}
use Rattle.fcp_model.specs.declared.source.Item.{Item}
use Rattle.fcp_grammar.specs.declared.terminals.Terminal.{Terminal}
use Rattle.fcp_grammar.specs.declared.terminals.Terminal.TheVariants as terminal
use Rattle.fcp_grammar.specs.declared.sides.Side.TheVariants.{Start}
use Rattle.fcp_grammar.specs.declared.sides.ItemStep.{ItemStep}
use Rattle.fcp_grammar.specs.declared.sides.ItemStep.TheVariants as N
use Rattle.fcp_grammar.specs.Items.{step_side}
use Rattle.fcp_grammar.specs.ItemGrammar.{over_items}
use Rattle.fcp_reader.specs.declared.goals.GoalAt.{GoalAt}
use Rattle.fcp_reader.specs.declared.goals.GoalAt.TheVariants.{Items, Ended}

-- before the first terminal
abbrev pub beginning : GoalAt
beginning = Items [] Start

-- the terminal behind an item
abbrev pub behind_item : List Item → Terminal → Option (GoalAt × Bool)
behind_item items terminal.Comma = Some (Items items Start, false)
behind_item items (terminal.Dot n) = Some (Ended items, false)
behind_item items _ = None

-- a terminal within an item, by what it comes to there
abbrev pub turned : List Item → Terminal → ItemStep → Option (GoalAt × Bool)
turned items w (N.Goes side mark) = Some (Items items side, mark)
turned items w (N.Ends item) = behind_item (items ++ item ∷ []) w
turned items w N.Refused = None

-- one terminal, and whether it is one too many
unfoldable pub step : GoalAt → Terminal → Option (GoalAt × Bool)
step (Items items side) w = turned items w (step_side (over_items items) side w)
step (Ended items) w = None

-- the items, where the last one ends here
abbrev pub whole_by : List Item → ItemStep → Option (List Item)
whole_by items (N.Ends item) = Some (items ++ item ∷ [])
whole_by items _ = None

-- the goal's items, where the terminals may end here: where a `.` might stand, and behind it
unfoldable pub whole : GoalAt → Option (List Item)
whole (Items items side) = whole_by items (step_side (over_items items) side (terminal.Dot 0))
whole (Ended items) = Some items
