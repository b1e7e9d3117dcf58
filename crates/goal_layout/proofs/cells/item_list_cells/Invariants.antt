use Rattle.std.proofs.Common.{◌≡◌, List, take}
use Rattle.std.specs.Prelude.{sum_by}
use Rattle.fcp_model.specs.declared.loaded.ProcedureName.{ProcedureName}
use Rattle.fcp_model.specs.Translation.{goals_of}
use Rattle.fcp_model.specs.Cells.{goal_cells}
use Rattle.goal_layout.specs.Goals.{at_most}
use Rattle.goal_layout.proofs.cells.item_list_cells.Given as goal

abbrev pub invariant-loop-item : goal.invariant-loop-item
invariant-loop-item l = (hs : List ProcedureName) → l.cells ≡ at_most (sum_by goal_cells (goals_of hs (take l.item-index l.items)))
