use Rattle.std.proofs.Common.{◌≡◌, List, take}
use Rattle.std.specs.Prelude.{sum_by}
use Rattle.fcp_model.specs.declared.loaded.ProcedureName.{ProcedureName}
use Rattle.fcp_model.specs.Translation.{goals_of}
use Rattle.fcp_model.specs.Cells.{goal_cells}
use Rattle.clause_compiler.proofs.sizes.body_cells.Given as goal

abbrev pub invariant-loop-item : goal.invariant-loop-item
invariant-loop-item l = (hs : List ProcedureName) → sum_by goal_cells (goals_of hs (take l.item-index l.items)) ≡ l.cells
