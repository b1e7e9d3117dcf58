use Rattle.std.proofs.Common.{◌≡◌, map, take}
use Rattle.std.specs.Prelude.{sum_by}
use Rattle.fcp_model.specs.Translation.{term_of}
use Rattle.fcp_model.specs.Cells.{term_cells}
use Rattle.clause_compiler.proofs.sizes.argument_cells.Given as goal

abbrev pub invariant-loop-term : goal.invariant-loop-term
invariant-loop-term l = sum_by term_cells (map term_of (take l.term-index l.args)) ≡ l.cells
