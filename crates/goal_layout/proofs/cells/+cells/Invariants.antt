use Rattle.std.proofs.Common.{◌≡◌, ◌+◌, ◌≤◌, map, drop}
use Rattle.fcp_model.specs.declared.term.Term.{size-Term}
use Rattle.fcp_model.specs.Translation.{term_of, terms_of}
use Rattle.fcp_model.specs.Cells.{term_cells, terms_cells}
use Rattle.goal_layout.specs.Goals.{at_most}
use Rattle.goal_layout.proofs.cells.+cells.Given as goal

abbrev pub invariant-term_cells-loop-rest : goal.invariant-term_cells-loop-rest
invariant-term_cells-loop-rest l =
    (at_most (l.cells + term_cells (term_of l.rest)) ≡ at_most (term_cells (term_of l.term))) × (size-Term l.rest ≤ size-Term l.term)
    × (l.cells ≤ 4294967295)

abbrev pub invariant-part_cells-loop-term : goal.invariant-part_cells-loop-term
invariant-part_cells-loop-term l =
    (at_most (l.cells + terms_cells (terms_of (map term_of (drop l.term-index l.terms))))
    ≡ at_most (terms_cells (terms_of (map term_of l.terms))))
    × (l.cells ≤ 4294967295)
