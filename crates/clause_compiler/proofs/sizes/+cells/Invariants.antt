use Rattle.std.proofs.Common.{◌≡◌, ◌+◌, ◌≤◌, map, drop}
use Rattle.fcp_model.specs.declared.term.Term.{size-Term}
use Rattle.fcp_model.specs.Translation.{term_of, terms_of}
use Rattle.fcp_model.specs.Cells.{term_cells, terms_cells}
use Rattle.clause_compiler.proofs.sizes.+cells.Given as goal

abbrev pub invariant-term_cells-loop-rest : goal.invariant-term_cells-loop-rest
invariant-term_cells-loop-rest l =
    (l.cells + term_cells (term_of l.rest) ≡ term_cells (term_of l.term)) × (size-Term l.rest ≤ size-Term l.term)

abbrev pub invariant-part_cells-loop-term : goal.invariant-part_cells-loop-term
invariant-part_cells-loop-term l =
    l.cells + terms_cells (terms_of (map term_of (drop l.term-index l.terms))) ≡ terms_cells (terms_of (map term_of l.terms))
