use Rattle.std.proofs.Common.{map, drop}
use Rattle.fcp_model.specs.Translation.{program_of}
use Rattle.machine_code.specs.Correct.{clause_size}
use Rattle.clause_compiler.specs.ClauseCode.{clauses_in}
use Rattle.clause_compiler.proofs.ClauseSizes.{SizesLeft}
use Rattle.clause_compiler.proofs.sizes.clause_sizes.Given as goal

abbrev pub invariant-loop-place : goal.invariant-loop-place
invariant-loop-place l =
    SizesLeft l.loaded l.sizes.items (map clause_size (clauses_in (program_of l.loaded) l.procedure)) (drop l.place-index l.places)
