use Rattle.std.proofs.Common.{length, drop}
use Rattle.fcp_model.specs.Translation.{program_of}
use Rattle.clause_compiler.specs.ClauseCode.{clauses_code, clauses_in}
use Rattle.clause_compiler.proofs.ProcedureLoops.{ClausesLeft}
use Rattle.clause_compiler.proofs.procedures.procedure_code.Given as goal

abbrev pub invariant-loop-place : goal.invariant-loop-place
invariant-loop-place l =
    ClausesLeft l.loaded l.fn.code l.code
    (clauses_code (length l.fn.code.instrs.items) 1 (clauses_in (program_of l.loaded) l.procedure)) l.number
    (drop l.place-index l.places)
