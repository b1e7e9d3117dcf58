-- What is proved of all programs.
use Rattle.std.specs.Prelude.{◌≤◌, ◌<◌, length}
use Rattle.fcp_model.specs.declared.source.Module.{Module}
use Rattle.fcp_model.specs.declared.goal.TheConstants.{TRUE_PROCEDURE}
use Rattle.fcp_model.specs.ProcedureNames.{procedure_names}
use Rattle.fcp_model.specs.Programs.{Program}
use Rattle.fcp_model.specs.Translation.{program_of}
use Rattle.clause_compiler.specs.ClauseCode.{nowhere, procedures_code, code_of}
use Rattle.clause_compiler.specs.Sources.{IsSourceProgram}
use Rattle.machine_code.specs.Correct.{MeansSource}

-- the code of a program, where it has a position for each instruction, means what the program's clauses decide
abbrev pub code_means_source : Type 0
code_means_source = (m : Program) → IsSourceProgram m → length (procedures_code 0 m) ≤ nowhere → MeansSource m (code_of m)

-- the same for the program of a module
abbrev pub module_means_source : Type 0
module_means_source =
    (m : Module) → length (procedure_names m.clauses) < TRUE_PROCEDURE → length (procedures_code 0 (program_of m)) ≤ nowhere
    → MeansSource (program_of m) (code_of (program_of m))
