-- The lines of a log whose texts need no bindings, and the lines that end it.
use Rattle.std.specs.Prelude.{ℕ, ◌++◌, List, codes, decimal}
use Rattle.fcp_model.specs.declared.run.Proc.{Proc}
use Rattle.fcp_model.specs.declared.run.Place.{Place}
use Rattle.fcp_model.specs.declared.run.Outcome.{Outcome}
use Rattle.fcp_model.specs.Spelling.{Bytes, process_text}
use Rattle.fcp_model.specs.LogText.{places_text}
use Rattle.fcp_model.specs.ReportText.{outcome_word}

-- the line of a hang, with the places on which the process waits
abbrev pub hang_line : ℕ → Proc → List Place → Bytes
hang_line entry process places = decimal entry ++ codes " " ++ (codes "hang " ++ process_text process ++ places_text places) ++ codes "\n"

-- the line of a fail
abbrev pub fail_line : ℕ → Proc → Bytes
fail_line entry process = decimal entry ++ codes " " ++ (codes "fail " ++ process_text process) ++ codes "\n"

-- the last line of a log, with the number of the last entry
abbrev pub end_line : ℕ → Bytes
end_line last = codes "end " ++ decimal last ++ codes "\n"

-- the line of an outcome
abbrev pub outcome_line : Outcome → Bytes
outcome_line outcome = codes "outcome " ++ outcome_word outcome ++ codes "\n"
