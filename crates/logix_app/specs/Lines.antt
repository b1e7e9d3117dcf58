-- The lines that are printed in place of a text.
use Rattle.std.specs.Prelude.{ℕ, ◌++◌, codes, decimal}
use Rattle.fcp_model.specs.declared.fault.Fault.{Fault}
use Rattle.fcp_model.specs.Codes.{code_number}
use Rattle.fcp_model.specs.Spelling.{Bytes}

-- the words have no reading
abbrev pub usage_line : Bytes
usage_line = codes "logix: usage\n"

-- the file could not be fetched
abbrev pub shelf_line : Bytes
shelf_line = codes "logix: shelf fault\n"

-- the file is above the limit
abbrev pub too_long_line : Bytes
too_long_line = codes "logix: too long\n"

-- the number of a fault and its place in bytes
abbrev pub fault_line : Bytes → Fault → Bytes
fault_line what f = codes "logix: " ++ what ++ codes " fault " ++ decimal (code_number f.code) ++ codes " at " ++ decimal f.at ++ codes "\n"

-- of a module
abbrev pub module_line : Fault → Bytes
module_line f = fault_line (codes "module") f

-- of a goal
abbrev pub goal_line : Fault → Bytes
goal_line f = fault_line (codes "goal") f

-- the place in bytes of the fault of a control text
abbrev pub control_line : ℕ → Bytes
control_line at = codes "logix: control fault at " ++ decimal at ++ codes "\n"
