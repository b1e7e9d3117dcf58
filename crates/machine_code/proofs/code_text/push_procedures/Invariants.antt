use Rattle.std.proofs.Common.{◌≡◌, ◌++◌, map, take}
use Rattle.std.specs.List.{flat_map}
use Rattle.machine_code.specs.Compiling.{entrance_of}
use Rattle.machine_code.specs.Listing.{procedure_line}
use Rattle.machine_code.proofs.code_text.push_procedures.Given as goal

-- the procedures so far
abbrev pub invariant-loop-procedure : goal.invariant-loop-procedure
invariant-loop-procedure l =
    l.text.items ≡ l.fn.text.items ++ flat_map (procedure_line l.names) (map entrance_of (take l.procedure-index l.procedures))
