-- The name that a shelf keeps of a fetch that failed.
use Rattle.std.specs.Prelude.{ℕ, List, Option}
use Rattle.std.specs.Option.{option_map}
use Rattle.std.specs.String.{string_bytes}
use Rattle.logix_edge.specs.declared.faults.Faults.{Faults}

-- the name of the fetch that failed last, if one has failed
abbrev pub last_name : Faults → Option (List ℕ)
last_name faults = option_map string_bytes faults.last
