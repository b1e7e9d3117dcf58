-- The line that begins a snapshot.
use Rattle.std.specs.Prelude.{ℕ, ◌++◌, codes, decimal}
use Rattle.fcp_model.specs.Spelling.{Bytes}

-- `snapshot N`, with the number of entries before it and itself
abbrev pub snapshot_line : ℕ → Bytes
snapshot_line entries = codes "snapshot " ++ decimal entries ++ codes "\n"
