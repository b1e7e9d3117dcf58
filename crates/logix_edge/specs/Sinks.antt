-- What a put into a sink does.
use Rattle.std.specs.Prelude.{◌≡◌, ℕ, List, ◌++◌, ◌≤◌, take, Option, Some, None}
use Rattle.logix_edge.specs.declared.sink.Put.{Put}
use Rattle.logix_edge.specs.declared.sink.Put.TheVariants.{Done, Failed}
use Rattle.logix_edge.specs.Causes.{Rose}

-- what was written, with a piece behind it, where the sink tells it
abbrev pub appended : Option (List ℕ) → List ℕ → Option (List ℕ)
appended None piece = None
appended (Some bytes) piece = Some (bytes ++ piece)

-- a fault was counted, and only a front of the piece was written
pub record StopsShort (old new : Option (List ℕ)) (before now : ℕ) (piece : List ℕ) : Type 0 where
  pub front : (k : ℕ) × (new ≡ appended old (take k piece))
  pub later : before ≤ now
  pub rose : Rose before now

-- A sink was put a piece: what was written, before and after, and the count of faults, before and now.
abbrev pub IsPut : Option (List ℕ) → Option (List ℕ) → ℕ → ℕ → List ℕ → Put → Type 0
IsPut old new before now piece Done = (new ≡ appended old piece) × (now ≡ before)
IsPut old new before now piece Failed = StopsShort old new before now piece
