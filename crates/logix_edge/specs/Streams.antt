-- What reading up to a limit and writing a piece do, by the bytes that the reader has left and that the writer holds.
use Rattle.std.specs.Prelude.{ℕ, List, take, Option, Some, IfSome}
use Rattle.std.specs.Io.KnownBytes.{Appends}
use Rattle.logix_edge.specs.declared.shelf.Fetched.{Fetched}
use Rattle.logix_edge.specs.declared.sink.Put.{Put}
use Rattle.logix_edge.specs.declared.sink.Put.TheVariants.{Done, Failed}
use Rattle.logix_edge.specs.Shelves.{Agrees}

-- where the reader tells what it has left: bytes are all of that, and too long says that it is above the limit
abbrev pub ReadsAll : Option (List ℕ) → ℕ → Fetched → Type 0
ReadsAll left limit fetched = IfSome left (λ bytes. Agrees (Some bytes) limit fetched)

-- where the writer tells what it holds: the piece was appended, or after a fault a front of it
abbrev pub WritesPiece : Option (List ℕ) → Option (List ℕ) → List ℕ → Put → Type 0
WritesPiece old new piece Done = Appends old new piece
WritesPiece old new piece Failed = (k : ℕ) × Appends old new (take k piece)
