-- What a call that writes a text to a sink answers.
use Rattle.std.specs.Prelude.{◌≡◌, ℕ, List, Option, Result, Ok, Err}
use Rattle.logix_edge.specs.Sinks.{appended, StopsShort}
use Rattle.logix_edge.specs.declared.sink.SinkFailed.{SinkFailed}

-- the text was appended, and the count of faults stands
pub record Appends (old new : Option (List ℕ)) (before now : ℕ) (text : List ℕ) : Type 0 where
  pub whole : new ≡ appended old text
  pub quiet : now ≡ before

-- A text went to a sink: what was written, before and after, and the count of faults, before and now. After an error only
-- a front of the text was appended, and a fault was counted.
abbrev pub IsWritten : Option (List ℕ) → Option (List ℕ) → ℕ → ℕ → List ℕ → Result (Unit {0}) SinkFailed → Type 0
IsWritten old new before now text (Ok done) = Appends old new before now text
IsWritten old new before now text (Err failed) = StopsShort old new before now text
