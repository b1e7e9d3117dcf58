-- What a private call that writes a text through a buffer does. Only private clauses cite these.
use Rattle.std.specs.Prelude.{◌≡◌, ℕ, List, ◌++◌, Option, Result, Ok, Err}
use Rattle.logix_edge.specs.Sinks.{appended, StopsShort}
use Rattle.logix_edge.specs.declared.sink.SinkFailed.{SinkFailed}

-- the text went after the bytes that waited: of all these a front was appended below, the others wait, and the count of faults stands
pub record Flows (old new : Option (List ℕ)) (waited waits : List ℕ) (before now : ℕ) (text : List ℕ) : Type 0 where
  pub passed : List ℕ
  pub whole : passed ++ waits ≡ waited ++ text
  pub below : new ≡ appended old passed
  pub quiet : now ≡ before

-- A text went through a buffer to a sink: what was written below, before and after, the bytes that waited and wait, and the
-- count of faults, before and now. After an error only a front of all these bytes was appended below, and a fault was counted.
abbrev pub IsBuffered : Option (List ℕ) → Option (List ℕ) → List ℕ → List ℕ → ℕ → ℕ → List ℕ → Result (Unit {0}) SinkFailed → Type 0
IsBuffered old new waited waits before now text (Ok done) = Flows old new waited waits before now text
IsBuffered old new waited waits before now text (Err failed) = StopsShort old new before now (waited ++ text)
