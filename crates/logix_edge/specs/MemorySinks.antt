-- A sink in memory, as its contracts speak of it.
use Rattle.std.specs.Prelude.{ℕ, ◌+◌, List, length, Bool, ◌||◌, nat_lt}
use Rattle.logix_edge.specs.declared.memory_sink.MemorySink.{MemorySink}
use Rattle.logix_edge.specs.Causes.{counted, is_listed}

-- what was written, oldest first
abbrev pub sink_bytes : MemorySink → List ℕ
sink_bytes sink = sink.bytes.items

-- how many bytes it has room for in all
abbrev pub sink_room : MemorySink → ℕ
sink_room sink = sink.room

-- how many puts there were
abbrev pub sink_calls : MemorySink → ℕ
sink_calls sink = sink.calls.made

-- the numbers of the puts that are to fail
abbrev pub sink_fails : MemorySink → List ℕ
sink_fails sink = sink.calls.fails

-- how many puts failed
abbrev pub sink_faults : MemorySink → ℕ
sink_faults sink = sink.faults

-- the next put, of this piece, is one of those that are to fail, or the piece has no room
abbrev pub put_fails : MemorySink → List ℕ → Bool
put_fails sink piece =
    is_listed (sink_fails sink) (counted (sink_calls sink)) || nat_lt (sink_room sink) (length (sink_bytes sink) + length piece)
