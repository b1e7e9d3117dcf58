-- The faults that the shelf of files and standard output have counted.
use Rattle.std.specs.Prelude.{ℕ, List, Option}
use Rattle.logix_edge.specs.declared.file_shelf.FileShelf.{FileShelf}
use Rattle.logix_edge.specs.declared.out_sink.OutSink.{OutSink}
use Rattle.logix_edge.specs.LastFailed.{last_name}

-- how many fetches of files failed
abbrev pub file_faults : {R F D : Type 0} → FileShelf R F D → ℕ
file_faults shelf = shelf.faults.count

-- the name of the file whose fetch failed last
abbrev pub file_last : {R F D : Type 0} → FileShelf R F D → Option (List ℕ)
file_last shelf = last_name shelf.faults

-- how many puts to standard output failed
abbrev pub out_faults : {R : Type 0} → OutSink R → ℕ
out_faults sink = sink.faults
