use Rattle.std.proofs.Common.{◌≡◌, ◌≤◌, length, take}
use Rattle.word_states.specs.Pieces.{process_words}
use Rattle.try_desk.specs.Cuts.{cut, total}
use Rattle.try_desk.proofs.processes.processes_among.Given as goal

abbrev pub invariant-loop-size : goal.invariant-loop-size
invariant-loop-size l =
    (l.at ≡ total (take l.size-index l.sizes))
    × ((l.count ≡ length (process_words 4000000000 (cut l.words (take l.size-index l.sizes)))) × (l.count ≤ l.size-index))
