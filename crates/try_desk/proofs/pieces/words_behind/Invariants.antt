use Rattle.std.proofs.Common.{◌≡◌, ◌+◌, take}
use Rattle.try_desk.specs.Cuts.{total}
use Rattle.try_desk.proofs.pieces.words_behind.Given as goal

abbrev pub invariant-loop-i : goal.invariant-loop-i
invariant-loop-i l = total (take l.count l.sizes) + l.words ≡ total (take l.i l.sizes)
