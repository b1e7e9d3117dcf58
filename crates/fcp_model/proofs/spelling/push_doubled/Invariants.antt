use Rattle.std.proofs.Common.{◌≡◌, ◌++◌, take}
use Rattle.fcp_model.specs.Spelling.{doubled}
use Rattle.fcp_model.proofs.spelling.push_doubled.Given as goal

-- the bytes so far
abbrev pub invariant-loop-byte : goal.invariant-loop-byte
invariant-loop-byte l = l.text.items ≡ l.fn.text.items ++ doubled (take l.byte-index l.bytes)
