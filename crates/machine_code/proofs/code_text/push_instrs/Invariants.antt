use Rattle.std.proofs.Common.{◌≡◌, ◌++◌, drop}
use Rattle.machine_code.specs.Listing.{instr_lines}
use Rattle.machine_code.proofs.code_text.push_instrs.Given as goal

-- the instructions from here on are left
abbrev pub invariant-loop-at : goal.invariant-loop-at
invariant-loop-at l =
    l.text.items ++ instr_lines l.names l.code l.at (drop l.at l.instrs) ≡ l.fn.text.items ++ instr_lines l.names l.code 0 l.instrs
